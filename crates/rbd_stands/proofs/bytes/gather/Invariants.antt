use Rattle.std.proofs.Common.{◌≡◌, ◌++◌, drop}
use Rattle.rbd_stands.specs.Kept.{bytes_kept}
use Rattle.rbd_stands.proofs.bytes.gather.Given as goal

-- what was kept, and what is left to keep
abbrev pub invariant-loop-part : goal.invariant-loop-part
invariant-loop-part l = l.kept.items ++ bytes_kept l.held (drop l.part-index l.parts) l.rest ≡ bytes_kept l.held l.parts l.bytes

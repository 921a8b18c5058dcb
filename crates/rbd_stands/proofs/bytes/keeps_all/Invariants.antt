use Rattle.std.proofs.Common.{◌≡◌, drop}
use Rattle.rbd_stands.specs.Kept.{bytes_kept}
use Rattle.rbd_stands.proofs.bytes.keeps_all.Given as goal

-- where what is left is kept, all is
abbrev pub invariant-loop-part : goal.invariant-loop-part
invariant-loop-part l = bytes_kept l.held (drop l.part-index l.parts) l.rest ≡ l.rest → bytes_kept l.held l.parts l.bytes ≡ l.bytes

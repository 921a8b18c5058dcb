use Rattle.std.proofs.Common.{◌≡◌, ◌++◌, drop}
use Rattle.rbd_parts.specs.Parts.{parts_of}
use Rattle.rbd_parts.proofs.parts.gather.Given as goal

-- what was read, and what is left to read
abbrev pub invariant-loop-part : goal.invariant-loop-part
invariant-loop-part l = l.gathered.items ++ parts_of (drop l.part-index l.parts) l.bytes ≡ parts_of l.parts l.bytes

use Rattle.std.proofs.Common.{◌≡◌, map, take}
use Rattle.rbd_parts.specs.Parts.{shifted}
use Rattle.rbd_parts.proofs.parts.shifted_parts.Given as goal

-- the parts so far
abbrev pub invariant-loop-part : goal.invariant-loop-part
invariant-loop-part l = l.shifts.items ≡ map (shifted l.from) (take l.part-index l.parts)

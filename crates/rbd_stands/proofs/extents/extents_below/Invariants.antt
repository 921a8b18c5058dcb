use Rattle.std.proofs.Common.{◌≡◌, ◌++◌, drop}
use Rattle.rbd_stands.specs.Effect.{extents_below}
use Rattle.rbd_stands.proofs.extents.extents_below.Given as goal

-- what was found, and what is left to find
abbrev pub invariant-loop-part : goal.invariant-loop-part
invariant-loop-part l = l.found ++ extents_below l.header.layout l.header.size l.object (drop l.part-index l.parts) ≡ extents_below l.header.layout l.header.size l.object l.parts

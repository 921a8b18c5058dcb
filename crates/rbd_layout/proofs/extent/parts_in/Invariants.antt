use Rattle.std.proofs.Common.{◌-◌}
use Rattle.rbd_layout.proofs.Walk.{Walked}
use Rattle.rbd_layout.proofs.extent.parts_in.Given as goal

abbrev pub invariant-loop-offset : goal.invariant-loop-offset
invariant-loop-offset l = Walked l.layout l.object l.initial.offset l.offset l.end l.parts

abbrev pub decreases-loop-offset : goal.decreases-loop-offset
decreases-loop-offset l = l.end - l.offset

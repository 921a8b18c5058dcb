use Rattle.rbd_layout.proofs.Gather.{Gathered}
use Rattle.rbd_layout.proofs.extent.pieces.Given as goal

abbrev pub invariant-loop-object : goal.invariant-loop-object
invariant-loop-object l = Gathered l.layout l.extent l.object l.pieces.items

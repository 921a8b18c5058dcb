use Rattle.std.proofs.Common.{drop}
use Rattle.rbd_queue.specs.Line.{changed_member}
use Rattle.rbd_slots.specs.Track.{given_tickets}
use Rattle.rbd_slots.proofs.Entering.{IsEntering}
use Rattle.rbd_slots.proofs.lines.enter_all.Given as goal

abbrev pub invariant-loop-object : goal.invariant-loop-object
invariant-loop-object l = IsEntering l.slot (changed_member l.slot (given_tickets l.objects) l.fn.line.members) (drop l.object-index l.objects) l.line

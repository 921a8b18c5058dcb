use Rattle.std.proofs.Common.{length}
use Rattle.rbd_guard.specs.Tickets.{list}
use Rattle.rbd_guard.proofs.Leaving.{AreLeaving}
use Rattle.rbd_guard.proofs.guard.Guard.leave_all.Given as goal

abbrev pub invariant-loop-ticket : goal.invariant-loop-ticket
invariant-loop-ticket l = AreLeaving l.request l.fn.self l.self

abbrev pub decreases-loop-ticket : goal.decreases-loop-ticket
decreases-loop-ticket l = length (list l.request l.self)

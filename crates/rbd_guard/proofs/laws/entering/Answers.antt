use Rattle.rbd_guard.proofs.Leaving.{order_entering, last_entering}
use Rattle.rbd_guard.proofs.laws.entering.Goals as goal

pub returns-clause-order : goal.returns-clause-order
returns-clause-order c = order_entering

pub returns-clause-last : goal.returns-clause-last
returns-clause-last c = last_entering

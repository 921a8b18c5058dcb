use Rattle.rbd_guard.proofs.Apart.{out, others}
use Rattle.rbd_guard.proofs.Leaving.{order_leaving, next_is, one_leaves}
use Rattle.rbd_guard.proofs.laws.leaving.Goals as goal

pub returns-clause-out : goal.returns-clause-out
returns-clause-out c = out

pub returns-clause-others : goal.returns-clause-others
returns-clause-others c = others

pub returns-clause-order : goal.returns-clause-order
returns-clause-order c = order_leaving

pub returns-clause-next : goal.returns-clause-next
returns-clause-next c = next_is

pub returns-clause-one : goal.returns-clause-one
returns-clause-one c = one_leaves

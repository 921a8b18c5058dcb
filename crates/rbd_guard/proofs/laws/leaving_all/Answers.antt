use Rattle.rbd_guard.proofs.Leaving.{out_all, others_all, order_leaving_all}
use Rattle.rbd_guard.proofs.laws.leaving_all.Goals as goal

pub returns-clause-out : goal.returns-clause-out
returns-clause-out c = out_all

pub returns-clause-others : goal.returns-clause-others
returns-clause-others c = others_all

pub returns-clause-order : goal.returns-clause-order
returns-clause-order c = order_leaving_all

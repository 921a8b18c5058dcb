use Rattle.rbd_queue.proofs.Passing.{own_changed, others_changed, none_behind_changed}
use Rattle.rbd_queue.proofs.laws.changing.Goals as goal

pub returns-clause-own : goal.returns-clause-own
returns-clause-own c = own_changed

pub returns-clause-others : goal.returns-clause-others
returns-clause-others c = others_changed

pub returns-clause-behind : goal.returns-clause-behind
returns-clause-behind c = none_behind_changed

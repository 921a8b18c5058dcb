use Rattle.rbd_queue.proofs.Passing.{apart_past, apart_waits}
use Rattle.rbd_queue.proofs.laws.who_doesnt_go_together_waits.Goals as goal

pub returns-clause-past : goal.returns-clause-past
returns-clause-past c = apart_past

pub returns-clause-behind : goal.returns-clause-behind
returns-clause-behind c = apart_waits

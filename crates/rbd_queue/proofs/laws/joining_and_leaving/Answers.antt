use Rattle.rbd_queue.proofs.Passing.{joined_found, others_joined, gone, others_left}
use Rattle.rbd_queue.proofs.laws.joining_and_leaving.Goals as goal

pub returns-clause-joined : goal.returns-clause-joined
returns-clause-joined c = joined_found

pub returns-clause-joined_others : goal.returns-clause-joined_others
returns-clause-joined_others c = others_joined

pub returns-clause-left : goal.returns-clause-left
returns-clause-left c = gone

pub returns-clause-left_others : goal.returns-clause-left_others
returns-clause-left_others c = others_left

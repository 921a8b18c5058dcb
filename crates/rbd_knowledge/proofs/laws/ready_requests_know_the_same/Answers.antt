use Rattle.rbd_knowledge.proofs.Behind.{alike_know}
use Rattle.rbd_knowledge.proofs.laws.ready_requests_know_the_same.Goals as goal

pub returns : goal.returns
returns R c = alike_know R.R.Machine.stands

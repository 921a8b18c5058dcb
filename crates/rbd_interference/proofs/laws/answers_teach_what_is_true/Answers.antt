use Rattle.rbd_interference.proofs.Learned.{own_learned}
use Rattle.rbd_interference.proofs.laws.answers_teach_what_is_true.Goals as goal

pub returns : goal.returns
returns c = own_learned

use Rattle.rbd_interference.proofs.Less.{waits_learned}
use Rattle.rbd_interference.proofs.laws.waits_teach_what_is_true.Goals as goal

pub returns : goal.returns
returns c = λ site r me k w t. waits_learned site r me k t w

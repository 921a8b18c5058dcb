use Rattle.rbd_interference.proofs.Possible.{answer_possible}
use Rattle.rbd_interference.proofs.laws.answers_are_possible.Goals as goal

pub returns : goal.returns
returns c = λ site r me k op truth. answer_possible site r me k truth op

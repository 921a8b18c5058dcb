use Rattle.rbd_interference.proofs.Learned.{learned_of_fence}
use Rattle.rbd_interference.proofs.laws.fences_teach_nothing.Goals as goal

pub returns : goal.returns
returns c = λ site k o. learned_of_fence k site o

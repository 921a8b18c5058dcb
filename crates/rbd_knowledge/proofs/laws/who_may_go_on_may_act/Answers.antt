use Rattle.rbd_knowledge.proofs.Looking.{may_act}
use Rattle.rbd_knowledge.proofs.laws.who_may_go_on_may_act.Goals as goal

pub returns : goal.returns
returns R c = λ s slot other r knows site why o next sound all differ runs goes asks records me you. may_act R.R.Machine.stands s knows sound all slot other r site why o next differ runs goes asks records me you

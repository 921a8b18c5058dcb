use Rattle.rbd_knowledge.proofs.Newcomers.{newcomer_knows}
use Rattle.rbd_knowledge.proofs.laws.newcomers_know_nothing.Goals as goal

pub returns : goal.returns
returns R c = λ seat line slot work r lines.
    newcomer_knows R.R.Machine.stands R.R.Request.stands_for R.R.Request.extent_for R.R.Request.serves R.met.R.Request.lawful seat line slot work r lines

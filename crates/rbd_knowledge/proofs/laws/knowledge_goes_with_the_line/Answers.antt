use Rattle.rbd_knowledge.proofs.Behind.{fed_know}
use Rattle.rbd_knowledge.proofs.laws.knowledge_goes_with_the_line.Goals as goal

pub returns : goal.returns
returns R c = λ s t slot r f result knows sound after_sound runs goes can alone possible is_fed slots leaves all.
    fed_know R.R.Machine.stands s t slot r f result knows sound runs goes can alone possible is_fed slots leaves all

use Rattle.rbd_knowledge.proofs.Fed.{feeding_is_known}
use Rattle.rbd_knowledge.proofs.client_laws.answers_are_known.Goals as goal

pub returns : goal.returns
returns g c = λ old new knows slot site o f result sound session all slots leaves is can standalone possible fed.
    feeding_is_known g.R.Machine.stands old new knows slot site o f result standalone possible sound session all slots leaves is can fed

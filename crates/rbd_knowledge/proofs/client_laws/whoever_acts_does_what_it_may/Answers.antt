use Rattle.rbd_knowledge.proofs.Permitted.{does_what_it_may, knows_truly}
use Rattle.rbd_knowledge.proofs.client_laws.whoever_acts_does_what_it_may.Goals as goal

pub returns-clause-permits : goal.returns-clause-permits
returns-clause-permits g c = λ client knows slot site o all is. does_what_it_may g.R.Machine.stands slot client knows site o all is

pub returns-clause-truth : goal.returns-clause-truth
returns-clause-truth g c = λ client knows slot site r me t. knows_truly g.R.Machine.stands slot client knows site r me t

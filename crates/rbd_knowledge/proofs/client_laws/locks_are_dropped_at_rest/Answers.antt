use Rattle.rbd_knowledge.proofs.Drops.{drops_rest}
use Rattle.rbd_knowledge.proofs.Permitted.{does_what_it_may}
use Rattle.rbd_knowledge.proofs.client_laws.locks_are_dropped_at_rest.Goals as goal

pub returns : goal.returns
returns g c = λ client knows slot site o sound all wanted.
    drops_rest g.R.Machine.stands client knows sound all slot site o wanted (does_what_it_may g.R.Machine.stands slot client knows site o all wanted)

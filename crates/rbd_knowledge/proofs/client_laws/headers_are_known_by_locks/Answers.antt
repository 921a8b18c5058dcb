use Rattle.rbd_knowledge.proofs.HeadersOwned.{knows_by_lock}
use Rattle.rbd_knowledge.proofs.client_laws.headers_are_known_by_locks.Goals as goal

pub returns : goal.returns
returns g c = λ client knows slot site r me t. knows_by_lock client knows slot site r me t

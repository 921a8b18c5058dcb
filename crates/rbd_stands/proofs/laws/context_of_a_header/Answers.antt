use Rattle.rbd_stands.proofs.StoreSteps.{context_from}
use Rattle.rbd_stands.proofs.Contexts.{reversed_context}
use Rattle.rbd_stands.proofs.laws.context_of_a_header.Goals as goal

pub returns-clause-any : goal.returns-clause-any
returns-clause-any c = context_from

pub returns-clause-told : goal.returns-clause-told
returns-clause-told c = reversed_context

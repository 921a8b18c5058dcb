use Rattle.rbd_stands.proofs.LogSteps.{lock_claim, another_claim}
use Rattle.rbd_stands.proofs.fencing.who_loses_a_lock_is_listed.Goals as goal

pub returns-clause-keeps : goal.returns-clause-keeps
returns-clause-keeps c = lock_claim

pub returns-clause-another : goal.returns-clause-another
returns-clause-another c = another_claim

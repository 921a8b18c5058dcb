use Rattle.rbd_stands.proofs.LogSteps.{still_listed, does_nothing, lock_stays}
use Rattle.rbd_stands.proofs.fencing.who_is_listed_does_nothing.Goals as goal

pub returns-clause-listed : goal.returns-clause-listed
returns-clause-listed c = still_listed

pub returns-clause-nothing : goal.returns-clause-nothing
returns-clause-nothing c = does_nothing

pub returns-clause-lock : goal.returns-clause-lock
returns-clause-lock c = lock_stays

use Rattle.rbd_replies.proofs.AtPlaces.{fences_hold, locks_hold}
use Rattle.rbd_replies.proofs.laws.fences_and_locks_hold_in_worlds.Goals as goal

pub returns-clause-fences : goal.returns-clause-fences
returns-clause-fences c = λ w told. fences_hold told.homes told.run told.right

pub returns-clause-locks : goal.returns-clause-locks
returns-clause-locks c = λ w told. locks_hold told.homes told.run told.right

use Rattle.rbd_lock.proofs.Least.{found, least, none}
use Rattle.rbd_lock.proofs.laws.the_next_is_the_least.Goals as goal

pub returns-clause-found : goal.returns-clause-found
returns-clause-found c = found

pub returns-clause-least : goal.returns-clause-least
returns-clause-least c = least

pub returns-clause-none : goal.returns-clause-none
returns-clause-none c = none

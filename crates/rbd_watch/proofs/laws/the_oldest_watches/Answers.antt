use Rattle.rbd_watch.proofs.Oldest.{oldest_watches, oldest_is_least, none_watches}
use Rattle.rbd_watch.proofs.laws.the_oldest_watches.Goals as goal

pub returns-clause-watching : goal.returns-clause-watching
returns-clause-watching c = oldest_watches

pub returns-clause-least : goal.returns-clause-least
returns-clause-least c = oldest_is_least

pub returns-clause-none : goal.returns-clause-none
returns-clause-none c = none_watches

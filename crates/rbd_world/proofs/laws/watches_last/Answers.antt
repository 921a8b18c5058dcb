use Rattle.rbd_world.proofs.StillWatching.{watcher_has_watched, watches_still}
use Rattle.rbd_world.proofs.laws.watches_last.Goals as goal

pub returns-clause-lasts : goal.returns-clause-lasts
returns-clause-lasts c = λ homes run s image who right has unended. watches_still homes who s image run right has unended

pub returns-clause-was : goal.returns-clause-was
returns-clause-was c = λ homes run s image who right is. watcher_has_watched homes who s image run right is

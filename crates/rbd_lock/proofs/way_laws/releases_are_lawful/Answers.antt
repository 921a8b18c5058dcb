use Rattle.rbd_lock.proofs.Lawful.{lawful_release}
use Rattle.rbd_lock.proofs.way_laws.releases_are_lawful.Goals as goal

pub returns : goal.returns
returns c = λ known_at k site image holds. lawful_release known_at site image k holds

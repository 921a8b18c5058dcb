use Rattle.rbd_lock.proofs.Released.{release_ends, bounded_release, closed_release, release_owned}
use Rattle.rbd_lock.proofs.way_laws.releases_let_go.Goals as goal

pub returns-clause-ends : goal.returns-clause-ends
returns-clause-ends c = release_ends

pub returns-clause-owned : goal.returns-clause-owned
returns-clause-owned c = λ site image owned feds first more last walk. release_owned site image owned feds first more last walk

pub returns-clause-bounded : goal.returns-clause-bounded
returns-clause-bounded c = bounded_release

pub returns-clause-closed : goal.returns-clause-closed
returns-clause-closed c = closed_release

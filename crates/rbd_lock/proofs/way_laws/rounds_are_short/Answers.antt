use Rattle.rbd_lock.proofs.Bounded.{bounded_taking, bounded_acquire}
use Rattle.rbd_lock.proofs.way_laws.rounds_are_short.Goals as goal

pub returns-clause-round : goal.returns-clause-round
returns-clause-round c = bounded_taking

pub returns-clause-way : goal.returns-clause-way
returns-clause-way c = bounded_acquire

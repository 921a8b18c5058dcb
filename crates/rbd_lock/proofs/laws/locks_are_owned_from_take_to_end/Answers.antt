use Rattle.rbd_lock.proofs.Lasting.{dropped_stays, owned_is, removed_stays, taken_stays}
use Rattle.rbd_lock.proofs.laws.locks_are_owned_from_take_to_end.Goals as goal

pub returns-clause-by_operations : goal.returns-clause-by_operations
returns-clause-by_operations c = λ site image s comings. owned_is site image comings s

pub returns-clause-taken : goal.returns-clause-taken
returns-clause-taken c = taken_stays

pub returns-clause-dropped : goal.returns-clause-dropped
returns-clause-dropped c = dropped_stays

pub returns-clause-removed : goal.returns-clause-removed
returns-clause-removed c = removed_stays

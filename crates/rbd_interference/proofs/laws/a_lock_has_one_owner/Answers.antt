use Rattle.rbd_interference.proofs.Locks.{apart_by_locks, breaks_by_lock, one_owner, shares_by_lock}
use Rattle.rbd_interference.proofs.laws.a_lock_has_one_owner.Goals as goal

pub returns-clause-one : goal.returns-clause-one
returns-clause-one c = one_owner

pub returns-clause-beside : goal.returns-clause-beside
returns-clause-beside c = apart_by_locks

pub returns-clause-looks : goal.returns-clause-looks
returns-clause-looks c = λ site r me you k j image differ mine yours. shares_by_lock site r me you k j image differ mine yours

pub returns-clause-drops : goal.returns-clause-drops
returns-clause-drops c = λ site r me you k j image differ yours lock. shares_by_lock site r me you k j image differ (λ free. lock) yours

pub returns-clause-changes : goal.returns-clause-changes
returns-clause-changes c = λ site r me you k j image object differ mine yours. breaks_by_lock site r me you k j image _ differ mine yours

use Rattle.rbd_lock.proofs.Bounded.{all_bounded, watch_bounded, break_bounded, taken_bounded, take_bounded}
use Rattle.rbd_lock.proofs.way_laws.ways_keep_bounds.Goals as goal

pub returns-clause-all : goal.returns-clause-all
returns-clause-all c = λ site image watched feds steps last way. all_bounded site image feds steps last watched way

pub returns-clause-watch : goal.returns-clause-watch
returns-clause-watch c = λ site image watched feds steps last way. watch_bounded site image feds steps last watched way

pub returns-clause-broken : goal.returns-clause-broken
returns-clause-broken c = λ site image watched feds steps last way. break_bounded site image feds steps last watched way

pub returns-clause-taken : goal.returns-clause-taken
returns-clause-taken c = λ site image watched feds steps last way. taken_bounded site image feds steps last watched way

pub returns-clause-takes : goal.returns-clause-takes
returns-clause-takes c = λ site image watched feds steps last way. take_bounded site image feds steps last watched way

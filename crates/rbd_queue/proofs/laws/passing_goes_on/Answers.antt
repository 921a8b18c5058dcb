use Rattle.rbd_queue.proofs.Passing.{first_may, may_left, may_joined, may_changed}
use Rattle.rbd_queue.proofs.laws.passing_goes_on.Goals as goal

pub returns-clause-first : goal.returns-clause-first
returns-clause-first c = first_may

pub returns-clause-left : goal.returns-clause-left
returns-clause-left c = may_left

pub returns-clause-joined : goal.returns-clause-joined
returns-clause-joined c = may_joined

pub returns-clause-changed : goal.returns-clause-changed
returns-clause-changed c = may_changed

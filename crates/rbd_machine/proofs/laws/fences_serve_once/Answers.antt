use Rattle.rbd_machine.proofs.Fences.{fence_is_known, fence_is_of_no_other, fence_is_not_elsewhere, fence_is_forgotten}
use Rattle.rbd_machine.proofs.laws.fences_serve_once.Goals as goal

pub returns-clause-known : goal.returns-clause-known
returns-clause-known c = fence_is_known

pub returns-clause-others : goal.returns-clause-others
returns-clause-others c = fence_is_of_no_other

pub returns-clause-elsewhere : goal.returns-clause-elsewhere
returns-clause-elsewhere c = fence_is_not_elsewhere

pub returns-clause-broken : goal.returns-clause-broken
returns-clause-broken c = λ k site image i. fence_is_forgotten k site i

pub returns-clause-changed : goal.returns-clause-changed
returns-clause-changed c = λ k site image i. fence_is_forgotten k site i

use Rattle.rbd_queue.proofs.Keeping.{is_found}
use Rattle.rbd_queue.proofs.Passing.{found_at}
use Rattle.rbd_queue.proofs.laws.finding.Goals as goal

pub returns-clause-is_some : goal.returns-clause-is_some
returns-clause-is_some c = λ members slot. is_found slot members

pub returns-clause-slot : goal.returns-clause-slot
returns-clause-slot c = found_at

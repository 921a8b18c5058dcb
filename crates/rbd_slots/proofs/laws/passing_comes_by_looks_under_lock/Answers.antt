use Rattle.rbd_slots.proofs.LooksUnderLock.{passes_by_look_under_lock}
use Rattle.rbd_slots.proofs.laws.passing_comes_by_looks_under_lock.Goals as goal

pub returns : goal.returns
returns R c = passes_by_look_under_lock R.R.Machine.stands R.R.Machine.is_ready

use Rattle.rbd_slots.proofs.LooksUnderLock.{at_look_under_lock}
use Rattle.rbd_slots.proofs.laws.looks_under_lock_are_in_line.Goals as goal

pub returns : goal.returns
returns R c = at_look_under_lock R.R.Machine.stands

use Rattle.rbd_slots.proofs.LooksUnderLockStay.{stands_as_before, stays_behind_feeding, stays_behind_end, looks_as_before}
use Rattle.rbd_slots.proofs.laws.looks_under_lock_stay.Goals as goal

pub returns-clause-stands : goal.returns-clause-stands
returns-clause-stands R c = stands_as_before R.R.Machine.stands

pub returns-clause-fed : goal.returns-clause-fed
returns-clause-fed R c = λ s new slot other p f reply sound differ held fed leaves at.
    stays_behind_feeding R.R.Machine.stands s new slot other p sound differ held at f reply fed leaves

pub returns-clause-given_up : goal.returns-clause-given_up
returns-clause-given_up R c = λ s new slot other p r sound differ held left at. stays_behind_end R.R.Machine.stands s new slot other p sound differ held at r left

pub returns-clause-readied : goal.returns-clause-readied
returns-clause-readied R c = λ s new slot alike. looks_as_before R.R.Machine.stands s new alike slot

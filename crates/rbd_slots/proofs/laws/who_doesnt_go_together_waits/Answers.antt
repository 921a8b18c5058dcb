use Rattle.rbd_slots.proofs.Consequences.{apart_beside, apart_held}
use Rattle.rbd_slots.proofs.laws.who_doesnt_go_together_waits.Goals as goal

pub returns-clause-past : goal.returns-clause-past
returns-clause-past R c = apart_beside R.R.Machine.stands

pub returns-clause-waits : goal.returns-clause-waits
returns-clause-waits R c = apart_held R.R.Machine.stands

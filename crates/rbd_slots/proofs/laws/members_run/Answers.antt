use Rattle.rbd_slots.proofs.Consequences.{members_run_there}
use Rattle.rbd_slots.proofs.laws.members_run.Goals as goal

pub returns : goal.returns
returns R c = members_run_there _

use Rattle.rbd_slots.proofs.Consequences.{first_goes}
use Rattle.rbd_slots.proofs.laws.first_goes_on.Goals as goal

pub returns : goal.returns
returns R c = first_goes _

use Rattle.rbd_slots.proofs.Consequences.{alone_beside}
use Rattle.rbd_slots.proofs.laws.alone_is_alone.Goals as goal

pub returns : goal.returns
returns R c = alone_beside _

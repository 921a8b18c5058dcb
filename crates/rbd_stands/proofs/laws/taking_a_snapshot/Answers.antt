use Rattle.rbd_stands.proofs.ImageSteps.{snap_stands}
use Rattle.rbd_stands.proofs.laws.taking_a_snapshot.Goals as goal

pub returns : goal.returns
returns c = snap_stands

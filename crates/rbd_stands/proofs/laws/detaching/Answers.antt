use Rattle.rbd_stands.proofs.EditSteps.{detach_stands}
use Rattle.rbd_stands.proofs.laws.detaching.Goals as goal

pub returns : goal.returns
returns c = detach_stands

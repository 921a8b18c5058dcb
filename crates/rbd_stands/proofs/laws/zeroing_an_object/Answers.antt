use Rattle.rbd_stands.proofs.DataSteps.{zero_stands}
use Rattle.rbd_stands.proofs.laws.zeroing_an_object.Goals as goal

pub returns : goal.returns
returns c = zero_stands

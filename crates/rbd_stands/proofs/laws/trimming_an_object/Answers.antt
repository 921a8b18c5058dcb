use Rattle.rbd_stands.proofs.StoreSteps.{trim_stands}
use Rattle.rbd_stands.proofs.laws.trimming_an_object.Goals as goal

pub returns : goal.returns
returns c = trim_stands

use Rattle.rbd_stands.proofs.CloneSteps.{copy_stands}
use Rattle.rbd_stands.proofs.laws.copying_up_an_object.Goals as goal

pub returns : goal.returns
returns c = copy_stands

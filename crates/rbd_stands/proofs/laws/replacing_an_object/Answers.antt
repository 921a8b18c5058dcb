use Rattle.rbd_stands.proofs.DataSteps.{replace_stands}
use Rattle.rbd_stands.proofs.laws.replacing_an_object.Goals as goal

pub returns : goal.returns
returns c = replace_stands

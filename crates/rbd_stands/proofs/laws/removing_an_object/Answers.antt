use Rattle.rbd_stands.proofs.DataSteps.{remove_stands}
use Rattle.rbd_stands.proofs.laws.removing_an_object.Goals as goal

pub returns : goal.returns
returns c = remove_stands

use Rattle.rbd_stands.proofs.DataSteps.{empty_stands}
use Rattle.rbd_stands.proofs.laws.emptying_an_object.Goals as goal

pub returns : goal.returns
returns c = empty_stands

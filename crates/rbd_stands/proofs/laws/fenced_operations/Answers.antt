use Rattle.rbd_stands.proofs.StoreSteps.{fenced_stands}
use Rattle.rbd_stands.proofs.laws.fenced_operations.Goals as goal

pub returns : goal.returns
returns c = fenced_stands

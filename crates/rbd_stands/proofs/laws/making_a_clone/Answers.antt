use Rattle.rbd_stands.proofs.CloneSteps.{clone_stands}
use Rattle.rbd_stands.proofs.laws.making_a_clone.Goals as goal

pub returns : goal.returns
returns c = clone_stands

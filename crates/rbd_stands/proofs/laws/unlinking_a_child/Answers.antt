use Rattle.rbd_stands.proofs.ChildSteps.{unlink_stands}
use Rattle.rbd_stands.proofs.laws.unlinking_a_child.Goals as goal

pub returns : goal.returns
returns c = unlink_stands

use Rattle.rbd_stands.proofs.ChildSteps.{link_stands}
use Rattle.rbd_stands.proofs.laws.linking_a_child.Goals as goal

pub returns : goal.returns
returns c = link_stands

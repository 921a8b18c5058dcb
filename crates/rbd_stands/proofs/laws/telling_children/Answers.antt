use Rattle.rbd_stands.proofs.ChildSteps.{children_told}
use Rattle.rbd_stands.proofs.laws.telling_children.Goals as goal

pub returns : goal.returns
returns c = children_told

use Rattle.rbd_stands.proofs.ChildSteps.{ended_stands}
use Rattle.rbd_stands.proofs.laws.ending_clones.Goals as goal

pub returns : goal.returns
returns c = ended_stands

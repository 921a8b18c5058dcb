use Rattle.rbd_stands.proofs.ChildSteps.{begun_stands}
use Rattle.rbd_stands.proofs.laws.beginning_a_clone.Goals as goal

pub returns : goal.returns
returns c = begun_stands

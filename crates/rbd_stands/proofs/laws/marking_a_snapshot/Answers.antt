use Rattle.rbd_stands.proofs.EditSteps.{status_stands}
use Rattle.rbd_stands.proofs.laws.marking_a_snapshot.Goals as goal

pub returns : goal.returns
returns c = status_stands

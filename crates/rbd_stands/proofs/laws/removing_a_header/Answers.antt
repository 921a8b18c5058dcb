use Rattle.rbd_stands.proofs.EditSteps.{gone_stands}
use Rattle.rbd_stands.proofs.laws.removing_a_header.Goals as goal

pub returns : goal.returns
returns c = gone_stands

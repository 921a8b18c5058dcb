use Rattle.rbd_stands.proofs.DataSteps.{any_head_stands}
use Rattle.rbd_stands.proofs.laws.changing_a_head.Goals as goal

pub returns : goal.returns
returns c = any_head_stands

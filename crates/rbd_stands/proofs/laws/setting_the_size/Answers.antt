use Rattle.rbd_stands.proofs.EditSteps.{size_stands}
use Rattle.rbd_stands.proofs.laws.setting_the_size.Goals as goal

pub returns : goal.returns
returns c = size_stands

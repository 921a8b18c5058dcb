use Rattle.rbd_stands.proofs.EditSteps.{role_stands}
use Rattle.rbd_stands.proofs.laws.setting_the_role.Goals as goal

pub returns : goal.returns
returns c = role_stands

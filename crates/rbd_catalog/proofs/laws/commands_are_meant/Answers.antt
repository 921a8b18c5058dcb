use Rattle.rbd_catalog.specs.CommandsMeant.{command_is_meant}
use Rattle.rbd_catalog.proofs.laws.commands_are_meant.Goals as goal

pub returns : goal.returns
returns c = command_is_meant

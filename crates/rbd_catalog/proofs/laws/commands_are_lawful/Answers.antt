use Rattle.rbd_catalog.specs.CommandsLawful.{command_is_lawful}
use Rattle.rbd_catalog.proofs.laws.commands_are_lawful.Goals as goal

pub returns : goal.returns
returns c = command_is_lawful

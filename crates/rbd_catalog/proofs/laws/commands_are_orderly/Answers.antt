use Rattle.rbd_catalog.specs.CommandsOrderly.{command_is_orderly}
use Rattle.rbd_catalog.proofs.laws.commands_are_orderly.Goals as goal

pub returns : goal.returns
returns c = command_is_orderly

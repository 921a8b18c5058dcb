use Rattle.rbd_catalog.proofs.Closed.{command_is_closed}
use Rattle.rbd_catalog.proofs.laws.commands_are_closed.Goals as goal

pub returns : goal.returns
returns c = command_is_closed

use Rattle.rbd_catalog.proofs.Turns.{command_takes_turns}
use Rattle.rbd_catalog.proofs.laws.turns_are_those_of_the_extent.Goals as goal

pub returns : goal.returns
returns c = command_takes_turns

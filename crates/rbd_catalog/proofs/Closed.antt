-- The labels of requests stand at operations.
use Rattle.rbd_commands.specs.declared.command.Command.{Command}
use Rattle.rbd_machine.specs.Plan.{Standing, IsClosed}
use Rattle.rbd_machine.specs.declared.seat.Seat.{Seat}
use Rattle.rbd_catalog.specs.CommandsOrderly.{command_is_orderly}
use Rattle.rbd_catalog.specs.Plans.{IsPlanFor}

pub command_is_closed : (seat : Seat) (c : Command) (s : Standing) → IsPlanFor seat c s → IsClosed s.labels s.plan
command_is_closed seat c s is = (command_is_orderly seat c s is).closed

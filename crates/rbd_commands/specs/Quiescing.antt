use Rattle.rbd_commands.specs.declared.command.Command.{Command}
use Rattle.rbd_commands.specs.declared.command.Command.TheVariants as command
use Rattle.rbd_commands.specs.declared.quiescing.Quiescing.{Quiescing}
use Rattle.rbd_commands.specs.declared.quiescing.Quiescing.TheVariants as quiescing

-- what a command does to a quiesce of its image
abbrev pub quiescing_of : Command → Quiescing
quiescing_of (command.Quiesce image) = quiescing.Begins
quiescing_of (command.Resume image) = quiescing.Ends
quiescing_of c = quiescing.Leaves

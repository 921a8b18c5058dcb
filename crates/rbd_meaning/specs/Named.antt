-- The name that a command looks up.
use Rattle.std.specs.Prelude.{ℕ, List, Option, Some}
use Rattle.rbd_commands.specs.declared.command.Command.{Command}
use Rattle.rbd_commands.specs.declared.command.Command.TheVariants as command
use Rattle.rbd_meaning.specs.Straight.{name_of, straight_of}

abbrev pub looks_up : Command → Option (List ℕ)
looks_up (command.Write image at bytes) = Some image
looks_up (command.Fill image at len byte) = Some image
looks_up (command.Discard image at len) = Some image
looks_up (command.Read image snap at len) = Some image
looks_up (command.Resize image size) = Some image
looks_up (command.Remove image) = Some image
looks_up (command.Info image) = Some image
looks_up (command.Used image) = Some image
looks_up (command.SnapList image) = Some image
looks_up (command.SnapCreate image snap) = Some image
looks_up (command.SnapRemove image snap) = Some image
looks_up (command.SnapRollback image snap) = Some image
looks_up (command.Close image) = Some image
looks_up (command.Quiesce image) = Some image
looks_up c = name_of (straight_of c)

-- The kinds of reply that a command may have.
use Rattle.std.specs.Prelude.{◌&&◌, Bool, true, false, is_some}
use Rattle.rbd_commands.specs.declared.command.Command.{Command}
use Rattle.rbd_commands.specs.declared.command.Command.TheVariants as command
use Rattle.rbd_kinds.specs.declared.reply.Reply.{Reply}
use Rattle.rbd_kinds.specs.declared.reply.Reply.TheVariants as reply
use Rattle.rbd_meaning.specs.Straight.{straight_of}

abbrev pub is_done : Reply → Bool
is_done reply.Done = true
is_done _ = false

-- whether this reply is one to the command, where it isn't refused
abbrev pub grants : Command → Reply → Bool
grants (command.Create image size shape) r = is_done r
grants (command.Write image at bytes) r = is_done r
grants (command.Fill image at len byte) r = is_done r
grants (command.Discard image at len) r = is_done r
grants (command.Read image snap at len) (reply.Bytes bytes) = true
grants (command.Resize image size) r = is_done r
grants (command.Rename from to) r = is_done r
grants (command.Remove image) r = is_done r
grants (command.Used image) (reply.Used used of) = true
grants command.List (reply.Names names) = true
grants (command.Info image) (reply.Info header) = true
grants (command.SnapList image) (reply.Snaps snaps) = true
grants (command.SnapCreate image snap) r = is_done r
grants (command.SnapRemove image snap) r = is_done r
grants (command.SnapRollback image snap) r = is_done r
grants (command.Close image) r = is_done r
grants (command.Quiesce image) r = is_done r
grants c r = is_some (straight_of c) && is_done r

-- any command may be refused
abbrev pub may_answer : Command → Reply → Bool
may_answer c (reply.Refused x) = true
may_answer c r = grants c r

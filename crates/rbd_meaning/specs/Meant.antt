-- What a reply means: what was done or told, or what refused it.
use Rattle.std.specs.Prelude.{◌≡◌, List, false, Option, Some, None, replicate}
use Rattle.rbd_commands.specs.declared.command.Command.{Command}
use Rattle.rbd_commands.specs.declared.command.Command.TheVariants as command
use Rattle.rbd_kinds.specs.declared.reply.Reply.{Reply}
use Rattle.rbd_machine.specs.Path.{Answered}
use Rattle.rbd_machine.specs.declared.seat.Seat.{Seat}
use Rattle.rbd_meaning.specs.Closes.{CloseMeans, QuiesceMeans}
use Rattle.rbd_meaning.specs.Creates.{CreateMeans}
use Rattle.rbd_meaning.specs.Discards.{DiscardMeans}
use Rattle.rbd_meaning.specs.Listings.{InfoMeans, ListMeans, RenameMeans, SnapListMeans, UsedMeans}
use Rattle.rbd_meaning.specs.Reads.{ReadMeans}
use Rattle.rbd_meaning.specs.Removals.{RemoveMeans}
use Rattle.rbd_meaning.specs.Resizes.{ResizeMeans}
use Rattle.rbd_meaning.specs.Rollbacks.{RollbackMeans}
use Rattle.rbd_meaning.specs.Snaps.{SnapCreateMeans, SnapRemoveMeans}
use Rattle.rbd_meaning.specs.Straight.{Straight, straight_of, StraightMeans}
use Rattle.rbd_meaning.specs.Writes.{WriteMeans}

-- What a reply means by the row of its command where that is straight, and by the command itself
-- else. Other commands aren't served yet, nor is a `create` of an image with a journal.
abbrev pub MeantBy : Option Straight → Seat → Command → List Answered → Reply → Type 0
MeantBy (Some s) seat c steps r = StraightMeans seat.home s steps r
MeantBy None seat (command.Create image size shape) steps r = (shape.journal ≡ false)
    × CreateMeans seat.home image size shape steps r
MeantBy None seat (command.Write image at bytes) steps r = WriteMeans seat.home image at bytes steps r
MeantBy None seat (command.Fill image at len byte) steps r = WriteMeans seat.home image at (replicate len byte) steps r
MeantBy None seat (command.Discard image at len) steps r = DiscardMeans seat.home image at len steps r
MeantBy None seat (command.Read image snap at len) steps r =
    ReadMeans seat.home image snap (record { at = at; len = len }) steps r
MeantBy None seat (command.Resize image size) steps r = ResizeMeans seat.home image size steps r
MeantBy None seat (command.Rename from to) steps r = RenameMeans seat.home from to steps r
MeantBy None seat (command.Remove image) steps r = RemoveMeans seat.home seat.session image steps r
MeantBy None seat (command.Used image) steps r = UsedMeans seat.home image steps r
MeantBy None seat command.List steps r = ListMeans seat.home steps r
MeantBy None seat (command.Info image) steps r = InfoMeans seat.home image steps r
MeantBy None seat (command.SnapList image) steps r = SnapListMeans seat.home image steps r
MeantBy None seat (command.SnapCreate image snap) steps r = SnapCreateMeans seat.home image snap steps r
MeantBy None seat (command.SnapRemove image snap) steps r = SnapRemoveMeans seat.home image snap steps r
MeantBy None seat (command.SnapRollback image snap) steps r = RollbackMeans seat.home image snap steps r
MeantBy None seat (command.Close image) steps r = CloseMeans seat.home image steps r
MeantBy None seat (command.Quiesce image) steps r = QuiesceMeans seat.home image steps r
MeantBy None seat _ steps r = ⊥

-- The reply to a command of a session, behind these steps, says what happened.
abbrev pub IsMeantBy : Seat → Command → List Answered → Reply → Type 0
IsMeantBy seat c steps r = MeantBy (straight_of c) seat c steps r

-- What a reply says of the flat-copy machine, at its place in the one history.
use Rattle.std.specs.Prelude.{◌≡◌, Bool, true, List, [], replicate}
use Rattle.rbd_commands.specs.declared.command.Command.{Command}
use Rattle.rbd_commands.specs.declared.command.Command.TheVariants as command
use Rattle.rbd_kinds.specs.declared.reply.Reply.{Reply}
use Rattle.rbd_kinds.specs.declared.reply.Reply.TheVariants as reply
use Rattle.rbd_meaning.specs.Undone.{ComesLate}
use Rattle.rbd_catalog.specs.Profile.{changes_anything, changes_what_is_seen, has_none_of, is_answer, profile}
use Rattle.rbd_replies.specs.Changed.{Creates, RemovesSnap, Renames, TakesSnap, Writes}
use Rattle.rbd_replies.specs.Listed.{ListsNames, ShowsImage, ShowsSnaps, ShowsUsedAt}
use Rattle.rbd_replies.specs.Places.{Placed, effects_of}
use Rattle.rbd_replies.specs.Reads.{ShowsBytes}
use Rattle.rbd_replies.specs.Removed.{RemovesAll}
use Rattle.rbd_replies.specs.RolledBack.{RollsBackTo}
use Rattle.rbd_replies.specs.Zeroed.{Discards, Resizes}

-- A command that is done, or shows something, did so by the flat-copy machine. What the others do
-- that are answered as their rows say, as a `close`, is no part of that machine. One that is refused
-- did nothing to it, unless the refusal may come when a part was done, as the fence's may; what
-- refused it is said by its last answer (`IsMeantBy` of `rbd_meaning`).
abbrev pub IsReplyOf : Command → Reply → List Placed → Type 0
IsReplyOf c (reply.Refused x) places = (ComesLate c x → ⊥) → effects_of places ≡ []
IsReplyOf (command.Create image size shape) reply.Done places = Creates image size places
IsReplyOf (command.Write image at bytes) reply.Done places = Writes image at bytes places
IsReplyOf (command.Fill image at len byte) reply.Done places = Writes image at (replicate len byte) places
IsReplyOf (command.Discard image at len) reply.Done places = Discards image (record { at = at; len = len }) places
IsReplyOf (command.Resize image size) reply.Done places = Resizes image size places
IsReplyOf (command.Remove image) reply.Done places = RemovesAll image places
IsReplyOf (command.Rename from to) reply.Done places = Renames from to places
IsReplyOf (command.SnapCreate image snap) reply.Done places = TakesSnap image snap places
IsReplyOf (command.SnapRemove image snap) reply.Done places = RemovesSnap image snap places
IsReplyOf (command.SnapRollback image snap) reply.Done places = RollsBackTo image snap places
IsReplyOf (command.Read image snap at len) (reply.Bytes bytes) places =
    ShowsBytes image snap (record { at = at; len = len }) bytes places
IsReplyOf command.List (reply.Names names) places = ListsNames names places
IsReplyOf (command.Info image) (reply.Info h) places = ShowsImage image h places
IsReplyOf (command.SnapList image) (reply.Snaps snaps) places = ShowsSnaps image snaps places
IsReplyOf (command.Used image) (reply.Used used of) places = ShowsUsedAt image used of places
IsReplyOf c r places = (is_answer (profile c).answers r ≡ true) × (effects_of places ≡ [])

-- what only shows: none of its operations changes anything
abbrev pub only_shows : Command → Bool
only_shows c = has_none_of changes_anything (profile c)

-- What changes no image: none of its operations changes what users see. It only shows, lets a lock
-- go, holds the image's requests back, or tells something to its watchers.
abbrev pub changes_no_image : Command → Bool
changes_no_image c = has_none_of changes_what_is_seen (profile c)

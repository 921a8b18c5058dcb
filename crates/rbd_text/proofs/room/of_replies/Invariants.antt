use Rattle.std.proofs.Common.{◌≤◌, ◌+◌, ◌*◌, take}
use Rattle.rbd_text.specs.Room.{all_shown}
use Rattle.rbd_text.proofs.room.of_replies.Given as goal

abbrev pub invariant-loop-entry : goal.invariant-loop-entry
invariant-loop-entry l = l.room ≤ 32 * l.entry-index + all_shown (take l.entry-index l.history)

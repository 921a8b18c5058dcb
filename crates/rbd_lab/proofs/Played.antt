-- What holds of the world of a play.
use Rattle.std.proofs.Common.{◌<◌, ◌^◌, length}
use Rattle.rbd_client.specs.Seen.{as_is}
use Rattle.rbd_machine.specs.Plan.{Standing}
use Rattle.rbd_plays.proofs.Over.{changes_are_over}
use Rattle.rbd_replies.proofs.AtPlaces.{fences_hold, late_once, locks_hold}
use Rattle.rbd_replies.proofs.OwnedLogs.{world_logs}
use Rattle.rbd_replies.proofs.Worlds.{told_in_world}
use Rattle.rbd_schedule.specs.Ends.{HasCalmed}
use Rattle.rbd_schedule.specs.InOrder.{AreLinesInOrder}
use Rattle.rbd_schedule.specs.Playing.{IsPlay, IsPlayable}
use Rattle.rbd_schedule.proofs.Turns.{play_takes_turns}
use Rattle.rbd_script.specs.declared.script.Script.{Script}
use Rattle.rbd_world.specs.World.{WorldView}
use Rattle.rbd_lab.specs.Output.{IsPlayed}

pub played : (script : Script) (w : WorldView Standing) → IsPlayable script → AreLinesInOrder script.lines → IsPlay as_is script w → HasCalmed as_is script w
    → length w.calls < 2 ^ 59 → IsPlayed script w
played script w playable in_order play calmed few = record {
  play = play;
  replies = told_in_world w play.told;
  fences = fences_hold play.told.homes play.told.run play.told.right;
  locks = locks_hold play.told.homes play.told.run play.told.right;
  owned = world_logs w play.told;
  late = late_once play.told.homes play.told.run play.told.right;
  turns = play_takes_turns as_is script w play in_order;
  ends = calmed;
  over = λ one. (changes_are_over as_is script w playable one play calmed few).1;
}

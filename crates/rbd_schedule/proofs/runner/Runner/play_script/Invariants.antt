use Rattle.std.proofs.Common.{◌≡◌, length, take}
use Rattle.rbd_client.specs.Seen.{as_is}
use Rattle.rbd_world.specs.Seen.{seen}
use Rattle.rbd_schedule.specs.Deeds.{Deeds}
use Rattle.rbd_schedule.specs.Given.{given_in, is_lost_by}
use Rattle.rbd_schedule.specs.InOrder.{AreDeclared}
use Rattle.rbd_schedule.specs.Playing.{IsPlayable, KeepsUp, given_to, lost_in}
use Rattle.rbd_schedule.specs.Schedule.{PlaysLine}
use Rattle.rbd_schedule.proofs.runner.Runner.play_script.Given as goal

-- the lines so far were played
abbrev pub invariant-loop-line : goal.invariant-loop-line
invariant-loop-line l = record {
  queues : length l.self.queues.items ≡ length l.fn.script.sessions;
  keeps : IsPlayable l.fn.script → KeepsUp l.self;
  lost : lost_in l.self ≡ is_lost_by (take l.line-index l.fn.script.lines);
  given : AreDeclared (length l.fn.script.sessions) l.fn.script.lines → given_to l.self ≡ given_in (take l.line-index l.fn.script.lines);
  lines : AreDeclared (length l.fn.script.sessions) l.fn.script.lines
      → Deeds (PlaysLine as_is l.fn.script) l.line-index (seen l.fn.self.world) (seen l.self.world);
}

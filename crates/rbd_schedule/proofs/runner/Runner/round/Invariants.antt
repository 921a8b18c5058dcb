use Rattle.std.proofs.Common.{false}
use Rattle.rbd_client.specs.Seen.{as_is}
use Rattle.rbd_world.specs.Seen.{seen}
use Rattle.rbd_schedule.specs.Deeds.{Deeds}
use Rattle.rbd_schedule.specs.Playing.{RunnerGoesOn, given_to, lost_in}
use Rattle.rbd_schedule.specs.Schedule.{TurnOf}
use Rattle.rbd_schedule.proofs.runner.Runner.round.Given as goal

-- the sessions so far had their turns
abbrev pub invariant-loop-session : goal.invariant-loop-session
invariant-loop-session l = record {
  goes : RunnerGoesOn l.fn.self l.self;
  turns : Deeds (TurnOf as_is (given_to l.fn.self) (lost_in l.fn.self)) l.session
      (record { world = (seen l.fn.self.world); went_on = false }) (record { world = (seen l.self.world); went_on = l.went_on });
}

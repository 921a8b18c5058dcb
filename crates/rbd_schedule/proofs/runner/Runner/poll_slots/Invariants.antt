use Rattle.std.proofs.Common.{◌+◌}
use Rattle.rbd_client.specs.Seen.{as_is}
use Rattle.rbd_world.specs.Seen.{seen}
use Rattle.rbd_schedule.specs.Deeds.{Deeds}
use Rattle.rbd_schedule.specs.Playing.{RunnerGoesOn, given_to}
use Rattle.rbd_schedule.specs.Schedule.{PollsWhere, is_held}
use Rattle.rbd_schedule.proofs.runner.Runner.poll_slots.Given as goal

-- the slots so far were polled where they were held at first
abbrev pub invariant-loop-k : goal.invariant-loop-k
invariant-loop-k l = record {
  goes : RunnerGoesOn l.fn.self l.self;
  polls : Deeds (λ k. PollsWhere as_is (given_to l.fn.self) (is_held l.fn.session (k + 1) (seen l.initial.self.world)) l.fn.session (k + 1)) l.k
      (record { world = (seen l.initial.self.world); went_on = l.initial.went_on }) (record { world = (seen l.self.world); went_on = l.went_on });
}

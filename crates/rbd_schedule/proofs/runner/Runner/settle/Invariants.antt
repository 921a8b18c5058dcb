use Rattle.std.proofs.Common.{◌≡◌, ℕ, ◌+◌, ◌≤◌, length}
use Rattle.rbd_client.specs.Seen.{as_is}
use Rattle.rbd_world.specs.Seen.{seen}
use Rattle.rbd_schedule.specs.Deeds.{Deeds}
use Rattle.rbd_schedule.specs.Playing.{RunnerGoesOn, given_to, lost_in}
use Rattle.rbd_schedule.specs.Schedule.{RoundsOn}
use Rattle.rbd_schedule.proofs.runner.Runner.settle.Given as goal

-- so many rounds were made so far
abbrev pub invariant-loop-left : goal.invariant-loop-left
invariant-loop-left l = record {
  goes : RunnerGoesOn l.fn.self l.self;
  count : ℕ;
  all : count + l.left ≡ l.fn.rounds;
  few : l.idle ≤ 8;
  on : Deeds (λ k. RoundsOn as_is (given_to l.fn.self) (lost_in l.fn.self) (length l.fn.self.queues.items)) count
      (record { world = (seen l.fn.self.world); idle = 0 }) (record { world = (seen l.self.world); idle = l.idle });
}

abbrev pub decreases-loop-left : goal.decreases-loop-left
decreases-loop-left l = l.left

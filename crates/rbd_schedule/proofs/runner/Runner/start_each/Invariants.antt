use Rattle.std.proofs.Common.{ℕ, ◌<◌, length}
use Rattle.rbd_client.specs.Seen.{as_is}
use Rattle.rbd_world.specs.Seen.{seen}
use Rattle.rbd_world.specs.Step.{is_begun}
use Rattle.rbd_schedule.specs.Deeds.{Deeds}
use Rattle.rbd_schedule.specs.Playing.{RunnerGoesOn, given_to}
use Rattle.rbd_schedule.specs.Schedule.{Starts}
use Rattle.rbd_schedule.specs.Starts.{IsIdle}
use Rattle.rbd_schedule.proofs.Left.{left_in}
use Rattle.rbd_schedule.proofs.runner.Runner.start_each.Given as goal

-- so many commands were started so far, and no session before this one has one that may start
abbrev pub invariant-loop : goal.invariant-loop
invariant-loop l = record {
  goes : RunnerGoesOn l.fn.self l.self;
  count : ℕ;
  starts : Deeds (λ k. Starts as_is (given_to l.fn.self)) count (seen l.fn.self.world) (seen l.self.world);
  before : (other : ℕ) → other < l.fn.session → IsIdle (given_to l.fn.self) (seen l.self.world) other;
}

-- each time one command fewer is left
abbrev pub decreases-loop : goal.decreases-loop
decreases-loop l = left_in (λ line. is_begun line (seen l.self.world).history) (given_to l.self) (length l.self.queues.items)

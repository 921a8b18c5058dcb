use Rattle.std.proofs.Common.{ℕ, ◌<◌}
use Rattle.rbd_client.specs.Seen.{as_is}
use Rattle.rbd_world.specs.Seen.{seen}
use Rattle.rbd_schedule.specs.Deeds.{Deeds}
use Rattle.rbd_schedule.specs.Playing.{RunnerGoesOn, given_to}
use Rattle.rbd_schedule.specs.Schedule.{Starts}
use Rattle.rbd_schedule.specs.Starts.{IsIdle}
use Rattle.rbd_schedule.proofs.runner.Runner.start_due.Given as goal

-- so many commands were started so far, and none of the sessions so far has one that may start
abbrev pub invariant-loop-session : goal.invariant-loop-session
invariant-loop-session l = record {
  goes : RunnerGoesOn l.fn.self l.self;
  count : ℕ;
  starts : Deeds (λ k. Starts as_is (given_to l.fn.self)) count (seen l.fn.self.world) (seen l.self.world);
  before : (other : ℕ) → other < l.session → IsIdle (given_to l.fn.self) (seen l.self.world) other;
}

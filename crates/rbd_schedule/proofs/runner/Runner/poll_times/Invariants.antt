use Rattle.rbd_client.specs.Seen.{as_is}
use Rattle.rbd_world.specs.Seen.{seen}
use Rattle.rbd_schedule.specs.Deeds.{Deeds}
use Rattle.rbd_schedule.specs.Playing.{RunnerGoesOn, given_to}
use Rattle.rbd_schedule.specs.Schedule.{Polls}
use Rattle.rbd_schedule.proofs.runner.Runner.poll_times.Given as goal

-- so many polls were made so far
abbrev pub invariant-loop : goal.invariant-loop
invariant-loop l = record {
  goes : RunnerGoesOn l.fn.self l.self;
  polls : Deeds (λ k. Polls as_is (given_to l.fn.self) l.fn.session l.fn.slot) l.counter (seen l.fn.self.world) (seen l.self.world);
}

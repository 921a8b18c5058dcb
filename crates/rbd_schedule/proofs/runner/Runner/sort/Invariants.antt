use Rattle.std.proofs.Common.{◌≡◌}
use Rattle.rbd_world.specs.Seen.{seen}
use Rattle.rbd_schedule.specs.Playing.{RunnerGoesOn}
use Rattle.rbd_schedule.proofs.runner.Runner.sort.Given as goal

abbrev pub invariant-loop : goal.invariant-loop
invariant-loop l = record {
  goes : RunnerGoesOn l.fn.self l.self;
  world : (seen l.self.world) ≡ (seen l.fn.self.world);
}

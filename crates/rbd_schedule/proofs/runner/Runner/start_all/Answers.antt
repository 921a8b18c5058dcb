use Rattle.rbd_client.specs.Seen.{as_is}
use Rattle.rbd_world.specs.Seen.{seen}
use Rattle.rbd_schedule.specs.Playing.{given_to}
use Rattle.rbd_schedule.specs.Schedule.{Starts}
use Rattle.rbd_schedule.proofs.Done.{none_done}
use Rattle.rbd_schedule.proofs.Goes.{goes_same}
use Rattle.rbd_schedule.proofs.runner.Runner.start_all.Goals as goal

pub returns-then-not-self-clause-starts : goal.returns-then-not-self-clause-starts
returns-then-not-self-clause-starts c = record {
  count = 0;
  starts = none_done (λ k. Starts as_is (given_to c.args.self.now)) (seen c.args.self.now.world);
  quiet = c.requires.quiet c.if-not-self.true;
}

pub returns-then-not-self-clause-goes : goal.returns-then-not-self-clause-goes
returns-then-not-self-clause-goes c = goes_same c.args.self.now

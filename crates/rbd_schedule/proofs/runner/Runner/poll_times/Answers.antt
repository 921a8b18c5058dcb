use Rattle.std.proofs.Common.{◌≡◌, subst, arith}
use Rattle.rbd_client.specs.Seen.{as_is}
use Rattle.rbd_world.specs.Seen.{seen}
use Rattle.rbd_schedule.specs.Deeds.{Deeds}
use Rattle.rbd_schedule.specs.Playing.{given_to}
use Rattle.rbd_schedule.specs.Schedule.{Polls}
use Rattle.rbd_schedule.proofs.Done.{none_done, one_more}
use Rattle.rbd_schedule.proofs.Goes.{goes_same, goes_then}
use Rattle.rbd_schedule.proofs.runner.Runner.poll_times.Goals as goal

pub loop-init : goal.loop-init
loop-init c = record {
  goes = goes_same c.args.self.now;
  polls = none_done (λ k. Polls as_is (given_to c.args.self.now) c.args.session c.args.slot) (seen c.args.self.now.world);
}

pub poll_and_start-requires : goal.poll_and_start-requires
poll_and_start-requires c = c.loop.invariant.goes.keeps c.requires

pub loop-preserved : goal.loop-preserved
loop-preserved c = record {
  goes = goes_then c.args.self.now c.loop.self c.poll_and_start.new.self c.loop.invariant.goes c.in_ok-poll_and_start.ensures.goes;
  polls = one_more (λ k. Polls as_is (given_to c.args.self.now) c.args.session c.args.slot) c.loop.counter (seen c.args.self.now.world) (seen c.loop.self.world) (seen c.poll_and_start.new.self.world)
      c.loop.invariant.polls
      (subst (λ given. Polls as_is given c.args.session c.args.slot (seen c.loop.self.world) (seen c.poll_and_start.new.self.world)) c.loop.invariant.goes.given
      (record { result = c.in_ok-poll_and_start.field-0; comes = c.in_ok-poll_and_start.ensures.comes }));
}

pub returns-clause-polls : goal.returns-clause-polls
returns-clause-polls c =
    let all : c.loop.counter ≡ c.args.times = omega (arith, c.loop-test.false, c.loop.auto.counter-end) in
    subst (λ n. Deeds (λ k. Polls as_is (given_to c.args.self.now) c.args.session c.args.slot) n (seen c.args.self.now.world) (seen c.loop.self.world)) all c.loop.invariant.polls

pub returns-clause-goes : goal.returns-clause-goes
returns-clause-goes c = c.loop.invariant.goes

use Rattle.std.proofs.Common.{inl, inr, sym, ◌∙◌, subst, arith}
use Rattle.std.proofs.lemmas.Bool.{false≢true}
use Rattle.rbd_client.specs.Seen.{as_is}
use Rattle.rbd_world.specs.Seen.{seen}
use Rattle.rbd_schedule.specs.Playing.{given_to}
use Rattle.rbd_schedule.specs.Schedule.{PollsBefore}
use Rattle.rbd_schedule.proofs.Done.{none_done, one_more}
use Rattle.rbd_schedule.proofs.Goes.{goes_same, goes_then}
use Rattle.rbd_schedule.proofs.runner.Runner.poll_until.Goals as goal

pub loop-init : goal.loop-init
loop-init c = record {
  goes = goes_same c.args.self.now;
  polls = none_done (λ k. PollsBefore as_is (given_to c.args.self.now) c.args.session c.args.slot c.args.kind) (seen c.args.self.now.world);
}

pub poll_and_start-requires : goal.poll_and_start-requires
poll_and_start-requires c = c.loop.invariant.goes.keeps c.requires

pub loop-preserved : goal.loop-preserved
loop-preserved c = record {
  goes = goes_then c.args.self.now c.loop.self c.poll_and_start.new.self c.loop.invariant.goes c.in_ok-poll_and_start.ensures.goes;
  polls = one_more (λ k. PollsBefore as_is (given_to c.args.self.now) c.args.session c.args.slot c.args.kind) c.loop.counter (seen c.args.self.now.world) (seen c.loop.self.world)
      (seen c.poll_and_start.new.self.world) c.loop.invariant.polls
      (subst (λ given. PollsBefore as_is given c.args.session c.args.slot c.args.kind (seen c.loop.self.world) (seen c.poll_and_start.new.self.world)) c.loop.invariant.goes.given
      (record {
        not_yet = λ wants. false≢true (sym c.if-wants.false ∙ c.wants.ensures.1 wants);
        polls = record { result = c.in_ok-poll_and_start.field-0; comes = c.in_ok-poll_and_start.ensures.comes };
      }));
}

pub returns-then-wants-clause-polls : goal.returns-then-wants-clause-polls
returns-then-wants-clause-polls c = record {
  count = c.loop.counter;
  most = c.loop.auto.counter-end;
  polls = c.loop.invariant.polls;
  ends = inr (c.wants.ensures.0 c.if-wants.true);
}

pub returns-then-wants-clause-goes : goal.returns-then-wants-clause-goes
returns-then-wants-clause-goes c = c.loop.invariant.goes

pub returns-clause-polls : goal.returns-clause-polls
returns-clause-polls c = record {
  count = c.loop.counter;
  most = c.loop.auto.counter-end;
  polls = c.loop.invariant.polls;
  ends = inl (omega (arith, c.loop-test.false, c.loop.auto.counter-end));
}

pub returns-clause-goes : goal.returns-clause-goes
returns-clause-goes c = c.loop.invariant.goes

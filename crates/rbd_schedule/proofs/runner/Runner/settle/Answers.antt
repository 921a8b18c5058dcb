use Rattle.std.proofs.Common.{inl, inr, ◌+◌, length, subst, arith}
use Rattle.rbd_client.specs.Seen.{as_is}
use Rattle.rbd_world.specs.Seen.{seen}
use Rattle.rbd_schedule.specs.Playing.{given_to, lost_in}
use Rattle.rbd_schedule.specs.Schedule.{Round, RoundsOn}
use Rattle.rbd_schedule.proofs.Done.{none_done, one_more}
use Rattle.rbd_schedule.proofs.Goes.{goes_same, goes_then}
use Rattle.rbd_schedule.proofs.runner.Runner.settle.Goals as goal

pub loop-left-init : goal.loop-left-init
loop-left-init c = record {
  goes = goes_same c.args.self.now;
  count = 0;
  all = omega arith;
  few = omega arith;
  on = none_done (λ k. RoundsOn as_is (given_to c.args.self.now) (lost_in c.args.self.now) (length c.args.self.now.queues.items)) (record { world = (seen c.args.self.now.world); idle = 0 });
}

pub round-requires : goal.round-requires
round-requires c = c.loop-left.invariant.goes.keeps c.requires

pub loop-left-smaller : goal.loop-left-smaller
loop-left-smaller c = omega (arith, c.loop-left-test.true)

pub loop-left-preserved : goal.loop-left-preserved
loop-left-preserved c = record {
  goes = goes_then c.args.self.now c.loop-left.self c.round.new.self c.loop-left.invariant.goes c.in_ok-went_on.ensures.goes;
  count = c.loop-left.invariant.count + 1;
  all = omega (arith, c.loop-left.invariant.all, c.loop-left-test.true);
  few = c.idle_after-idle.ensures.few;
  on = one_more (λ k. RoundsOn as_is (given_to c.args.self.now) (lost_in c.args.self.now) (length c.args.self.now.queues.items)) c.loop-left.invariant.count
      (record { world = (seen c.args.self.now.world); idle = 0 }) (record { world = (seen c.loop-left.self.world); idle = c.loop-left.idle }) (record { world = (seen c.round.new.self.world); idle = c.idle_after-idle.result })
      c.loop-left.invariant.on
      (record {
        few = c.if-idle-lt-MOST_IDLE.true;
        went_on = c.in_ok-went_on.went_on;
        round = subst (λ n. Round as_is (given_to c.args.self.now) (lost_in c.args.self.now) n c.in_ok-went_on.went_on (seen c.loop-left.self.world) (seen c.round.new.self.world)) c.loop-left.invariant.goes.queues
            (subst (λ lost. Round as_is (given_to c.args.self.now) lost (length c.loop-left.self.queues.items) c.in_ok-went_on.went_on (seen c.loop-left.self.world) (seen c.round.new.self.world))
            c.loop-left.invariant.goes.lost
            (subst (λ given. Round as_is given (lost_in c.loop-left.self) (length c.loop-left.self.queues.items) c.in_ok-went_on.went_on (seen c.loop-left.self.world) (seen c.round.new.self.world))
            c.loop-left.invariant.goes.given c.in_ok-went_on.ensures.round));
        idle = c.idle_after-idle.ensures.idle;
      });
}

pub returns-else-idle-lt-MOST_IDLE-clause-settles :
    goal.returns-else-idle-lt-MOST_IDLE-clause-settles
returns-else-idle-lt-MOST_IDLE-clause-settles c = record {
  count = c.loop-left.invariant.count;
  idle = c.loop-left.idle;
  most = omega (arith, c.loop-left.invariant.all);
  on = c.loop-left.invariant.on;
  ends = inr (omega (arith, c.loop-left.invariant.few, c.if-idle-lt-MOST_IDLE.false));
}

pub returns-else-idle-lt-MOST_IDLE-clause-goes : goal.returns-else-idle-lt-MOST_IDLE-clause-goes
returns-else-idle-lt-MOST_IDLE-clause-goes c = c.loop-left.invariant.goes

pub returns-after-loop-left-clause-settles : goal.returns-after-loop-left-clause-settles
returns-after-loop-left-clause-settles c = record {
  count = c.loop-left.invariant.count;
  idle = c.loop-left.idle;
  most = omega (arith, c.loop-left.invariant.all);
  on = c.loop-left.invariant.on;
  ends = inl (omega (arith, c.loop-left.invariant.all, c.loop-left-test.false));
}

pub returns-after-loop-left-clause-goes : goal.returns-after-loop-left-clause-goes
returns-after-loop-left-clause-goes c = c.loop-left.invariant.goes

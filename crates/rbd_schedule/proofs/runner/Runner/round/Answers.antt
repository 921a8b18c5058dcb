use Rattle.std.proofs.Common.{◌≡◌, false, length, subst, arith}
use Rattle.rbd_client.specs.Seen.{as_is}
use Rattle.rbd_world.specs.Seen.{seen}
use Rattle.rbd_schedule.specs.Deeds.{Deeds}
use Rattle.rbd_schedule.specs.Playing.{given_to, lost_in}
use Rattle.rbd_schedule.specs.Schedule.{TurnOf}
use Rattle.rbd_schedule.proofs.Done.{none_done, one_more}
use Rattle.rbd_schedule.proofs.Goes.{goes_same, goes_then}
use Rattle.rbd_schedule.proofs.runner.Runner.round.Goals as goal

pub loop-session-init : goal.loop-session-init
loop-session-init c = record {
  goes = goes_same c.args.self.now;
  turns = none_done (TurnOf as_is (given_to c.args.self.now) (lost_in c.args.self.now)) (record { world = (seen c.args.self.now.world); went_on = false });
}

pub turn_of-requires : goal.turn_of-requires
turn_of-requires c = c.loop-session.invariant.goes.keeps c.requires

pub loop-session-preserved : goal.loop-session-preserved
loop-session-preserved c =
    record {
      goes = goes_then c.args.self.now c.loop-session.self c.turn_of.new.self c.loop-session.invariant.goes c.in_ok-went_on.ensures.goes;
      turns = one_more (TurnOf as_is (given_to c.args.self.now) (lost_in c.args.self.now)) c.loop-session.session (record { world = (seen c.args.self.now.world); went_on = false })
          (record { world = (seen c.loop-session.self.world); went_on = c.loop-session.went_on }) (record { world = (seen c.turn_of.new.self.world); went_on = c.in_ok-went_on.went_on })
          c.loop-session.invariant.turns
          (subst
          (λ lost.
          TurnOf as_is (given_to c.args.self.now) lost c.loop-session.session (record { world = (seen c.loop-session.self.world); went_on = c.loop-session.went_on })
          (record { world = (seen c.turn_of.new.self.world); went_on = c.in_ok-went_on.went_on }))
          c.loop-session.invariant.goes.lost
          (subst
          (λ given.
          TurnOf as_is given (lost_in c.loop-session.self) c.loop-session.session (record { world = (seen c.loop-session.self.world); went_on = c.loop-session.went_on })
          (record { world = (seen c.turn_of.new.self.world); went_on = c.in_ok-went_on.went_on }))
          c.loop-session.invariant.goes.given c.in_ok-went_on.ensures.turn));
    }

pub returns-clause-round : goal.returns-clause-round
returns-clause-round c =
    let all : c.loop-session.session ≡ length c.args.self.now.queues.items = omega (arith, c.loop-session-test.false, c.loop-session.auto.session-end, c.sessions-session-end.ensures) in
    subst (λ n. Deeds (TurnOf as_is (given_to c.args.self.now) (lost_in c.args.self.now)) n (record { world = (seen c.args.self.now.world); went_on = false })
    (record { world = (seen c.loop-session.self.world); went_on = c.loop-session.went_on }))
    all c.loop-session.invariant.turns

pub returns-clause-goes : goal.returns-clause-goes
returns-clause-goes c = c.loop-session.invariant.goes

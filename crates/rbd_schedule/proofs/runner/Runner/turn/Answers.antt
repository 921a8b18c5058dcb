use Rattle.std.proofs.Common.{subst}
use Rattle.std.proofs.lemmas.Result.{IfOk-weaker, on_ok_weaker}
use Rattle.rbd_client.specs.Seen.{as_is}
use Rattle.rbd_world.specs.Seen.{seen}
use Rattle.rbd_schedule.specs.Playing.{given_to, lost_in}
use Rattle.rbd_schedule.specs.Schedule.{PollsAll, SessionTurn}
use Rattle.rbd_schedule.proofs.Goes.{goes_then}
use Rattle.rbd_schedule.proofs.runner.Runner.turn.Goals as goal

pub poll_slots-requires : goal.poll_slots-requires
poll_slots-requires c = c.in_ok-deliver_due.ensures.goes.keeps c.requires

pub returns-clause-turn : goal.returns-clause-turn
returns-clause-turn c =
    IfOk-weaker c.poll_slots.result
    (λ went_on'. PollsAll as_is (given_to c.deliver_due.new.self) c.args.session (record { world = (seen c.deliver_due.new.self.world); went_on = c.args.went_on }) (record { world = (seen c.poll_slots.new.self.world); went_on = went_on' }))
    (λ went_on'. SessionTurn as_is (given_to c.args.self.now) (lost_in c.args.self.now) c.args.session (record { world = (seen c.args.self.now.world); went_on = c.args.went_on }) (record { world = (seen c.poll_slots.new.self.world); went_on = went_on' }))
    (λ went_on' polls. record {
      told = (seen c.deliver_due.new.self.world);
      notices = c.in_ok-deliver_due.ensures.notices;
      polls = subst (λ given. PollsAll as_is given c.args.session (record { world = (seen c.deliver_due.new.self.world); went_on = c.args.went_on }) (record { world = (seen c.poll_slots.new.self.world); went_on = went_on' }))
          c.in_ok-deliver_due.ensures.goes.given polls;
    })
    c.poll_slots.ensures.polls

pub returns-clause-goes : goal.returns-clause-goes
returns-clause-goes c = on_ok_weaker c.poll_slots.result (λ goes. goes_then c.args.self.now c.deliver_due.new.self c.poll_slots.new.self c.in_ok-deliver_due.ensures.goes goes) c.poll_slots.ensures.goes

use Rattle.std.proofs.Common.{◌≡◌, ◌<◌, ◌+◌, ◌-◌, true, false, sym, ◌∙◌, arith}
use Rattle.std.proofs.lemmas.Option.{get_or_from_slice_get}
use Rattle.rbd_client.specs.Seen.{as_is}
use Rattle.rbd_world.specs.Seen.{seen}
use Rattle.rbd_schedule.specs.Playing.{given_to}
use Rattle.rbd_schedule.specs.Schedule.{PollsWhere, is_held}
use Rattle.rbd_schedule.proofs.Done.{idle_on, none_done, one_more}
use Rattle.rbd_schedule.proofs.Goes.{goes_then}
use Rattle.rbd_schedule.proofs.Polled.{not_held, polls_so}
use Rattle.rbd_schedule.proofs.runner.Runner.poll_slots.Goals as goal

pub loop-k-init : goal.loop-k-init
loop-k-init c = record {
  goes = c.in_ok-outcome.ensures.goes;
  polls = none_done (λ k. PollsWhere as_is (given_to c.args.self.now) (is_held c.args.session (k + 1) (seen c.poll_and_start.new.self.world)) c.args.session (k + 1))
      (record { world = (seen c.poll_and_start.new.self.world); went_on = c.went_on_by-went_on.result });
}

pub held-held-requires : goal.held-held-requires
held-held-requires c = c.in_ok-outcome.ensures.goes.keeps c.requires

pub bounds-held-k : goal.bounds-held-k
bounds-held-k c =
    let has = c.in_ok-outcome.ensures.goes.keeps c.requires in
    omega (arith, c.loop-k-test.true, c.highest-k-end.ensures, has.most)

-- where the slot was held
pub loop-k-preserved : goal.loop-k-preserved
loop-k-preserved c =
    let has = c.in_ok-outcome.ensures.goes.keeps c.requires in
    let within : c.loop-k.k < 64 = omega (arith, c.loop-k-test.true, c.highest-k-end.ensures, has.most) in
    record {
      goes = goes_then c.args.self.now c.loop-k.self c.poll_and_start-in-loop-k.new.self c.loop-k.invariant.goes c.in_ok-outcome-2.ensures.goes;
      polls = one_more (λ k. PollsWhere as_is (given_to c.args.self.now) (is_held c.args.session (k + 1) (seen c.poll_and_start.new.self.world)) c.args.session (k + 1)) c.loop-k.k
          (record { world = (seen c.poll_and_start.new.self.world); went_on = c.went_on_by-went_on.result }) (record { world = (seen c.loop-k.self.world); went_on = c.loop-k.went_on })
          (record { world = (seen c.poll_and_start-in-loop-k.new.self.world); went_on = c.went_on_by-went_on-in-loop-k.result }) c.loop-k.invariant.polls
          (polls_so as_is (given_to c.args.self.now) (given_to c.loop-k.self) (is_held c.args.session (c.loop-k.k + 1) (seen c.poll_and_start.new.self.world)) true c.args.session (c.loop-k.k + 1)
          (record { world = (seen c.loop-k.self.world); went_on = c.loop-k.went_on }) (record { world = (seen c.poll_and_start-in-loop-k.new.self.world); went_on = c.went_on_by-went_on-in-loop-k.result })
          c.loop-k.invariant.goes.given
          (sym c.if-not-held-k.false ∙ get_or_from_slice_get c.held-held.result c.loop-k.k (is_held c.args.session (c.loop-k.k + 1) (seen c.poll_and_start.new.self.world)) _ (c.held-held.ensures c.loop-k.k within))
          (record { result = c.in_ok-outcome-2.outcome; comes = c.in_ok-outcome-2.ensures.comes; pace = c.went_on_by-went_on-in-loop-k.ensures }));
    }

-- and where it wasn't
pub loop-k-preserved-then-not-held-k : goal.loop-k-preserved-then-not-held-k
loop-k-preserved-then-not-held-k c =
    let has = c.in_ok-outcome.ensures.goes.keeps c.requires in
    let within : c.loop-k.k < 64 = omega (arith, c.loop-k-test.true, c.highest-k-end.ensures, has.most) in
    record {
      goes = c.loop-k.invariant.goes;
      polls = one_more (λ k. PollsWhere as_is (given_to c.args.self.now) (is_held c.args.session (k + 1) (seen c.poll_and_start.new.self.world)) c.args.session (k + 1)) c.loop-k.k
          (record { world = (seen c.poll_and_start.new.self.world); went_on = c.went_on_by-went_on.result }) (record { world = (seen c.loop-k.self.world); went_on = c.loop-k.went_on })
          (record { world = (seen c.loop-k.self.world); went_on = c.loop-k.went_on }) c.loop-k.invariant.polls
          (not_held as_is (given_to c.args.self.now) _ c.args.session (c.loop-k.k + 1) (record { world = (seen c.loop-k.self.world); went_on = c.loop-k.went_on })
          (sym (sym c.if-not-held-k.true ∙ get_or_from_slice_get c.held-held.result c.loop-k.k (is_held c.args.session (c.loop-k.k + 1) (seen c.poll_and_start.new.self.world)) _ (c.held-held.ensures c.loop-k.k within))));
    }

pub returns-clause-polls : goal.returns-clause-polls
returns-clause-polls c =
    let has = c.in_ok-outcome.ensures.goes.keeps c.requires in
    let all : c.loop-k.k ≡ c.poll_and_start.new.self.highest = omega (arith, c.loop-k-test.false, c.loop-k.auto.k-end, c.highest-k-end.ensures) in
    record {
      point = record { world = (seen c.poll_and_start.new.self.world); went_on = c.went_on_by-went_on.result };
      slot_0 = record { result = c.in_ok-outcome.outcome; comes = c.in_ok-outcome.ensures.comes; pace = c.went_on_by-went_on.ensures };
      held = idle_on
          (λ k. PollsWhere as_is (given_to c.args.self.now) (is_held c.args.session (k + 1) (seen c.poll_and_start.new.self.world)) c.args.session (k + 1))
          (64 - c.loop-k.k) c.loop-k.k 64
          (record { world = (seen c.poll_and_start.new.self.world); went_on = c.went_on_by-went_on.result }) (record { world = (seen c.loop-k.self.world); went_on = c.loop-k.went_on })
          (omega (arith, all, has.most)) c.loop-k.invariant.polls
          (λ k from below.
          not_held as_is (given_to c.args.self.now) _ c.args.session (k + 1) (record { world = (seen c.loop-k.self.world); went_on = c.loop-k.went_on })
          (has.above c.args.session (k + 1) (omega (arith, all, from))));
    }

pub returns-clause-goes : goal.returns-clause-goes
returns-clause-goes c = c.loop-k.invariant.goes

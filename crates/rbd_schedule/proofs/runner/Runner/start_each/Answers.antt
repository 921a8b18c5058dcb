use Rattle.std.proofs.Common.{◌≡◌, ℕ, ◌+◌, ◌<◌, ◌≤◌, ◌⊎◌, inl, inr, true, false, sym, subst, arith}
use Rattle.std.proofs.lemmas.Bool.{cases_lt}
use Rattle.rbd_client.specs.Seen.{as_is}
use Rattle.rbd_world.specs.Seen.{seen}
use Rattle.rbd_schedule.specs.Deeds.{Deeds}
use Rattle.rbd_schedule.specs.Playing.{StartsIf, given_to}
use Rattle.rbd_schedule.specs.Schedule.{Starts, Submits}
use Rattle.rbd_schedule.specs.Starts.{IsIdle}
use Rattle.rbd_schedule.proofs.Done.{none_done, one_more}
use Rattle.rbd_schedule.proofs.Goes.{goes_same, goes_then, left_again, others_idle, starts_one}
use Rattle.rbd_schedule.proofs.runner.Runner.start_each.Goals as goal

pub loop-init : goal.loop-init
loop-init c = record {
  goes = goes_same c.args.self.now;
  count = 0;
  starts = none_done (λ k. Starts as_is (given_to c.args.self.now)) (seen c.args.self.now.world);
  before = c.requires.before;
}

pub start_of-requires : goal.start_of-requires
start_of-requires c = c.loop.invariant.goes.keeps c.requires.keeps

pub loop-smaller : goal.loop-smaller
loop-smaller c =
    left_again c.loop.self c.start_of.new.self c.in_ok-start_of.ensures.goes
    (starts_one c.loop.self (c.loop.invariant.goes.keeps c.requires.keeps) (seen c.start_of.new.self.world)
    (record {
      session = c.args.session;
      before = λ other less. subst (λ given. IsIdle given (seen c.loop.self.world) other) (sym c.loop.invariant.goes.given) (c.loop.invariant.before other less);
      submits = subst (λ b. StartsIf as_is (given_to c.loop.self) c.args.session b (seen c.loop.self.world) (seen c.start_of.new.self.world)) c.if-branch.true c.in_ok-start_of.ensures.starts;
    }))

pub loop-preserved : goal.loop-preserved
loop-preserved c =
    let submits : Submits as_is (given_to c.loop.self) c.args.session (seen c.loop.self.world) (seen c.start_of.new.self.world)
    = subst (λ b. StartsIf as_is (given_to c.loop.self) c.args.session b (seen c.loop.self.world) (seen c.start_of.new.self.world)) c.if-branch.true c.in_ok-start_of.ensures.starts in
    record {
      goes = goes_then c.args.self.now c.loop.self c.start_of.new.self c.loop.invariant.goes c.in_ok-start_of.ensures.goes;
      count = c.loop.invariant.count + 1;
      starts = one_more (λ k. Starts as_is (given_to c.args.self.now)) c.loop.invariant.count (seen c.args.self.now.world) (seen c.loop.self.world) (seen c.start_of.new.self.world) c.loop.invariant.starts
          (record {
            session = c.args.session;
            before = c.loop.invariant.before;
            submits = subst (λ given. Submits as_is given c.args.session (seen c.loop.self.world) (seen c.start_of.new.self.world)) c.loop.invariant.goes.given submits;
          });
      before = λ other less.
          subst (λ given. IsIdle given (seen c.start_of.new.self.world) other) c.loop.invariant.goes.given
          (others_idle c.loop.self (c.loop.invariant.goes.keeps c.requires.keeps) (seen c.start_of.new.self.world) c.args.session other submits (λ same. absurd (omega (arith, less, same)))
          (subst (λ given. IsIdle given (seen c.loop.self.world) other) (sym c.loop.invariant.goes.given) (c.loop.invariant.before other less)));
    }

pub returns-clause-starts : goal.returns-clause-starts
returns-clause-starts c =
    let last : StartsIf as_is (given_to c.args.self.now) c.args.session false (seen c.loop.self.world) (seen c.start_of.new.self.world)
    = subst (λ given. StartsIf as_is given c.args.session false (seen c.loop.self.world) (seen c.start_of.new.self.world)) c.loop.invariant.goes.given
    (subst (λ b. StartsIf as_is (given_to c.loop.self) c.args.session b (seen c.loop.self.world) (seen c.start_of.new.self.world)) c.if-branch.false c.in_ok-start_of.ensures.starts) in
    record {
      count = c.loop.invariant.count;
      starts = subst (λ w. Deeds (λ k. Starts as_is (given_to c.args.self.now)) c.loop.invariant.count (seen c.args.self.now.world) w) (sym last.0) c.loop.invariant.starts;
      idle = λ other most. subst (λ w. IsIdle (given_to c.args.self.now) w other) (sym last.0) (by other most last.1 (cases_lt other c.args.session));
    }
  where
    by : (other : ℕ) → other ≤ c.args.session → IsIdle (given_to c.args.self.now) (seen c.loop.self.world) c.args.session → (other < c.args.session) ⊎ (c.args.session ≤ other)
        → IsIdle (given_to c.args.self.now) (seen c.loop.self.world) other
    by other most idle (inl less) = c.loop.invariant.before other less
    by other most idle (inr past) = let same : c.args.session ≡ other = omega (arith, most, past) in subst (IsIdle (given_to c.args.self.now) (seen c.loop.self.world)) same idle

pub returns-clause-goes : goal.returns-clause-goes
returns-clause-goes c = goes_then c.args.self.now c.loop.self c.start_of.new.self c.loop.invariant.goes c.in_ok-start_of.ensures.goes

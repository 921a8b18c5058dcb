use Rattle.std.proofs.Common.{◌+◌, false, sym, subst, arith}
use Rattle.rbd_client.specs.Seen.{as_is}
use Rattle.rbd_world.specs.Seen.{seen}
use Rattle.rbd_schedule.specs.Playing.{StartsEach, given_to}
use Rattle.rbd_schedule.specs.Schedule.{Starts}
use Rattle.rbd_schedule.specs.Starts.{IsIdle}
use Rattle.rbd_schedule.proofs.Done.{all_idle, done_then, none_done}
use Rattle.rbd_schedule.proofs.Goes.{goes_quiet, goes_same, goes_then, nobody_starts}
use Rattle.rbd_schedule.proofs.runner.Runner.start_due.Goals as goal

pub loop-session-init : goal.loop-session-init
loop-session-init c = record {
  goes = goes_same c.args.self.now;
  count = 0;
  starts = none_done (λ k. Starts as_is (given_to c.args.self.now)) (seen c.args.self.now.world);
  before = λ other below. absurd (omega (arith, below));
}

pub start_each-requires-clause-keeps : goal.start_each-requires-clause-keeps
start_each-requires-clause-keeps c = c.loop-session.invariant.goes.keeps c.requires

pub start_each-requires-clause-before : goal.start_each-requires-clause-before
start_each-requires-clause-before c = λ other below.
    subst (λ given. IsIdle given (seen c.loop-session.self.world) other) (sym c.loop-session.invariant.goes.given) (c.loop-session.invariant.before other below)

pub loop-session-preserved : goal.loop-session-preserved
loop-session-preserved c =
    let each : StartsEach as_is (given_to c.args.self.now) c.loop-session.session (seen c.loop-session.self.world) (seen c.start_each.new.self.world)
    = subst (λ given. StartsEach as_is given c.loop-session.session (seen c.loop-session.self.world) (seen c.start_each.new.self.world)) c.loop-session.invariant.goes.given c.in_ok-start_each.ensures.starts in
    record {
      goes = goes_then c.args.self.now c.loop-session.self c.start_each.new.self c.loop-session.invariant.goes c.in_ok-start_each.ensures.goes;
      count = c.loop-session.invariant.count + each.count;
      starts = done_then (Starts as_is (given_to c.args.self.now)) c.loop-session.invariant.count each.count (seen c.args.self.now.world) (seen c.loop-session.self.world) (seen c.start_each.new.self.world)
          c.loop-session.invariant.starts each.starts;
      before = λ other below. each.idle other (omega (arith, below));
    }

pub returns-clause-starts : goal.returns-clause-starts
returns-clause-starts c = record {
  count = c.loop-session.invariant.count;
  starts = c.loop-session.invariant.starts;
  quiet = λ s.
      all_idle (IsIdle (given_to c.args.self.now) (seen c.loop-session.self.world)) c.loop-session.session c.loop-session.invariant.before s
      (λ past. nobody_starts c.args.self.now (seen c.loop-session.self.world) s (omega (arith, past, c.loop-session-test.false, c.len-session-end.ensures, c.args.self.now.queues.ok.0)));
}

pub returns-clause-goes : goal.returns-clause-goes
returns-clause-goes c =
    goes_then c.args.self.now c.loop-session.self (record c.loop-session.self { is_due = false }) c.loop-session.invariant.goes
    (goes_quiet c.loop-session.self (λ s.
    subst (λ given. IsIdle given (seen c.loop-session.self.world) s) (sym c.loop-session.invariant.goes.given)
    (all_idle (IsIdle (given_to c.args.self.now) (seen c.loop-session.self.world)) c.loop-session.session c.loop-session.invariant.before s
    (λ past. nobody_starts c.args.self.now (seen c.loop-session.self.world) s (omega (arith, past, c.loop-session-test.false, c.len-session-end.ensures, c.args.self.now.queues.ok.0))))))

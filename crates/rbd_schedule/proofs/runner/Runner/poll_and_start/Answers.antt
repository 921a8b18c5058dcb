use Rattle.std.proofs.Common.{length, refl, sym, ap, subst, None}
use Rattle.rbd_client.specs.Seen.{as_is}
use Rattle.rbd_world.specs.Seen.{seen}
use Rattle.rbd_world.specs.declared.event.Event.TheVariants as event
use Rattle.rbd_world.specs.Sound.{IsSoundWorld}
use Rattle.rbd_world.specs.Step.{IsWorldStep}
use Rattle.rbd_schedule.specs.Playing.{given_to}
use Rattle.rbd_schedule.specs.declared.runner.Runner.{Runner}
use Rattle.rbd_schedule.proofs.Goes.{comes_then, goes_by_note, goes_then}
use Rattle.rbd_schedule.proofs.runner.Runner.poll_and_start.Goals as goal

pub start_all-requires : goal.start_all-requires
start_all-requires c =
    (goes_by_note (event.Poll c.args.session c.args.slot) c.args.self.now (record c.args.self.now { world = c.poll.new.self }) c.note.new.self (length c.history-from.result.now) None c.in_ok-outcome.outcome tt
    (ap length c.history-from.ensures) refl c.in_ok-outcome.ensures.step c.poll.ensures.sound refl c.note.ensures.rest
    c.in_ok-note.ensures.over c.in_ok-note.ensures.heard c.in_ok-note.ensures.due).keeps c.requires

pub returns-clause-comes : goal.returns-clause-comes
returns-clause-comes c =
    let goes = goes_by_note (event.Poll c.args.session c.args.slot) c.args.self.now (record c.args.self.now { world = c.poll.new.self }) c.note.new.self (length c.history-from.result.now) None c.in_ok-outcome.outcome tt
    (ap length c.history-from.ensures) refl c.in_ok-outcome.ensures.step c.poll.ensures.sound refl c.note.ensures.rest
    c.in_ok-note.ensures.over c.in_ok-note.ensures.heard c.in_ok-note.ensures.due in
    comes_then as_is (event.Poll c.args.session c.args.slot) c.in_ok-outcome.outcome (seen c.args.self.now.world) (seen c.note.new.self.world) (seen c.start_all.new.self.world)
    (given_to c.args.self.now) (given_to c.note.new.self) goes.given
    (subst (λ w. IsWorldStep as_is (event.Poll c.args.session c.args.slot) (seen c.args.self.now.world) c.in_ok-outcome.outcome w) (sym (ap (λ (r : Runner). seen r.world) c.note.ensures.rest)) c.in_ok-outcome.ensures.step)
    (subst (IsSoundWorld as_is) (sym (ap (λ (r : Runner). seen r.world) c.note.ensures.rest)) c.poll.ensures.sound)
    c.in_ok-start_all.ensures.starts

pub returns-clause-goes : goal.returns-clause-goes
returns-clause-goes c =
    goes_then c.args.self.now c.note.new.self c.start_all.new.self
    (goes_by_note (event.Poll c.args.session c.args.slot) c.args.self.now (record c.args.self.now { world = c.poll.new.self }) c.note.new.self (length c.history-from.result.now) None c.in_ok-outcome.outcome tt
    (ap length c.history-from.ensures) refl c.in_ok-outcome.ensures.step c.poll.ensures.sound refl c.note.ensures.rest
    c.in_ok-note.ensures.over c.in_ok-note.ensures.heard c.in_ok-note.ensures.due)
    c.in_ok-start_all.ensures.goes

use Rattle.std.proofs.Common.{length, refl, sym, ap, subst, Some}
use Rattle.std.proofs.lemmas.Result.{on_ok_weaker}
use Rattle.rbd_client.specs.Seen.{as_is}
use Rattle.rbd_world.specs.Seen.{seen}
use Rattle.rbd_world.specs.declared.event.Event.TheVariants as event
use Rattle.rbd_world.specs.Sound.{IsSoundWorld}
use Rattle.rbd_world.specs.Step.{IsWorldStep}
use Rattle.rbd_schedule.specs.Playing.{RunnerGoesOn, given_to}
use Rattle.rbd_schedule.specs.declared.runner.Runner.{Runner}
use Rattle.rbd_schedule.proofs.Goes.{comes_then, goes_by_note, goes_then}
use Rattle.rbd_schedule.proofs.runner.Runner.deliver_and_start.Goals as goal

noted : (c : goal.After-start_all-arg-1) → RunnerGoesOn c.args.self.now c.note.new.self
noted c =
    goes_by_note (event.Deliver c.args.number) c.args.self.now (record c.args.self.now { world = c.deliver.new.self }) c.note.new.self (length c.history-from.result.now) (Some c.args.number) c.in_ok-outcome.outcome tt
    (ap length c.history-from.ensures) refl c.in_ok-outcome.ensures.step c.deliver.ensures.sound refl c.note.ensures.rest
    c.in_ok-note.ensures.over c.in_ok-note.ensures.heard c.in_ok-note.ensures.due

pub start_all-requires : goal.start_all-requires
start_all-requires c = (noted c).keeps c.requires

pub returns-clause-happens : goal.returns-clause-happens
returns-clause-happens c =
    let goes = goes_by_note (event.Deliver c.args.number) c.args.self.now (record c.args.self.now { world = c.deliver.new.self }) c.note.new.self (length c.history-from.result.now) (Some c.args.number) c.in_ok-outcome.outcome tt
    (ap length c.history-from.ensures) refl c.in_ok-outcome.ensures.step c.deliver.ensures.sound refl c.note.ensures.rest
    c.in_ok-note.ensures.over c.in_ok-note.ensures.heard c.in_ok-note.ensures.due in
    on_ok_weaker c.start_all.result (λ starts. record {
      result = c.in_ok-outcome.outcome;
      comes = comes_then as_is (event.Deliver c.args.number) c.in_ok-outcome.outcome (seen c.args.self.now.world) (seen c.note.new.self.world) (seen c.start_all.new.self.world)
          (given_to c.args.self.now) (given_to c.note.new.self) goes.given
          (subst (λ w. IsWorldStep as_is (event.Deliver c.args.number) (seen c.args.self.now.world) c.in_ok-outcome.outcome w) (sym (ap (λ (r : Runner). seen r.world) c.note.ensures.rest)) c.in_ok-outcome.ensures.step)
          (subst (IsSoundWorld as_is) (sym (ap (λ (r : Runner). seen r.world) c.note.ensures.rest)) c.deliver.ensures.sound)
          starts;
    }) c.start_all.ensures.starts

pub returns-clause-goes : goal.returns-clause-goes
returns-clause-goes c =
    on_ok_weaker c.start_all.result (λ goes.
    goes_then c.args.self.now c.note.new.self c.start_all.new.self
    (goes_by_note (event.Deliver c.args.number) c.args.self.now (record c.args.self.now { world = c.deliver.new.self }) c.note.new.self (length c.history-from.result.now) (Some c.args.number) c.in_ok-outcome.outcome tt
    (ap length c.history-from.ensures) refl c.in_ok-outcome.ensures.step c.deliver.ensures.sound refl c.note.ensures.rest
    c.in_ok-note.ensures.over c.in_ok-note.ensures.heard c.in_ok-note.ensures.due) goes) c.start_all.ensures.goes

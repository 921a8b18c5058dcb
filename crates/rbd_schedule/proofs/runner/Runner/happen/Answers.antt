use Rattle.std.proofs.Common.{length, sym, ap, subst}
use Rattle.std.proofs.lemmas.Result.{on_ok_weaker}
use Rattle.rbd_client.specs.Seen.{as_is}
use Rattle.rbd_world.specs.Seen.{seen}
use Rattle.rbd_world.specs.Sound.{IsSoundWorld}
use Rattle.rbd_world.specs.Step.{IsWorldStep}
use Rattle.rbd_schedule.specs.Playing.{RunnerGoesOn, given_to}
use Rattle.rbd_schedule.specs.declared.runner.Runner.{Runner}
use Rattle.rbd_schedule.proofs.Goes.{comes_then, goes_by_note, goes_then}
use Rattle.rbd_schedule.proofs.runner.Runner.happen.Goals as goal

first : (c : goal.After-start_all-arg-1) → RunnerGoesOn c.args.self.now c.note.new.self
first c =
    goes_by_note c.args.event c.args.self.now c.step.new.self c.note.new.self (length c.history-from.result.now) c.notice_of-told.result c.in_ok-outcome.outcome c.requires.none
    (ap length c.history-from.ensures) c.notice_of-told.ensures c.in_ok-outcome.ensures.step c.step.ensures.sound c.step.ensures.rest c.note.ensures.rest
    c.in_ok-note.ensures.over c.in_ok-note.ensures.heard c.in_ok-note.ensures.due

pub start_all-requires : goal.start_all-requires
start_all-requires c = (first c).keeps c.requires.keeps

pub returns-clause-happens : goal.returns-clause-happens
returns-clause-happens c =
    let goes = goes_by_note c.args.event c.args.self.now c.step.new.self c.note.new.self (length c.history-from.result.now) c.notice_of-told.result c.in_ok-outcome.outcome c.requires.none
    (ap length c.history-from.ensures) c.notice_of-told.ensures c.in_ok-outcome.ensures.step c.step.ensures.sound c.step.ensures.rest c.note.ensures.rest
    c.in_ok-note.ensures.over c.in_ok-note.ensures.heard c.in_ok-note.ensures.due in
    on_ok_weaker c.start_all.result (λ starts. record {
      result = c.in_ok-outcome.outcome;
      comes = comes_then as_is c.args.event c.in_ok-outcome.outcome (seen c.args.self.now.world) (seen c.note.new.self.world) (seen c.start_all.new.self.world)
          (given_to c.args.self.now) (given_to c.note.new.self) goes.given
          (subst (λ w. IsWorldStep as_is c.args.event (seen c.args.self.now.world) c.in_ok-outcome.outcome w) (sym (ap (λ (r : Runner). seen r.world) c.note.ensures.rest)) c.in_ok-outcome.ensures.step)
          (subst (IsSoundWorld as_is) (sym (ap (λ (r : Runner). seen r.world) c.note.ensures.rest)) c.step.ensures.sound)
          starts;
    }) c.start_all.ensures.starts

pub returns-clause-goes : goal.returns-clause-goes
returns-clause-goes c =
    on_ok_weaker c.start_all.result (λ goes.
    goes_then c.args.self.now c.note.new.self c.start_all.new.self
    (goes_by_note c.args.event c.args.self.now c.step.new.self c.note.new.self (length c.history-from.result.now) c.notice_of-told.result c.in_ok-outcome.outcome c.requires.none
    (ap length c.history-from.ensures) c.notice_of-told.ensures c.in_ok-outcome.ensures.step c.step.ensures.sound c.step.ensures.rest c.note.ensures.rest
    c.in_ok-note.ensures.over c.in_ok-note.ensures.heard c.in_ok-note.ensures.due) goes) c.start_all.ensures.goes

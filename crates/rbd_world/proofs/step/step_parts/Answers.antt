use Rattle.std.proofs.Common.{List, [], ◌∷◌, ◌++◌, ◌+◌, ◌<◌, ◌^◌, length, ap, sym, ◌∙◌, subst}
use Rattle.rbd_flat.specs.declared.entry.Entry.{Entry}
use Rattle.rbd_catalog.specs.Session.{stands_of}
use Rattle.rbd_world.specs.declared.event.Call.{Call}
use Rattle.rbd_world.specs.Begun.{has_line}
use Rattle.rbd_world.specs.Noted.{history_with}
use Rattle.rbd_world.specs.Step.{happens}
use Rattle.rbd_world.proofs.Told.{noted_steps}
use Rattle.rbd_world.proofs.step.step_parts.Goals as goal

pub keep_call-requires : goal.keep_call-requires
keep_call-requires c = subst (λ (xs : List Call). length xs + 1 < 2 ^ 59) (sym c.happen.ensures.calls) c.in_ok-reserve.ensures.ok.1

pub returns-clause-steps : goal.returns-clause-steps
returns-clause-steps c =
    let e = c.args.event.now in
    let h = happens stands_of e (λ l. has_line l c.args.begun.now) c.args.sites.now c.args.lives.now.items in
    let did = c.in_ok-outcome.ensures.did in
    let with_call = λ (xs : List Call). xs ++ record { event = e; outcome = c.in_ok-outcome.outcome } ∷ [] in
    noted_steps stands_of e h c.args.sites.now c.happen.new.sites c.args.lives.now.items c.happen.new.lives.items c.args.begun.now c.happen.new.begun
    c.args.book.now.history.items c.keep_call.new.book.history.items c.args.book.now.calls c.keep_call.new.book.calls c.in_ok-outcome.outcome
    did.parts
    (ap (λ v. v.items) c.keep_call.ensures.history ∙ did.history ∙ ap (λ (xs : List Entry). history_with xs h) c.in_ok-reserve.ensures.history)
    (c.keep_call.ensures.calls ∙ ap with_call c.happen.ensures.calls ∙ ap with_call c.in_ok-reserve.ensures.calls)
    did.outcome

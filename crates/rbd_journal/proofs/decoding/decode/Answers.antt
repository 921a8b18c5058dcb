use Rattle.std.proofs.Common.{sym, ◌∙◌, ap}
use Rattle.std.proofs.lemmas.Result.{err_from_is_err_and}
use Rattle.rbd_journal.specs.Faults.{first_fault}
use Rattle.rbd_journal.proofs.Told.{never_faulty, only_event, no_fault}
use Rattle.rbd_journal.proofs.decoding.decode.Goals as goal

pub returns-in_err-kind-clause-only : goal.returns-in_err-kind-clause-only
returns-in_err-kind-clause-only c = λ event rest fits at_front. absurd (never_faulty c.args.bytes.now _ event rest c.in_err-kind.ensures.err fits at_front)

pub returns-in_err-event-clause-only : goal.returns-in_err-event-clause-only
returns-in_err-event-clause-only c = λ event rest fits at_front.
    let p = err_from_is_err_and c.from_residual-in_err-event.result c.from_residual-in_err-event.ensures.1 in
    rw (p.1, p.2) (c.in_err-event.ensures.no_fault (sym c.in_ok-kind.ensures.fault ∙ ap first_fault at_front ∙ no_fault event rest fits))

pub returns-clause-only : goal.returns-clause-only
returns-clause-only c = λ event rest fits at_front.
    only_event c.args.bytes.now c.in_ok-kind.kind c.in_ok-kind.body.now c.in_ok-event.event event rest c.in_ok-kind.ensures.header c.in_ok-event.ensures.found fits at_front

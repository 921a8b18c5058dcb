use Rattle.std.proofs.Common.{◌≡◌, ◌∙◌, ap, sym}
use Rattle.rbd_client.specs.Feeding.{comings_of, quiesces, resumes}
use Rattle.rbd_kinds.specs.declared.answer.Answer.TheVariants as answer
use Rattle.rbd_kinds.specs.declared.machine.Fed.TheVariants as fed
use Rattle.rbd_lock.specs.Comings.{after_all}
use Rattle.rbd_lock.specs.Locks.{counted, lock_state_at}
use Rattle.rbd_client.proofs.counting.count.Goals as goal
use Rattle.rbd_commands.specs.declared.quiescing.Quiescing.TheVariants as quiescing

pub returns-in-Begins-Header-clause-counts : goal.returns-in-Begins-Header-clause-counts
returns-in-Begins-Header-clause-counts c = λ s i.
    let h = c.in-Begins-Header.field-0-1 in
    let comes : comings_of c.args.quiescing c.args.look c.args.site c.args.op.now c.args.fed.now ≡ comings_of quiescing.Begins c.args.look c.args.site c.args.op.now (fed.Answer (answer.Header h)) =
    ap (comings_of c.args.quiescing c.args.look c.args.site c.args.op.now) (c.in-Answer.is ∙ ap (λ a. fed.Answer a) c.in-Begins-Header.is-1)
    ∙ ap (λ q. comings_of q c.args.look c.args.site c.args.op.now (fed.Answer (answer.Header h))) c.in-Begins-Header.is-0 in
    c.begin_quiesce.ensures.counts s i
    ∙ ap (after_all (quiesces c.args.look) s i) (c.count.ensures.states s i ∙ ap (λ a. counted c.args.site c.args.op.now a s i (lock_state_at s i c.args.locks.now)) c.in-Begins-Header.is-1)
    ∙ ap (λ cs. after_all cs s i (lock_state_at s i c.args.locks.now)) (sym comes)

pub returns-in-Ends-Id-clause-counts : goal.returns-in-Ends-Id-clause-counts
returns-in-Ends-Id-clause-counts c = λ s i.
    let image = c.in-Ends-Id.image in
    let comes : comings_of c.args.quiescing c.args.look c.args.site c.args.op.now c.args.fed.now ≡ comings_of quiescing.Ends c.args.look c.args.site c.args.op.now (fed.Answer (answer.Id image)) =
    ap (comings_of c.args.quiescing c.args.look c.args.site c.args.op.now) (c.in-Answer.is ∙ ap (λ a. fed.Answer a) c.in-Ends-Id.is-1)
    ∙ ap (λ q. comings_of q c.args.look c.args.site c.args.op.now (fed.Answer (answer.Id image))) c.in-Ends-Id.is-0 in
    c.end_quiesce.ensures.counts s i
    ∙ ap (after_all (resumes c.args.site c.args.op.now image) s i) (c.count.ensures.states s i ∙ ap (λ a. counted c.args.site c.args.op.now a s i (lock_state_at s i c.args.locks.now)) c.in-Ends-Id.is-1)
    ∙ ap (λ cs. after_all cs s i (lock_state_at s i c.args.locks.now)) (sym comes)

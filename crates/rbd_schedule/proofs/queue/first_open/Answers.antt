use Rattle.std.proofs.Common.{◌≡◌, true, false, length, take, sym, ◌∙◌, subst, arith}
use Rattle.std.proofs.lemmas.List.Elements.{All-more, All-same}
use Rattle.std.proofs.lemmas.List.{take_all}
use Rattle.std.proofs.lemmas.Option.{none-some, slice_get_past, get_or_from_slice_get}
use Rattle.rbd_world.specs.Seen.{seen}
use Rattle.rbd_schedule.specs.declared.given.Given.{Given}
use Rattle.rbd_world.specs.Step.{is_begun}
use Rattle.rbd_schedule.specs.Playing.{has_line, is_over}
use Rattle.rbd_schedule.proofs.queue.first_open.Goals as goal

pub loop-place-preserved : goal.loop-place-preserved
loop-place-preserved c =
    let P : Given → Type 0 = λ x. is_over (λ line. is_begun line (seen c.args.world.now).history) (λ line. has_line line c.args.ended.now) x ≡ true in
    All-more P c.args.commands.now c.loop-place.place c.index-commands-place.result c.loop-place-test.true c.loop-place.invariant
    (subst P c.index-commands-place.is (sym c.is_over.ensures ∙ c.if-not-is_over.false))

pub returns-then-not-is_over-clause-over : goal.returns-then-not-is_over-clause-over
returns-then-not-is_over-clause-over c = c.loop-place.invariant

pub returns-then-not-is_over-clause-open : goal.returns-then-not-is_over-clause-open
returns-then-not-is_over-clause-open c = λ x is.
    let same = c.index-commands-place.is ∙ get_or_from_slice_get c.args.commands.now c.loop-place.place x c.index-commands-place.result is in
    subst (λ y. is_over (λ line. is_begun line (seen c.args.world.now).history) (λ line. has_line line c.args.ended.now) y ≡ false) same
    (sym c.is_over.ensures ∙ c.if-not-is_over.true)

pub returns-clause-over : goal.returns-clause-over
returns-clause-over c =
    let n = c.loop-place.place in
    All-same (λ x. is_over (λ line. is_begun line (seen c.args.world.now).history) (λ line. has_line line c.args.ended.now) x ≡ true)
    (take (length c.args.commands.now) c.args.commands.now) (take n c.args.commands.now)
    (take_all (length c.args.commands.now) c.args.commands.now (omega arith) ∙ sym (take_all n c.args.commands.now c.loop-place-test.false)) c.loop-place.invariant

pub returns-clause-open : goal.returns-clause-open
returns-clause-open c = λ x is. absurd (none-some x (sym (slice_get_past c.args.commands.now (length c.args.commands.now) (omega arith)) ∙ is))

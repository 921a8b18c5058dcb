use Rattle.std.proofs.Common.{◌≡◌, true, false, length, take, sym, ◌∙◌, subst, arith}
use Rattle.std.proofs.lemmas.List.Elements.{All-more, All-same}
use Rattle.std.proofs.lemmas.List.{take_all}
use Rattle.std.proofs.lemmas.Option.{none-some, slice_get_past, get_or_from_slice_get}
use Rattle.rbd_world.specs.Seen.{seen}
use Rattle.rbd_schedule.specs.declared.given.Given.{Given}
use Rattle.rbd_world.specs.Step.{is_begun}
use Rattle.rbd_schedule.specs.Playing.{may_start_beside}
use Rattle.rbd_schedule.proofs.queue.first_beside.Goals as goal

pub loop-place-preserved : goal.loop-place-preserved
loop-place-preserved c =
    let P : Given → Type 0 = λ x. may_start_beside (λ line. is_begun line (seen c.args.world.now).history) x ≡ false in
    All-more P c.args.commands.now c.loop-place.place c.index-commands-place.result c.loop-place-test.true c.loop-place.invariant
    (subst P c.index-commands-place.is (sym c.may_start_beside.ensures ∙ c.if-may_start_beside.false))

pub returns-then-may_start_beside-clause-begun : goal.returns-then-may_start_beside-clause-begun
returns-then-may_start_beside-clause-begun c = c.loop-place.invariant

pub returns-then-may_start_beside-clause-beside : goal.returns-then-may_start_beside-clause-beside
returns-then-may_start_beside-clause-beside c = λ x is.
    let same = c.index-commands-place.is ∙ get_or_from_slice_get c.args.commands.now c.loop-place.place x c.index-commands-place.result is in
    subst (λ y. may_start_beside (λ line. is_begun line (seen c.args.world.now).history) y ≡ true) same (sym c.may_start_beside.ensures ∙ c.if-may_start_beside.true)

pub returns-clause-begun : goal.returns-clause-begun
returns-clause-begun c =
    let n = c.loop-place.place in
    All-same (λ x. may_start_beside (λ line. is_begun line (seen c.args.world.now).history) x ≡ false)
    (take (length c.args.commands.now) c.args.commands.now) (take n c.args.commands.now)
    (take_all (length c.args.commands.now) c.args.commands.now (omega arith) ∙ sym (take_all n c.args.commands.now c.loop-place-test.false)) c.loop-place.invariant

pub returns-clause-beside : goal.returns-clause-beside
returns-clause-beside c = λ x is. absurd (none-some x (sym (slice_get_past c.args.commands.now (length c.args.commands.now) (omega arith)) ∙ is))

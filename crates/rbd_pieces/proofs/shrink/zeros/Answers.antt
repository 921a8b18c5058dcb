use Rattle.std.proofs.Common.{◌≡◌, ◌+◌, ◌≤◌, arith, sym, ap, ◌∙◌, subst}
use Rattle.std.specs.Prelude.{filter}
use Rattle.rbd_kinds.specs.declared.layout.Extent.{Extent}
use Rattle.rbd_kinds.specs.Striping.{IsObjectCount}
use Rattle.rbd_layout.proofs.Bounds.{few_bytes}
use Rattle.rbd_layout.proofs.Listed.{objects_between}
use Rattle.rbd_pieces.specs.Shrink.{piece_has_bytes, head_from}
use Rattle.rbd_pieces.specs.Size.{rest_of_zeros, zero_pieces}
use Rattle.rbd_pieces.proofs.AllBytes.{ends_early}
use Rattle.rbd_pieces.proofs.Sizes.{added, counted_of_head, none_left, passed_over}
use Rattle.rbd_pieces.proofs.shrink.zeros.Goals as goal
use Rattle.rbd_pieces.proofs.shrink.zeros.Goals.{then-is_zeroed+in_ok-context-2+in_ok-zeros+in_ok-push_back, else-is_zeroed}

pub first_object-first-requires-clause-end : goal.first_object-first-requires-clause-end
first_object-first-requires-clause-end c =
    let h = c.args.header.now in
    let less : c.args.to ≤ h.size = c.requires.less in
    subst (λ (e : Extent). e.at + e.len ≤ 35184372088832) (sym c.head_from-extent.ensures) (ends_early h (head_from h c.args.to) c.requires.form (omega arith))

pub objects-end-requires-clause-size : goal.objects-end-requires-clause-size
objects-end-requires-clause-size c =
    let h = c.args.header.now in
    let few : h.size ≤ 35184372088832 = few_bytes h.layout c.requires.form.layout h.size c.requires.form.objects in
    omega arith

pub loop-object-init : goal.loop-object-init
loop-object-init c =
    let t = c.args.target.now in
    let h = c.args.header.now in
    let e = head_from h c.args.to in
    let less : c.args.to ≤ h.size = c.requires.less in
    let end : h.size ≡ e.at + e.len = omega arith in
    λ next. rw (c.new-made.ensures.items, c.first_object-first.ensures, c.head_from-extent.ensures)
    (ap (λ pieces. zero_pieces t.site t.image h (filter (piece_has_bytes h c.args.bits.now) pieces) next)
    (sym (objects_between h.layout c.requires.form.layout e c.objects-end.result (subst (λ size. IsObjectCount h.layout size c.objects-end.result) end c.objects-end.ensures.count))))

pub is_zeroed-requires-clause-head : goal.is_zeroed-requires-clause-head
is_zeroed-requires-clause-head c = counted_of_head c.args.header.now c.objects-end.result c.loop-object.object c.requires.form c.objects-end.ensures.count c.loop-object-test.true

pub new-requires-clause-head : goal.new-requires-clause-head
new-requires-clause-head c = counted_of_head c.args.header.now c.objects-end.result c.loop-object.object c.requires.form c.objects-end.ensures.count c.loop-object-test.true

pub loop-object-preserved : goal.loop-object-preserved
loop-object-preserved c =
    let t = c.args.target.now in
    let h = c.args.header.now in
    elim c.if-is_zeroed.branch [
      | then-is_zeroed+in_ok-context-2+in_ok-zeros+in_ok-push_back w ↦ λ next.
          rw (w.made-is, w.in_ok-push_back.ensures.items)
          (added t.site t.image h c.args.bits.now c.head_from-extent.result c.loop-object.made.items w.in_ok-zeros.zeros c.loop-object.object c.objects-end.result next c.loop-object-test.true
          (sym c.is_zeroed.ensures ∙ w.if-is_zeroed.true) w.in_ok-zeros.ensures
          ∙ c.loop-object.invariant next)
      | else-is_zeroed w ↦ λ next.
          rw w.made-is
          (passed_over t.site t.image h c.args.bits.now c.head_from-extent.result c.loop-object.made.items c.loop-object.object c.objects-end.result next c.loop-object-test.true
          (sym c.is_zeroed.ensures ∙ w.if-is_zeroed.false)
          ∙ c.loop-object.invariant next)
    ]

pub returns : goal.returns
returns c = λ next.
    let t = c.args.target.now in
    let h = c.args.header.now in
    ap (λ pieces. rest_of_zeros c.loop-object.made.items (zero_pieces t.site t.image h pieces next))
    (sym (none_left t.site t.image h c.args.bits.now c.head_from-extent.result c.loop-object.object c.objects-end.result c.loop-object-test.false))
    ∙ c.loop-object.invariant next

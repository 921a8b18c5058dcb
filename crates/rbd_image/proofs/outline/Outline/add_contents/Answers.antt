use Rattle.std.proofs.Common.{◌≡◌, ◌+◌, ◌*◌, arith, sym, ◌∙◌, ap}
use Rattle.rbd_image.proofs.RemovalsMade.{added_up_to, byte_passed, object_added, object_passed}
use Rattle.rbd_image.proofs.outline.Outline.add_contents.Goals as goal
use Rattle.rbd_image.proofs.outline.Outline.add_contents.Goals.{in-Some+in_ok-push_back, in_default}

pub loop-index-preserved-then-bits-index-eq0 : goal.loop-index-preserved-then-bits-index-eq0
loop-index-preserved-then-bits-index-eq0 c =
    byte_passed c.args.made.now.items c.args.bits.now c.loop-index.index c.loop-index.made.items c.loop-index.invariant c.if-bits-index-eq0.true

pub loop-object-init : goal.loop-object-init
loop-object-init c = c.loop-index.invariant

pub loop-object-preserved : goal.loop-object-preserved
loop-object-preserved c =
    elim c.match-object_in.branch [
      | in-Some+in_ok-push_back w ↦
          object_added c.args.made.now.items c.args.bits.now c.loop-object.object w.in-Some.object c.loop-object.made.items c.match-object_in.made.items c.loop-object.invariant
          (sym c.object_in.ensures ∙ w.in-Some.is) (ap (λ m. m.items) w.made-is ∙ w.in_ok-push_back.ensures.items)
      | in_default w ↦
          ap (λ m. m.items) w.made-is ∙ object_passed c.args.made.now.items c.args.bits.now c.loop-object.object c.loop-object.made.items c.loop-object.invariant (sym c.object_in.ensures ∙ w.in_default.is)
    ]

pub loop-index-preserved : goal.loop-index-preserved
loop-index-preserved c =
    let end : c.loop-object.object ≡ 4 * (c.loop-index.index + 1) = let within = c.loop-object.auto.object-end in let over = c.loop-object-test.false in omega (arith, within, over) in
    c.loop-object.invariant ∙ ap (λ n. added_up_to c.args.made.now.items c.args.bits.now n) end

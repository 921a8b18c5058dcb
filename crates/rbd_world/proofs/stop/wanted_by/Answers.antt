use Rattle.std.proofs.Common.{◌≡◌, ◌+◌, ◌++◌, [], ◌∷◌, map, sym, ap, ◌∙◌, arith}
use Rattle.std.specs.List.{range_with_len}
use Rattle.std.proofs.lemmas.List.FromFn.{map-range_with_len_more}
use Rattle.rbd_client.specs.Actor.{op_wanted}
use Rattle.rbd_world.proofs.stop.wanted_by.Goals as goal

pub loop-slot-preserved : goal.loop-slot-preserved
loop-slot-preserved g c =
    let at : 0 + c.loop-slot.slot ≡ c.loop-slot.slot = omega arith in
    c.in_ok-push.ensures.items
    ∙ ap (λ xs. xs ++ c.in_ok-next.field-0 ∷ []) c.loop-slot.invariant
    ∙ ap (λ o. map (λ slot. op_wanted g.R.Machine.stands slot c.args.client.now) (range_with_len 0 c.loop-slot.slot) ++ o ∷ []) c.in_ok-next.ensures.op
    ∙ sym (map-range_with_len_more (λ slot. op_wanted g.R.Machine.stands slot c.args.client.now) 0 c.loop-slot.slot c.loop-slot.slot at)

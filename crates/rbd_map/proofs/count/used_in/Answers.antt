use Rattle.std.proofs.Common.{◌≡◌, ◌+◌, ◌/◌, cond, count_by, ap, sym, ◌∙◌, refl, arith}
use Rattle.rbd_kinds.specs.States.{state_at}
use Rattle.rbd_map.specs.States.{states_of, is_used}
use Rattle.rbd_map.proofs.Packing.{used_more, used-le, used-take}
use Rattle.rbd_map.proofs.count.used_in.Goals as goal

pub loop-object-init : goal.loop-object-init
loop-object-init c = c.used_in_bytes-used.ensures ∙ used-take c.args.bytes.now (c.args.count / 4) (omega arith)

pub overflow_add-used : goal.overflow_add-used
overflow_add-used c =
    let more : count_by is_used (states_of c.args.bytes.now (c.loop-object.object + 1)) ≡ c.loop-object.used + c.used_at-used.result
    = used_more c.args.bytes.now c.loop-object.object (c.loop-object.object + 1) refl
    ∙ ap (λ n. n + cond (is_used (state_at c.args.bytes.now c.loop-object.object)) 1 0) (sym c.loop-object.invariant)
    ∙ ap (λ n. c.loop-object.used + n) (sym c.used_at-used.ensures) in
    let bound = used-le c.args.bytes.now (c.loop-object.object + 1) in
    omega arith

pub loop-object-preserved : goal.loop-object-preserved
loop-object-preserved c =
    sym (used_more c.args.bytes.now c.loop-object.object (c.loop-object.object + 1) refl
    ∙ ap (λ n. n + cond (is_used (state_at c.args.bytes.now c.loop-object.object)) 1 0) (sym c.loop-object.invariant)
    ∙ ap (λ n. c.loop-object.used + n) (sym c.used_at-used.ensures))

use Rattle.std.proofs.Common.{◌≡◌, ◌+◌, ◌*◌, [], ◌∷◌, count_by, get_or, ap, sym, ◌∙◌, arith}
use Rattle.rbd_map.specs.States.{states_of, is_used}
use Rattle.rbd_map.proofs.Packing.{used_byte_more, used-le}
use Rattle.rbd_map.proofs.count.used_in_bytes.Goals as goal

pub overflow_add-used : goal.overflow_add-used
overflow_add-used c =
    let more : count_by is_used (states_of c.args.bytes.now (4 * (c.loop-byte.byte-index + 1))) ≡ c.loop-byte.used + c.used_in_byte-used.result
    = used_byte_more c.args.bytes.now c.loop-byte.byte-index ∙ ap (λ n. n + count_by is_used (states_of (get_or c.args.bytes.now c.loop-byte.byte-index 0 ∷ []) 4)) (sym c.loop-byte.invariant)
    ∙ ap (λ n. c.loop-byte.used + n) (sym c.used_in_byte-used.ensures) in
    let bound = used-le c.args.bytes.now (4 * (c.loop-byte.byte-index + 1)) in
    omega arith

pub loop-byte-preserved : goal.loop-byte-preserved
loop-byte-preserved c =
    sym (used_byte_more c.args.bytes.now c.loop-byte.byte-index ∙ ap (λ n. n + count_by is_used (states_of (get_or c.args.bytes.now c.loop-byte.byte-index 0 ∷ []) 4)) (sym c.loop-byte.invariant)
    ∙ ap (λ n. c.loop-byte.used + n) (sym c.used_in_byte-used.ensures))

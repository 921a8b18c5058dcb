use Rattle.std.proofs.Common.{◌≡◌, ◌+◌, ◌*◌, ◌<◌, ap, ◌∙◌, refl, arith}
use Rattle.rbd_image.proofs.Counting.{all_used, at_most, byte_more, used_before}
use Rattle.rbd_image.proofs.used.used_among.Goals as goal

pub loop-index-init : goal.loop-index-init
loop-index-init c = refl

pub overflow_add-used : goal.overflow_add-used
overflow_add-used c =
    let count = c.args.count in
    let bits = c.args.bits.now in
    let i = c.loop-index.index in
    let first : 4 * i < count = let needed = c.bytes_of-index-end.ensures.needed in let less = c.loop-index-test.true in omega (arith, needed, less) in
    let more = byte_more count bits i first in
    let before : c.loop-index.used ≡ used_before count bits (4 * i) = c.loop-index.invariant in
    let here = c.used_in_byte-used.ensures in
    let most = (at_most count bits (4 * (i + 1))).1 in
    omega (arith, more, before, here, most)

pub loop-index-preserved : goal.loop-index-preserved
loop-index-preserved c =
    let count = c.args.count in
    let i = c.loop-index.index in
    let first : 4 * i < count = let needed = c.bytes_of-index-end.ensures.needed in let less = c.loop-index-test.true in omega (arith, needed, less) in
    let more = byte_more count c.args.bits.now i first in
    let before : c.loop-index.used ≡ used_before count c.args.bits.now (4 * i) = c.loop-index.invariant in
    let here = c.used_in_byte-used.ensures in
    omega (arith, more, before, here)

pub returns : goal.returns
returns c =
    let count = c.args.count in
    let bits = c.args.bits.now in
    let bytes = c.bytes_of-index-end.result in
    let all : c.loop-index.index ≡ bytes = let within = c.loop-index.auto.index-end in let over = c.loop-index-test.false in omega (arith, within, over) in
    c.loop-index.invariant ∙ ap (λ n. used_before count bits (4 * n)) all ∙ all_used count bits bytes c.bytes_of-index-end.ensures.there c.bytes_of-index-end.ensures.enough

use Rattle.std.proofs.Common.{arith}
use Rattle.rbd_parts.proofs.ContentsLemmas.{window-parts}
use Rattle.rbd_parts.proofs.parts.copy_window.Goals as goal

pub returns : goal.returns
returns c =
    rw (c.copy_from_slice.ensures.after, c.fill.ensures.after (λ y same. same))
    (window-parts c.args.bytes.now c.args.at _ c.min.result c.min-count.result _ c.min.ensures (grind arith) c.split_at_mut-front.ensures.back_len)

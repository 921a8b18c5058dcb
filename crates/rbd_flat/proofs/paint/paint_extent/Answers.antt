use Rattle.std.proofs.Common.{◌≡◌, min, ◌-◌, ◌+◌, length, get_or, set, ap, ◌∙◌, sym, arith}
use Rattle.std.specs.List.{range_with_len}
use Rattle.rbd_flat.specs.Flat.{painted}
use Rattle.rbd_flat.proofs.Painted.{painted_more, painted_within, painted_past}
use Rattle.rbd_flat.proofs.paint.paint_extent.Goals as goal

pub returns-then-at-size : goal.returns-then-at-size
returns-then-at-size c = sym (painted_past c.args.extent.at c.args.extent.len c.args.new.now c.args.bytes.now c.if-at-size.true)

pub loop-k-preserved : goal.loop-k-preserved
loop-k-preserved c =
    ap (λ b. set c.loop-k.bytes (c.args.extent.at + c.loop-k.k) b) c.byte_at.ensures
    ∙ ap (λ bs. set bs (c.args.extent.at + c.loop-k.k) (get_or c.args.new.now c.loop-k.k 0)) c.loop-k.invariant
    ∙ sym (painted_more c.args.extent.at c.loop-k.k c.args.new.now c.args.bytes.now)

pub returns : goal.returns
returns c =
    let whole : c.loop-k.k ≡ min c.args.extent.len (length c.args.bytes.now - c.args.extent.at) = omega (arith, c.min-len.ensures) in
    c.loop-k.invariant
    ∙ ap (λ n. painted (range_with_len c.args.extent.at n) c.args.new.now c.args.bytes.now) whole
    ∙ painted_within c.args.extent.at c.args.extent.len c.args.new.now c.args.bytes.now (omega arith)

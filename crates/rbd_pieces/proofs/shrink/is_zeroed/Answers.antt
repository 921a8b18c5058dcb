use Rattle.std.proofs.Common.{◌&&◌, nat_lt, refl, ap, sym, ◌∙◌}
use Rattle.rbd_layout.specs.Pieces.{is_touched, piece_in}
use Rattle.rbd_layout.proofs.Listed.{touched_by_bytes}
use Rattle.rbd_pieces.proofs.AllBytes.{ends_early}
use Rattle.rbd_pieces.proofs.shrink.is_zeroed.Goals as goal

pub returns-then-not-has_bytes : goal.returns-then-not-has_bytes
returns-then-not-has_bytes c =
    let piece = piece_in c.args.header.now.layout c.args.extent.now c.args.object in
    sym (ap (λ b. b && is_touched piece) (sym (c.has_bytes.ensures piece refl) ∙ c.if-not-has_bytes.true))

pub bytes_in-requires-clause-end : goal.bytes_in-requires-clause-end
bytes_in-requires-clause-end c = ends_early c.args.header.now c.args.extent.now c.requires.form c.requires.within

pub returns : goal.returns
returns c =
    let layout = c.args.header.now.layout in
    let piece = piece_in layout c.args.extent.now c.args.object in
    ap (nat_lt 0) c.bytes_in.ensures
    ∙ sym (touched_by_bytes layout c.requires.form.layout c.args.extent.now c.args.object)
    ∙ sym (ap (λ b. b && is_touched piece) (sym (c.has_bytes.ensures piece refl) ∙ c.if-not-has_bytes.false))

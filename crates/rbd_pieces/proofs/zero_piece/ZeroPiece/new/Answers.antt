use Rattle.std.proofs.Common.{false, true, List, ap, sym, ◌∙◌}
use Rattle.rbd_kinds.specs.declared.layout.Part.{Part}
use Rattle.rbd_layout.specs.Pieces.{piece_in}
use Rattle.rbd_layout.proofs.Listed.{parts_listed}
use Rattle.rbd_layout.proofs.Unique.{parts_alike}
use Rattle.rbd_pieces.specs.Zero.{zero_by}
use Rattle.rbd_pieces.proofs.AllBytes.{begun, ends_early, parts_left_out}
use Rattle.rbd_pieces.proofs.zero_piece.ZeroPiece.new.Goals as goal

pub returns-then-is_whole : goal.returns-then-is_whole
returns-then-is_whole c = λ next.
    let t = c.args.target.now in
    let h = c.args.header.now in
    let piece = piece_in h.layout c.args.extent.now c.args.object in
    c.all.ensures next
    ∙ parts_left_out t.site t.image c.args.context c.args.object c.new-parts.result piece.parts c.is_inside-inside.result next
    ∙ begun t.site t.image h c.args.context piece true c.is_inside-inside.result next c.requires.context (sym (sym c.is_whole.ensures ∙ c.if-is_whole.true)) c.is_inside-inside.ensures

pub parts_in-requires-clause-end : goal.parts_in-requires-clause-end
parts_in-requires-clause-end c = ends_early c.args.header.now c.args.extent.now c.requires.form c.requires.within

pub returns : goal.returns
returns c = λ next.
    let t = c.args.target.now in
    let h = c.args.header.now in
    let e = c.args.extent.now in
    let piece = piece_in h.layout e c.args.object in
    let inside = c.is_inside-inside.result in
    c.first_stage.ensures (record { site = t.site; image = t.image; context = c.args.context; piece = record { object = c.args.object; parts = c.in_ok-parts.parts }; stage = c.first_stage.result }) next
    ∙ ap (λ (parts : List Part). zero_by t.site t.image c.args.context (record { object = c.args.object; parts = parts }) false inside next)
    (parts_alike h.layout e c.args.object c.in_ok-parts.parts piece.parts c.in_ok-parts.ensures.parts (parts_listed h.layout c.requires.form.layout e c.args.object))
    ∙ begun t.site t.image h c.args.context piece false inside next c.requires.context (sym (sym c.is_whole.ensures ∙ c.if-is_whole.false)) c.is_inside-inside.ensures

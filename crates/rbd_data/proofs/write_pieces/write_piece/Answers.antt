use Rattle.std.proofs.Common.{ap, ◌∙◌}
use Rattle.rbd_parts.specs.Parts.{bytes_for}
use Rattle.rbd_pieces.specs.Write.{write_piece}
use Rattle.rbd_data.proofs.write_pieces.write_piece.Goals as goal

pub returns-clause-plan : goal.returns-clause-plan
returns-clause-plan c = λ header next told.
    c.new-piece.ensures.plan header next (c.in_ok-context.ensures ∙ told)
    ∙ ap (λ bytes. write_piece c.args.target.site c.args.target.image header c.args.piece bytes next)
    (c.in_ok-bytes.ensures ∙ ap (λ parts. bytes_for parts c.args.at c.args.bytes.now) c.as_slice.ensures)

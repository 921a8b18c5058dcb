use Rattle.rbd_layout.specs.Pieces.{piece_in}
use Rattle.rbd_data.proofs.Discards.{same_object}
use Rattle.rbd_data.proofs.zero_pieces.zero_piece.Goals as goal

pub returns-clause-object : goal.returns-clause-object
returns-clause-object c =
    let h = c.args.header.now in
    same_object c.in_ok-piece.piece c.args.target.site c.args.target.image h (piece_in h.layout c.args.extent.now c.args.object) c.in_ok-piece.ensures

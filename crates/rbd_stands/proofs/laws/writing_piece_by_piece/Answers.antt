use Rattle.rbd_stands.proofs.WritePieces.{pieces_write}
use Rattle.rbd_stands.proofs.laws.writing_piece_by_piece.Goals as goal

pub returns : goal.returns
returns c = pieces_write

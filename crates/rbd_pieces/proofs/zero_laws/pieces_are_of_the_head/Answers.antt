use Rattle.rbd_pieces.proofs.Sizes.{pieces_of_head}
use Rattle.rbd_pieces.proofs.zero_laws.pieces_are_of_the_head.Goals as goal

pub returns : goal.returns
returns c = pieces_of_head

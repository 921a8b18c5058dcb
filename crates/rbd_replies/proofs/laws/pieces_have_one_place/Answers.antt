use Rattle.rbd_replies.proofs.OnePlace.{one_place}
use Rattle.rbd_replies.proofs.laws.pieces_have_one_place.Goals as goal

pub returns : goal.returns
returns c = one_place

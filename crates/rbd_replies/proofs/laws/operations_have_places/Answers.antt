use Rattle.rbd_replies.proofs.Places.{steps_at_places}
use Rattle.rbd_replies.proofs.laws.operations_have_places.Goals as goal

pub returns : goal.returns
returns c = steps_at_places

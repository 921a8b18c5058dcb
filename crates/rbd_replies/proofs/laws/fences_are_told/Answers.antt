use Rattle.rbd_replies.proofs.Fencing.{fence_is_told}
use Rattle.rbd_replies.proofs.laws.fences_are_told.Goals as goal

pub returns : goal.returns
returns c = fence_is_told

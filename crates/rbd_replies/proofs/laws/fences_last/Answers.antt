use Rattle.rbd_replies.proofs.Fencing.{fence_lasts}
use Rattle.rbd_replies.proofs.laws.fences_last.Goals as goal

pub returns : goal.returns
returns c = fence_lasts

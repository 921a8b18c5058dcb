use Rattle.rbd_stands.proofs.LogSteps.{was_added}
use Rattle.rbd_stands.proofs.fencing.who_is_listed_was_added.Goals as goal

pub returns : goal.returns
returns c = was_added

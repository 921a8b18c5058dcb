use Rattle.rbd_stands.proofs.LogSteps.{owned_more}
use Rattle.rbd_stands.proofs.fencing.logs_stay_owned.Goals as goal

pub returns : goal.returns
returns c = owned_more

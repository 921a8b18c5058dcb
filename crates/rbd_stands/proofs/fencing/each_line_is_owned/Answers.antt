use Rattle.rbd_stands.proofs.LogSteps.{owned_at}
use Rattle.rbd_stands.proofs.fencing.each_line_is_owned.Goals as goal

pub returns : goal.returns
returns c = owned_at

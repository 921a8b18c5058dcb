use Rattle.rbd_stands.proofs.StoreSteps.{expired_stands}
use Rattle.rbd_stands.proofs.laws.ending_a_watch.Goals as goal

pub returns : goal.returns
returns c = expired_stands

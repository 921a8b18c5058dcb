use Rattle.rbd_stands.proofs.StoreSteps.{unseen_change}
use Rattle.rbd_stands.proofs.laws.unseen_changes.Goals as goal

pub returns : goal.returns
returns c = unseen_change

use Rattle.rbd_flat.proofs.Steps.{snap_keeps}
use Rattle.rbd_stands.proofs.SiteSteps.{parents_there}
use Rattle.rbd_stands.proofs.laws.relying_on_a_snapshot.Goals as goal

pub returns-clause-there : goal.returns-clause-there
returns-clause-there c = parents_there

pub returns-clause-same : goal.returns-clause-same
returns-clause-same c = λ f e image snap old new was is. (snap_keeps f e image snap old new was is).0

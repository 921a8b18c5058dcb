use Rattle.rbd_snap.proofs.RollbacksMeant.{rollback_means}
use Rattle.rbd_snap.proofs.rollback_laws.replies_are_meant.Goals as goal

pub returns : goal.returns
returns c = rollback_means

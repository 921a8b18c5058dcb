use Rattle.rbd_snap.proofs.RollbacksWhole.{rollback_is_whole}
use Rattle.rbd_snap.proofs.rollback_laws.rollbacks_are_whole.Goals as goal

pub returns : goal.returns
returns c = rollback_is_whole

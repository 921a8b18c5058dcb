use Rattle.rbd_snap.proofs.RollbacksLawful.{lawful_rollback_request}
use Rattle.rbd_snap.proofs.rollback_laws.rollbacks_are_lawful.Goals as goal

pub returns : goal.returns
returns c = lawful_rollback_request

use Rattle.rbd_snap.proofs.RollbacksClosed.{closed_roll_back, closed_rollback_plan}
use Rattle.rbd_snap.proofs.rollback_laws.plans_go_to_no_label.Goals as goal

pub returns-clause-rollback : goal.returns-clause-rollback
returns-clause-rollback c = closed_rollback_plan

pub returns-clause-part : goal.returns-clause-part
returns-clause-part c = closed_roll_back

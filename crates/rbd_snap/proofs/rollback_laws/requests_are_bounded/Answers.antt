use Rattle.rbd_snap.proofs.RollbacksBounded.{bounded_back_grow, bounded_back_shrink, rollback_few}
use Rattle.rbd_snap.proofs.rollback_laws.requests_are_bounded.Goals as goal

pub returns-clause-back_grow : goal.returns-clause-back_grow
returns-clause-back_grow c = bounded_back_grow

pub returns-clause-back_shrink : goal.returns-clause-back_shrink
returns-clause-back_shrink c = bounded_back_shrink

pub returns-clause-rollback : goal.returns-clause-rollback
returns-clause-rollback c = rollback_few

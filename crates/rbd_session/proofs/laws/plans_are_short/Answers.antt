use Rattle.rbd_session.proofs.Bounds.{bounded_close, bounded_quiesce, bounded_straight}
use Rattle.rbd_session.proofs.laws.plans_are_short.Goals as goal

pub returns-clause-close : goal.returns-clause-close
returns-clause-close c = bounded_close

pub returns-clause-quiesce : goal.returns-clause-quiesce
returns-clause-quiesce c = bounded_quiesce

pub returns-clause-straight : goal.returns-clause-straight
returns-clause-straight c = bounded_straight

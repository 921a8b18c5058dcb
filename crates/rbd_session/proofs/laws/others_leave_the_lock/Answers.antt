use Rattle.rbd_session.proofs.Kept.{owned_by_quiesce, owned_by_straight}
use Rattle.rbd_session.proofs.laws.others_leave_the_lock.Goals as goal

pub returns-clause-quiesce : goal.returns-clause-quiesce
returns-clause-quiesce c = owned_by_quiesce

pub returns-clause-straight : goal.returns-clause-straight
returns-clause-straight c = owned_by_straight

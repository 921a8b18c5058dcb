use Rattle.rbd_session.proofs.Order.{told_in_order, left_in_order}
use Rattle.rbd_session.proofs.Stands.{stands}
use Rattle.rbd_session.proofs.laws.closes_are_in_order.Goals as goal

pub returns-clause-told : goal.returns-clause-told
returns-clause-told c = λ site name feds before after image kind a last walk. told_in_order site image kind a after name before (stands site name feds _ last walk)

pub returns-clause-unwatched : goal.returns-clause-unwatched
returns-clause-unwatched c = λ site name feds before after image a last walk. left_in_order site image a after name before (stands site name feds _ last walk)

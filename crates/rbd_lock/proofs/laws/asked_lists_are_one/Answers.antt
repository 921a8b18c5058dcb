use Rattle.rbd_lock.proofs.OneOrder.{one_in_order}
use Rattle.rbd_lock.proofs.laws.asked_lists_are_one.Goals as goal

pub returns : goal.returns
returns c = one_in_order

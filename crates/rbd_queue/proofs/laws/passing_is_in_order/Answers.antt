use Rattle.rbd_queue.proofs.Passing.{in_order}
use Rattle.rbd_queue.proofs.laws.passing_is_in_order.Goals as goal

pub returns : goal.returns
returns c = in_order

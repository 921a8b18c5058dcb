use Rattle.rbd_queue.proofs.Passing.{ahead_first}
use Rattle.rbd_queue.proofs.laws.turns_go_in_line.Goals as goal

pub returns : goal.returns
returns c = ahead_first

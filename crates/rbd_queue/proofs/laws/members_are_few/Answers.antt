use Rattle.rbd_queue.proofs.Passing.{few_members}
use Rattle.rbd_queue.proofs.laws.members_are_few.Goals as goal

pub returns : goal.returns
returns c = few_members

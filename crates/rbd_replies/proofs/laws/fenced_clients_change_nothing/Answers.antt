use Rattle.rbd_replies.proofs.Fencing.{fenced_here, fenced_later}
use Rattle.rbd_replies.proofs.laws.fenced_clients_change_nothing.Goals as goal

pub returns-clause-while_fenced : goal.returns-clause-while_fenced
returns-clause-while_fenced c = fenced_here

pub returns-clause-since_the_fence : goal.returns-clause-since_the_fence
returns-clause-since_the_fence c = fenced_later

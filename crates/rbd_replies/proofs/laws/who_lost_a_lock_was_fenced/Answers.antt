use Rattle.rbd_replies.proofs.OwnedLogs.{keeps_the_lock}
use Rattle.rbd_replies.proofs.laws.who_lost_a_lock_was_fenced.Goals as goal

pub returns : goal.returns
returns c = keeps_the_lock

use Rattle.rbd_watch.proofs.Receivers.{sender_left_out, others_stay}
use Rattle.rbd_watch.proofs.laws.the_sender_gets_no_notice.Goals as goal

pub returns-clause-sender : goal.returns-clause-sender
returns-clause-sender c = sender_left_out

pub returns-clause-others : goal.returns-clause-others
returns-clause-others c = others_stay

use Rattle.rbd_session.proofs.Meant.{means}
use Rattle.rbd_session.proofs.laws.replies_are_meant.Goals as goal

pub returns : goal.returns
returns c = means

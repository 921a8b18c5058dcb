use Rattle.rbd_snap.proofs.Meant.{snap_means}
use Rattle.rbd_snap.proofs.laws.replies_are_meant.Goals as goal

pub returns : goal.returns
returns c = snap_means

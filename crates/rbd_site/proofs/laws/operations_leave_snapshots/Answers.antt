use Rattle.rbd_site.proofs.SnapshotLemmas.{snapshots_stay}
use Rattle.rbd_site.proofs.laws.operations_leave_snapshots.Goals as goal

pub returns : goal.returns
returns c = snapshots_stay

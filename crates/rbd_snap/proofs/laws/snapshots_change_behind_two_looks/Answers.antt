use Rattle.rbd_snap.proofs.Changes.{takes_one, removes_one}
use Rattle.rbd_snap.proofs.laws.snapshots_change_behind_two_looks.Goals as goal

pub returns-clause-taken : goal.returns-clause-taken
returns-clause-taken c = takes_one

pub returns-clause-removed : goal.returns-clause-removed
returns-clause-removed c = removes_one

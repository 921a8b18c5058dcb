use Rattle.rbd_stands.proofs.Told.{absent_still, bytes_still, told_behind_operation, told_stays}
use Rattle.rbd_stands.proofs.laws.what_was_read_of_snapshots_stays.Goals as goal

pub returns-clause-bytes : goal.returns-clause-bytes
returns-clause-bytes c = bytes_still

pub returns-clause-absent : goal.returns-clause-absent
returns-clause-absent c = absent_still

pub returns-clause-moments : goal.returns-clause-moments
returns-clause-moments c = told_stays

pub returns-clause-operation : goal.returns-clause-operation
returns-clause-operation c = told_behind_operation

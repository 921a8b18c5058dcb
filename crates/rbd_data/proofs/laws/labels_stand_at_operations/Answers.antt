use Rattle.rbd_data.proofs.Closed.{closed_write_plan, closed_pass}
use Rattle.rbd_data.proofs.laws.labels_stand_at_operations.Goals as goal

pub returns-clause-write : goal.returns-clause-write
returns-clause-write c = closed_write_plan

pub returns-clause-read : goal.returns-clause-read
returns-clause-read c = closed_pass

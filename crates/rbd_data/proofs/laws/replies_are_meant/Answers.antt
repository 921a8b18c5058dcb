use Rattle.rbd_data.proofs.Meant.{write_plan_means, read_plan_means}
use Rattle.rbd_data.proofs.laws.replies_are_meant.Goals as goal

pub returns-clause-write : goal.returns-clause-write
returns-clause-write c = write_plan_means

pub returns-clause-read : goal.returns-clause-read
returns-clause-read c = read_plan_means

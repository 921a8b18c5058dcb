use Rattle.rbd_world.proofs.Alive.{comes_once}
use Rattle.rbd_world.proofs.laws.late_operations_come_once.Goals as goal

pub returns : goal.returns
returns c = λ homes session slot o reply run more comes stays right. (comes_once homes session slot o reply run more comes stays right).1

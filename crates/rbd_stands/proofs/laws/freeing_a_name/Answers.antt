use Rattle.rbd_stands.proofs.DirectorySteps.{free_stands}
use Rattle.rbd_stands.proofs.laws.freeing_a_name.Goals as goal

pub returns : goal.returns
returns c = free_stands

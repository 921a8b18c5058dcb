use Rattle.rbd_stands.proofs.DataSteps.{write_stands}
use Rattle.rbd_stands.proofs.laws.writing_an_object.Goals as goal

pub returns : goal.returns
returns c = write_stands

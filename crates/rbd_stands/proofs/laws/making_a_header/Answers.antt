use Rattle.rbd_stands.proofs.ImageSteps.{create_stands}
use Rattle.rbd_stands.proofs.laws.making_a_header.Goals as goal

pub returns : goal.returns
returns c = create_stands

use Rattle.rbd_stands.proofs.StoreSteps.{data_of_none}
use Rattle.rbd_stands.proofs.laws.data_of_no_image.Goals as goal

pub returns : goal.returns
returns c = data_of_none

use Rattle.rbd_image.proofs.Lawful.{lawful_create}
use Rattle.rbd_image.proofs.laws.creates_are_lawful.Goals as goal

pub returns : goal.returns
returns c = lawful_create

use Rattle.rbd_image.proofs.Shown.{create_makes_one, create_keeps_limits}
use Rattle.rbd_image.proofs.laws.creates_make_one.Goals as goal

pub returns-clause-made : goal.returns-clause-made
returns-clause-made c = create_makes_one

pub returns-clause-within : goal.returns-clause-within
returns-clause-within c = create_keeps_limits

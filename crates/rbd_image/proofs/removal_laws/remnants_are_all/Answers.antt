use Rattle.rbd_image.proofs.RemovalsMade.{are_removal}
use Rattle.rbd_image.proofs.removal_laws.remnants_are_all.Goals as goal

pub returns : goal.returns
returns c = are_removal

use Rattle.rbd_meaning.proofs.Meant.{unknown_image}
use Rattle.rbd_meaning.proofs.laws.unknown_names_are_looked_up.Goals as goal

pub returns : goal.returns
returns c = unknown_image

use Rattle.rbd_image.proofs.Bounds.{bounded_names}
use Rattle.rbd_image.proofs.laws.names_are_listed_at_once.Goals as goal

pub returns : goal.returns
returns c = λ home. bounded_names home 0

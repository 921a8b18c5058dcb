use Rattle.rbd_image.proofs.Bounds.{bounded_rename}
use Rattle.rbd_image.proofs.laws.renames_ask_once.Goals as goal

pub returns : goal.returns
returns c = λ home from to. bounded_rename home from to 0

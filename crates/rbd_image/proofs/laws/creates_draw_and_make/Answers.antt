use Rattle.rbd_image.proofs.Bounds.{bounded_create}
use Rattle.rbd_image.proofs.laws.creates_draw_and_make.Goals as goal

pub returns : goal.returns
returns c = bounded_create

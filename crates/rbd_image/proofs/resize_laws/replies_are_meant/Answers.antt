use Rattle.rbd_image.proofs.ResizesMeant.{resize_means}
use Rattle.rbd_image.proofs.resize_laws.replies_are_meant.Goals as goal

pub returns : goal.returns
returns c = resize_means

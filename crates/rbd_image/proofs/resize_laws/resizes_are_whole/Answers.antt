use Rattle.rbd_image.proofs.ResizesWhole.{resize_is_whole}
use Rattle.rbd_image.proofs.resize_laws.resizes_are_whole.Goals as goal

pub returns : goal.returns
returns c = resize_is_whole

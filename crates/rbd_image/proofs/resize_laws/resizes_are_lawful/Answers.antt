use Rattle.rbd_image.proofs.ResizesLawful.{lawful_resize_request}
use Rattle.rbd_image.proofs.resize_laws.resizes_are_lawful.Goals as goal

pub returns : goal.returns
returns c = lawful_resize_request

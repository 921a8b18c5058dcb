use Rattle.rbd_image.proofs.ResizesClosed.{closed_resize_plan}
use Rattle.rbd_image.proofs.resize_laws.plans_go_to_no_label.Goals as goal

pub returns : goal.returns
returns c = closed_resize_plan

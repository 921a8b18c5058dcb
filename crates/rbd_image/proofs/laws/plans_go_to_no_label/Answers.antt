use Rattle.rbd_image.proofs.Closed.{closed_create, closed_listing}
use Rattle.rbd_image.proofs.laws.plans_go_to_no_label.Goals as goal

pub returns-clause-create : goal.returns-clause-create
returns-clause-create c = closed_create

pub returns-clause-listing : goal.returns-clause-listing
returns-clause-listing c = closed_listing

use Rattle.rbd_image.proofs.RemovalsClosed.{closed_remove, closed_request}
use Rattle.rbd_image.proofs.removal_laws.plans_go_to_no_label.Goals as goal

pub returns-clause-part : goal.returns-clause-part
returns-clause-part c = closed_remove

pub returns-clause-request : goal.returns-clause-request
returns-clause-request c = closed_request

use Rattle.rbd_session.proofs.Labels.{closed_plan}
use Rattle.rbd_session.proofs.laws.plans_go_to_no_label.Goals as goal

pub returns : goal.returns
returns c = closed_plan

use Rattle.rbd_catalog.proofs.Plans.{is_planned}
use Rattle.rbd_catalog.proofs.rows.what_is_served_has_a_plan.Goals as goal

pub returns : goal.returns
returns c = is_planned

use Rattle.rbd_snap.proofs.Closed.{closed_copying, closed_removing, closed_snap}
use Rattle.rbd_snap.proofs.laws.plans_go_to_no_label.Goals as goal

pub returns-clause-snap : goal.returns-clause-snap
returns-clause-snap c = closed_snap

pub returns-clause-take : goal.returns-clause-take
returns-clause-take c = closed_copying

pub returns-clause-remove : goal.returns-clause-remove
returns-clause-remove c = closed_removing

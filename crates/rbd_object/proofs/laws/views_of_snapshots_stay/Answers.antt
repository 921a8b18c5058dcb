use Rattle.rbd_object.proofs.StepLemmas.{view-after_steps, view-after_steps_listed}
use Rattle.rbd_object.proofs.laws.views_of_snapshots_stay.Goals as goal

pub returns-clause-earlier : goal.returns-clause-earlier
returns-clause-earlier c = view-after_steps

pub returns-clause-listed : goal.returns-clause-listed
returns-clause-listed c = view-after_steps_listed

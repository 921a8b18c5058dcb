use Rattle.rbd_data.proofs.DiscardsClosed.{closed_discard_plan}
use Rattle.rbd_data.proofs.discard_laws.labels_stand_at_operations.Goals as goal

pub returns : goal.returns
returns c = closed_discard_plan

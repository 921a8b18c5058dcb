use Rattle.rbd_flat.proofs.Steps.{steps_in_turn}
use Rattle.rbd_flat.proofs.laws.steps.Goals as goal

pub returns : goal.returns
returns c = record { in_turn = steps_in_turn }

use Rattle.rbd_stands.proofs.LogSteps.{broken_behind}
use Rattle.rbd_stands.proofs.fencing.who_is_broken_was_listed_before.Goals as goal

pub returns : goal.returns
returns c = broken_behind

use Rattle.rbd_meaning.proofs.Meant.{meant_for_nothing}
use Rattle.rbd_meaning.proofs.laws.nothing_is_granted_for_nothing.Goals as goal

pub returns : goal.returns
returns c = meant_for_nothing

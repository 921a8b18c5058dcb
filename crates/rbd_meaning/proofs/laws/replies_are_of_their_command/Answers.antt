use Rattle.rbd_meaning.proofs.Meant.{meant_kind}
use Rattle.rbd_meaning.proofs.laws.replies_are_of_their_command.Goals as goal

pub returns : goal.returns
returns c = meant_kind

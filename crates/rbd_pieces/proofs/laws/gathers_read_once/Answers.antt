use Rattle.rbd_pieces.proofs.Bounded.{bounded_gather}
use Rattle.rbd_pieces.proofs.laws.gathers_read_once.Goals as goal

pub returns : goal.returns
returns c = λ site image snap pieces read next n b. bounded_gather pieces site image snap read next n b

use Rattle.rbd_catalog.proofs.Again.{pieces_begin_again}
use Rattle.rbd_catalog.proofs.laws.changes_may_begin_pieces_again.Goals as goal

pub returns : goal.returns
returns c = pieces_begin_again

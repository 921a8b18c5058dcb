use Rattle.rbd_pieces.proofs.Closed.{closed_write, closed_gather}
use Rattle.rbd_pieces.proofs.laws.pieces_go_to_no_label.Goals as goal

pub returns-clause-write : goal.returns-clause-write
returns-clause-write c = closed_write

pub returns-clause-gather : goal.returns-clause-gather
returns-clause-gather c = λ labels site image snap pieces read next. closed_gather labels pieces site image snap read next

use Rattle.rbd_pieces.proofs.ZerosClosed.{closed_full, closed_resize, closed_zero}
use Rattle.rbd_pieces.proofs.zero_laws.parts_go_to_no_label.Goals as goal

pub returns-clause-zero : goal.returns-clause-zero
returns-clause-zero c = closed_zero

pub returns-clause-full : goal.returns-clause-full
returns-clause-full c = closed_full

pub returns-clause-size : goal.returns-clause-size
returns-clause-size c = closed_resize

use Rattle.rbd_slots.proofs.Consequences.{piece_waits}
use Rattle.rbd_slots.proofs.laws.pieces_go_in_line.Goals as goal

pub returns : goal.returns
returns R c = piece_waits R.R.Machine.stands

use Rattle.rbd_queue.proofs.Staying.{turn_joined, turn_held, turn_passed, turn_entered, turn_next, turn_left}
use Rattle.rbd_queue.proofs.laws.turns_stay.Goals as goal

pub returns-clause-joined : goal.returns-clause-joined
returns-clause-joined c = turn_joined

pub returns-clause-hold : goal.returns-clause-hold
returns-clause-hold c = turn_held

pub returns-clause-pass : goal.returns-clause-pass
returns-clause-pass c = turn_passed

pub returns-clause-enter : goal.returns-clause-enter
returns-clause-enter c = turn_entered

pub returns-clause-end_piece : goal.returns-clause-end_piece
returns-clause-end_piece c = turn_next

pub returns-clause-leave : goal.returns-clause-leave
returns-clause-leave c = turn_left

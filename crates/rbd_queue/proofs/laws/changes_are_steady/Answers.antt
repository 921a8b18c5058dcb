use Rattle.rbd_queue.proofs.Passing.{held_is_steady, passed_is_steady, entered_is_steady, next_is_steady}
use Rattle.rbd_queue.proofs.laws.changes_are_steady.Goals as goal

pub returns-clause-hold : goal.returns-clause-hold
returns-clause-hold c = held_is_steady

pub returns-clause-pass : goal.returns-clause-pass
returns-clause-pass c = passed_is_steady

pub returns-clause-enter : goal.returns-clause-enter
returns-clause-enter c = entered_is_steady

pub returns-clause-end_piece : goal.returns-clause-end_piece
returns-clause-end_piece c = next_is_steady

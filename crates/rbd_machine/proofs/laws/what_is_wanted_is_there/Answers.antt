use Rattle.rbd_machine.proofs.Wanted.{wants_operation, wants_event}
use Rattle.rbd_machine.proofs.laws.what_is_wanted_is_there.Goals as goal

pub returns-clause-operation : goal.returns-clause-operation
returns-clause-operation c = wants_operation

pub returns-clause-event : goal.returns-clause-event
returns-clause-event c = wants_event

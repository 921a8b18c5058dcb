use Rattle.rbd_machine.proofs.Orderly.{stays_answered, stays_waited, stays_noted}
use Rattle.rbd_machine.proofs.course_laws.orderly_requests_stay_orderly.Goals as goal

pub returns-clause-answered : goal.returns-clause-answered
returns-clause-answered c = stays_answered

pub returns-clause-waited : goal.returns-clause-waited
returns-clause-waited c = stays_waited

pub returns-clause-noted : goal.returns-clause-noted
returns-clause-noted c = stays_noted

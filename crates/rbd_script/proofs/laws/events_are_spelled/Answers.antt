use Rattle.rbd_script.proofs.EventSpelling.{event_read, event_said}
use Rattle.rbd_script.proofs.laws.events_are_spelled.Goals as goal

pub returns-clause-read : goal.returns-clause-read
returns-clause-read c = event_read

pub returns-clause-spelled : goal.returns-clause-spelled
returns-clause-spelled c = event_said

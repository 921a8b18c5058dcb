use Rattle.rbd_catalog.proofs.Wrong.{late_event_is_refused}
use Rattle.rbd_catalog.proofs.rows.a_write_notes_its_event_first.Goals as goal

pub returns : goal.returns
returns c = late_event_is_refused

use Rattle.rbd_catalog.proofs.Wrong.{wrong_event_is_refused}
use Rattle.rbd_catalog.proofs.rows.a_write_notes_no_discard.Goals as goal

pub returns : goal.returns
returns c = wrong_event_is_refused

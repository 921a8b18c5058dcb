use Rattle.rbd_catalog.proofs.Wrong.{early_close_is_refused}
use Rattle.rbd_catalog.proofs.rows.a_close_stays_in_its_line.Goals as goal

pub returns : goal.returns
returns c = early_close_is_refused

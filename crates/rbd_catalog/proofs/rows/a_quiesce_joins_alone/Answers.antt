use Rattle.rbd_catalog.proofs.Wrong.{shared_quiesce_is_refused}
use Rattle.rbd_catalog.proofs.rows.a_quiesce_joins_alone.Goals as goal

pub returns : goal.returns
returns c = shared_quiesce_is_refused

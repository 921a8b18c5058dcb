use Rattle.rbd_catalog.proofs.FollowsAll.{begins_once}
use Rattle.rbd_catalog.proofs.rows.only_reads_begin_again.Goals as goal

pub returns : goal.returns
returns c = begins_once

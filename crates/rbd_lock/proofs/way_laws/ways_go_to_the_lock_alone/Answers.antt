use Rattle.rbd_lock.proofs.Closed.{closed_acquire}
use Rattle.rbd_lock.proofs.way_laws.ways_go_to_the_lock_alone.Goals as goal

pub returns : goal.returns
returns c = λ labels site image watched next asks closed. closed_acquire labels asks site image watched next closed

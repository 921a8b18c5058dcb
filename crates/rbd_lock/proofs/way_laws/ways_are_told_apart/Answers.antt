use Rattle.rbd_lock.proofs.Apart.{way_apart}
use Rattle.rbd_lock.proofs.way_laws.ways_are_told_apart.Goals as goal

pub returns : goal.returns
returns c = λ labels site image watched next feds steps last same walk. way_apart labels site image next same watched feds steps last walk

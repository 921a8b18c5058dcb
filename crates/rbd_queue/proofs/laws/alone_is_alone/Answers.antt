use Rattle.rbd_queue.proofs.Passing.{alone_past, none_passes}
use Rattle.rbd_queue.proofs.laws.alone_is_alone.Goals as goal

pub returns-clause-past : goal.returns-clause-past
returns-clause-past c = alone_past

pub returns-clause-behind : goal.returns-clause-behind
returns-clause-behind c = none_passes

use Rattle.rbd_catalog.proofs.Again.{walk_keeps}
use Rattle.rbd_catalog.proofs.laws.walks_keep_to_their_line.Goals as goal

pub returns : goal.returns
returns c = walk_keeps

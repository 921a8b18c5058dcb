use Rattle.rbd_interference.proofs.Walks.{walk_pays}
use Rattle.rbd_interference.proofs.exact_laws.walks_owe_by_their_last_operation.Goals as goal

pub returns : goal.returns
returns c = walk_pays

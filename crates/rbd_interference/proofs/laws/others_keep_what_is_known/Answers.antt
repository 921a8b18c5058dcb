use Rattle.rbd_interference.proofs.Kept.{others_keep}
use Rattle.rbd_interference.proofs.laws.others_keep_what_is_known.Goals as goal

pub returns : goal.returns
returns c = others_keep

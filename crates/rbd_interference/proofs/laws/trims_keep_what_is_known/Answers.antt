use Rattle.rbd_interference.proofs.Kept.{trims_keep}
use Rattle.rbd_interference.proofs.laws.trims_keep_what_is_known.Goals as goal

pub returns : goal.returns
returns c = trims_keep

use Rattle.rbd_interference.proofs.Kept.{expiries_keep}
use Rattle.rbd_interference.proofs.laws.expiries_keep_what_is_known.Goals as goal

pub returns : goal.returns
returns c = expiries_keep

use Rattle.std.proofs.Common.{arith}
use Rattle.rbd_watch.proofs.Numbers.{stays}
use Rattle.rbd_watch.proofs.laws.notices_stay.Goals as goal

pub returns : goal.returns
returns c = λ mail posted number is some within. stays 1 number mail posted is some (omega (arith, within))

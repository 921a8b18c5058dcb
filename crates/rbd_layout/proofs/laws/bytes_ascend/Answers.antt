use Rattle.rbd_layout.proofs.Places.{ascends, ascends_back}
use Rattle.rbd_layout.proofs.laws.bytes_ascend.Goals as goal

pub returns : goal.returns
returns c = record { ascend = λ l h object o q. (ascends l h object o q, ascends_back l h object o q) }

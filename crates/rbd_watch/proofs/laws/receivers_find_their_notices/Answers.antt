use Rattle.rbd_watch.proofs.Numbers.{posted_at}
use Rattle.rbd_watch.proofs.laws.receivers_find_their_notices.Goals as goal

pub returns : goal.returns
returns c = λ mail site image from to receivers kind place is at. posted_at site image from kind mail place receivers to is at

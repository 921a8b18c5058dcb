use Rattle.rbd_meaning.proofs.One.{one_reply}
use Rattle.rbd_meaning.proofs.laws.one_reply_is_meant.Goals as goal

pub returns : goal.returns
returns c = one_reply

use Rattle.rbd_replies.proofs.NoEffects.{none_on_way}
use Rattle.rbd_replies.proofs.laws.what_is_refused_on_its_way_did_nothing.Goals as goal

pub returns : goal.returns
returns c = none_on_way

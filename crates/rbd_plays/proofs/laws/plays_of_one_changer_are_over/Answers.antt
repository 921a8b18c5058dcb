use Rattle.rbd_client.specs.Seen.{as_is}
use Rattle.rbd_plays.proofs.Over.{changes_are_over}
use Rattle.rbd_plays.proofs.laws.plays_of_one_changer_are_over.Goals as goal

pub returns : goal.returns
returns c = λ script w playable one play calmed few. changes_are_over as_is script w playable one play calmed few

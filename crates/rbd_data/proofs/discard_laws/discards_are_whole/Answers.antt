use Rattle.rbd_data.proofs.DiscardsMeant.{discard_is_whole}
use Rattle.rbd_data.proofs.discard_laws.discards_are_whole.Goals as goal

pub returns : goal.returns
returns c = discard_is_whole

use Rattle.rbd_data.proofs.DiscardsMeant.{discard_means}
use Rattle.rbd_data.proofs.discard_laws.replies_are_meant.Goals as goal

pub returns : goal.returns
returns c = discard_means

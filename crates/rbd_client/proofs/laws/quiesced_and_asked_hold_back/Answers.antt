use Rattle.rbd_client.proofs.Follows.{held_back}
use Rattle.rbd_client.proofs.laws.quiesced_and_asked_hold_back.Goals as goal

pub returns : goal.returns
returns g c = held_back g.R.Machine.stands

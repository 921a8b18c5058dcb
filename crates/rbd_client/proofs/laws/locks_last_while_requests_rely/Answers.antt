use Rattle.rbd_client.proofs.Follows.{lock_lasts}
use Rattle.rbd_client.proofs.laws.locks_last_while_requests_rely.Goals as goal

pub returns : goal.returns
returns g c = lock_lasts g.R.Machine.stands

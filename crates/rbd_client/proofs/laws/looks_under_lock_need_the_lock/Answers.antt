use Rattle.rbd_client.proofs.Requests.{request_owns}
use Rattle.rbd_client.proofs.laws.looks_under_lock_need_the_lock.Goals as goal

pub returns : goal.returns
returns g c = λ client slot p sound at acts. request_owns g.R.Machine.stands slot client sound acts p at

use Rattle.rbd_interference.proofs.Pays.{request_pays}
use Rattle.rbd_interference.proofs.exact_laws.requests_pay_their_states.Goals as goal

pub returns : goal.returns
returns c = request_pays

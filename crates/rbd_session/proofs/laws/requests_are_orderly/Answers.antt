use Rattle.rbd_session.proofs.Orderly.{orderly_from}
use Rattle.rbd_session.proofs.laws.requests_are_orderly.Goals as goal

pub returns : goal.returns
returns c = orderly_from

use Rattle.rbd_session.proofs.Lawful.{lawful_request}
use Rattle.rbd_session.proofs.laws.requests_are_lawful.Goals as goal

pub returns : goal.returns
returns c = lawful_request

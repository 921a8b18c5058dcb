use Rattle.rbd_session.proofs.Ended.{close_ends}
use Rattle.rbd_session.proofs.laws.closes_let_go.Goals as goal

pub returns : goal.returns
returns c = λ site image feds steps r walk. close_ends site r image feds steps walk

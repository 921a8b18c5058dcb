use Rattle.rbd_stands.proofs.Told.{dated_behind, later_behind}
use Rattle.rbd_stands.proofs.laws.headers_become_later.Goals as goal

pub returns-clause-later : goal.returns-clause-later
returns-clause-later c = later_behind

pub returns-clause-dated : goal.returns-clause-dated
returns-clause-dated c = dated_behind

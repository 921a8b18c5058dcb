use Rattle.rbd_stands.proofs.LogSteps.{look_owned, refused_owned, fenced_owned}
use Rattle.rbd_stands.proofs.fencing.what_is_owned_anyway.Goals as goal

pub returns-clause-look : goal.returns-clause-look
returns-clause-look c = look_owned

pub returns-clause-refused : goal.returns-clause-refused
returns-clause-refused c = refused_owned

pub returns-clause-fenced : goal.returns-clause-fenced
returns-clause-fenced c = fenced_owned

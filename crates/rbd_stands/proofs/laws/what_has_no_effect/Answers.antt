use Rattle.rbd_stands.proofs.NoEffect.{look_none, refused_none, fenced_none, unseen_none, listed_none, expired_none, missing_none, copied_none, trimmed_none}
use Rattle.rbd_stands.proofs.laws.what_has_no_effect.Goals as goal

pub returns-clause-look : goal.returns-clause-look
returns-clause-look c = look_none

pub returns-clause-refused : goal.returns-clause-refused
returns-clause-refused c = refused_none

pub returns-clause-fenced : goal.returns-clause-fenced
returns-clause-fenced c = fenced_none

pub returns-clause-unseen : goal.returns-clause-unseen
returns-clause-unseen c = unseen_none

pub returns-clause-listed : goal.returns-clause-listed
returns-clause-listed c = listed_none

pub returns-clause-missing : goal.returns-clause-missing
returns-clause-missing c = missing_none

pub returns-clause-copied : goal.returns-clause-copied
returns-clause-copied c = copied_none

pub returns-clause-trimmed : goal.returns-clause-trimmed
returns-clause-trimmed c = trimmed_none

pub returns-clause-expired : goal.returns-clause-expired
returns-clause-expired c = expired_none

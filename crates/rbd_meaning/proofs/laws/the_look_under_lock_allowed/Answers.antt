use Rattle.rbd_meaning.proofs.Allowed.{listed_unprotected, no_snapshots_listed, takes_one_more}
use Rattle.rbd_meaning.proofs.laws.the_look_under_lock_allowed.Goals as goal

pub returns-clause-taken : goal.returns-clause-taken
returns-clause-taken c = λ site image snap steps takes. (takes_one_more snap takes.own takes.may).0

pub returns-clause-removed : goal.returns-clause-removed
returns-clause-removed c = λ site image snap steps removes. listed_unprotected snap removes.own removes.listed removes.may removes.is_listed

pub returns-clause-image : goal.returns-clause-image
returns-clause-image c = λ site session image steps removes. no_snapshots_listed removes.own removes.may

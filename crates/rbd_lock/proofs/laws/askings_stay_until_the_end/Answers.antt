use Rattle.rbd_lock.proofs.Lasting.{heard_stays, missed}
use Rattle.rbd_lock.proofs.laws.askings_stay_until_the_end.Goals as goal

pub returns-clause-heard : goal.returns-clause-heard
returns-clause-heard c = heard_stays

pub returns-clause-missed : goal.returns-clause-missed
returns-clause-missed c = missed

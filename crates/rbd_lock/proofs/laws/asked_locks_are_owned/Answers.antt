use Rattle.rbd_lock.proofs.Lasting.{asked_is_owned}
use Rattle.rbd_lock.proofs.laws.asked_locks_are_owned.Goals as goal

pub returns : goal.returns
returns c = λ site image s comings. asked_is_owned site image comings s

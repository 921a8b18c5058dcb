use Rattle.rbd_schedule.proofs.Going.{somebody_goes}
use Rattle.rbd_schedule.proofs.laws.somebody_goes_on.Goals as goal

pub returns : goal.returns
returns c = λ s slot o sound held. somebody_goes _ s sound slot o held

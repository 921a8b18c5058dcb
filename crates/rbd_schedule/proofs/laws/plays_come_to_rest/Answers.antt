use Rattle.rbd_client.specs.Seen.{as_is}
use Rattle.rbd_schedule.proofs.Calmed.{plays_rest}
use Rattle.rbd_schedule.proofs.laws.plays_come_to_rest.Goals as goal

pub returns : goal.returns
returns c = λ script w play sound few. plays_rest as_is script w play sound few

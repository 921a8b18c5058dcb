use Rattle.rbd_client.specs.Seen.{as_is}
use Rattle.rbd_schedule.proofs.Turns.{play_takes_turns}
use Rattle.rbd_schedule.proofs.laws.commands_take_turns.Goals as goal

pub returns : goal.returns
returns c = λ script w in_order play session. play_takes_turns as_is script w play in_order session

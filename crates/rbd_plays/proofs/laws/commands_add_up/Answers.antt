use Rattle.rbd_client.specs.Seen.{as_is}
use Rattle.rbd_plays.proofs.AddUp.{play_adds_up}
use Rattle.rbd_plays.proofs.laws.commands_add_up.Goals as goal

pub returns : goal.returns
returns c = λ script w in_order play. play_adds_up as_is script w in_order play

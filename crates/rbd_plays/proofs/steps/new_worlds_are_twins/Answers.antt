use Rattle.rbd_client.specs.Seen.{as_is}
use Rattle.rbd_plays.proofs.NewTwins.{new_worlds_are_twins}
use Rattle.rbd_plays.proofs.steps.new_worlds_are_twins.Goals as goal

pub returns : goal.returns
returns c = new_worlds_are_twins as_is

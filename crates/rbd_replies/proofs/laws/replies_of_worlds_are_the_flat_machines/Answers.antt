use Rattle.rbd_replies.proofs.Worlds.{told_in_world}
use Rattle.rbd_replies.proofs.laws.replies_of_worlds_are_the_flat_machines.Goals as goal

pub returns : goal.returns
returns c = told_in_world

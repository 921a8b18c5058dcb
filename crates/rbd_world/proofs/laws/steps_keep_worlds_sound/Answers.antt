use Rattle.rbd_client.specs.Seen.{as_is}
use Rattle.rbd_world.proofs.Steps.{steps_keep}
use Rattle.rbd_world.proofs.laws.steps_keep_worlds_sound.Goals as goal

pub returns : goal.returns
returns c = steps_keep as_is

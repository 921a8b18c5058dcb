use Rattle.rbd_client.specs.Seen.{as_is}
use Rattle.rbd_world.proofs.Beginning.{new_world_is_sound}
use Rattle.rbd_world.proofs.laws.worlds_begin_sound.Goals as goal

pub returns : goal.returns
returns c = new_world_is_sound as_is

use Rattle.rbd_client.specs.Seen.{as_is}
use Rattle.rbd_world.proofs.Undone.{undone_is_sound}
use Rattle.rbd_world.proofs.laws.refused_steps_leave_worlds_sound.Goals as goal

pub returns : goal.returns
returns c = undone_is_sound as_is

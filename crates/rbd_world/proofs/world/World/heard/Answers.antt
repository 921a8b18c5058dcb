use Rattle.std.proofs.Common.{rules}
use Rattle.rbd_world.proofs.SeenWorld.{heard_in_world}
use Rattle.rbd_world.proofs.world.World.heard.Goals as goal

pub returns-in-Some : goal.returns-in-Some
returns-in-Some c = rw heard_in_world (search rules)

pub returns-in-None : goal.returns-in-None
returns-in-None c = rw heard_in_world (search rules)

use Rattle.std.proofs.Common.{rules}
use Rattle.rbd_world.proofs.SeenWorld.{instance_in_world}
use Rattle.rbd_world.proofs.world.World.running.Goals as goal

pub returns-in_err-client_of : goal.returns-in_err-client_of
returns-in_err-client_of c = rw instance_in_world (search rules)

pub returns : goal.returns
returns c = rw instance_in_world (search rules)

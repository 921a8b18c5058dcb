use Rattle.std.proofs.Common.{rules}
use Rattle.rbd_world.proofs.SeenWorld.{free_in_world}
use Rattle.rbd_world.proofs.world.World.free.Goals as goal

pub returns-in_err-client_of : goal.returns-in_err-client_of
returns-in_err-client_of c = rw free_in_world (search rules)

pub returns : goal.returns
returns c = rw free_in_world (search rules)

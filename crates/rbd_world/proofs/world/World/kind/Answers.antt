use Rattle.std.proofs.Common.{rules}
use Rattle.rbd_world.proofs.SeenWorld.{kind_in_world}
use Rattle.rbd_world.proofs.world.World.kind.Goals as goal

pub returns-in_err-client_of : goal.returns-in_err-client_of
returns-in_err-client_of c = rw kind_in_world (search rules)

pub returns : goal.returns
returns c = rw kind_in_world (search rules)

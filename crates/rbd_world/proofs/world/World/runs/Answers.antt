use Rattle.std.proofs.Common.{rules}
use Rattle.rbd_world.proofs.SeenWorld.{runs_in_world}
use Rattle.rbd_world.proofs.world.World.runs.Goals as goal

pub returns : goal.returns
returns c = rw runs_in_world (search rules)

use Rattle.rbd_world.proofs.Alive.{only_lives_that_run_act}
use Rattle.rbd_world.proofs.laws.only_lives_that_run_act.Goals as goal

pub returns : goal.returns
returns c = only_lives_that_run_act

use Rattle.rbd_script.proofs.Halves.{no_halves}
use Rattle.rbd_script.proofs.name.snap_of.Goals as goal

pub returns-in_default : goal.returns-in_default
returns-in_default c = no_halves c.args.token.now c.in_default.ensures.none

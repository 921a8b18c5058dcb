use Rattle.rbd_machine.proofs.Bounds.{bounded_path}
use Rattle.rbd_machine.proofs.laws.paths_keep_bounds.Goals as goal

-- src/laws.rt:11:1
pub returns : goal.returns
returns c = λ n plan path. bounded_path path plan n

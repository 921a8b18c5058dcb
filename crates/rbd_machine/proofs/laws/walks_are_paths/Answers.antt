use Rattle.rbd_machine.proofs.Walks.{walk_path}
use Rattle.rbd_machine.proofs.laws.walks_are_paths.Goals as goal

pub returns : goal.returns
returns c = walk_path

use Rattle.rbd_machine.proofs.Passed.{walk_bounded}
use Rattle.rbd_machine.proofs.laws.walks_keep_bounds.Goals as goal

pub returns : goal.returns
returns c = λ labels plan feds steps last n each bounded labels_bounded walk. walk_bounded labels each labels_bounded feds plan n steps last bounded walk

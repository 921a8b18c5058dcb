use Rattle.rbd_machine.proofs.Passed.{walk_ends}
use Rattle.rbd_machine.proofs.laws.walks_end_in_a_pass.Goals as goal

pub returns : goal.returns
returns c = λ labels plan feds steps last walk. walk_ends labels feds plan steps last walk

use Rattle.rbd_knowledge.proofs.Calmly.{look_is_calm}
use Rattle.rbd_knowledge.proofs.laws.who_joins_no_line_waits_for_nothing.Goals as goal

pub returns : goal.returns
returns c = look_is_calm

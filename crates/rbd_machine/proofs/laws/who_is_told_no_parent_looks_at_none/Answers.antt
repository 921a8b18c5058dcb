use Rattle.rbd_machine.proofs.Alone.{go_alone}
use Rattle.rbd_machine.proofs.laws.who_is_told_no_parent_looks_at_none.Goals as goal

pub returns : goal.returns
returns c = go_alone

use Rattle.rbd_machine.proofs.Possible.{own_again, parent_stays_gone, snapshot_keeps_its_size}
use Rattle.rbd_machine.proofs.laws.later_looks_agree.Goals as goal

pub returns-clause-parent : goal.returns-clause-parent
returns-clause-parent c = parent_stays_gone

pub returns-clause-snapshot : goal.returns-clause-snapshot
returns-clause-snapshot c = snapshot_keeps_its_size

pub returns-clause-own : goal.returns-clause-own
returns-clause-own c = own_again

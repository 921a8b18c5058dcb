use Rattle.std.specs.FinSet.{contains-empty}
use Rattle.rbd_fence.specs.Instances.{instance_cmp}
use Rattle.rbd_fence.proofs.Sets.{contains-insert_itself, contains-insert_other, insert_again}
use Rattle.rbd_fence.proofs.laws.additions_are_kept.Goals as goal

pub returns-clause-first : goal.returns-clause-first
returns-clause-first c = contains-empty instance_cmp

pub returns-clause-added : goal.returns-clause-added
returns-clause-added c = contains-insert_itself

pub returns-clause-others : goal.returns-clause-others
returns-clause-others c = contains-insert_other

pub returns-clause-again : goal.returns-clause-again
returns-clause-again c = insert_again

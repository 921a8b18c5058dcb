use Rattle.rbd_meaning.proofs.Undone.{meant_changes_nothing, meant_unless_fenced}
use Rattle.rbd_meaning.proofs.laws.refusals_change_nothing.Goals as goal

pub returns-clause-early : goal.returns-clause-early
returns-clause-early c = meant_changes_nothing

pub returns-clause-but_for_the_fence : goal.returns-clause-but_for_the_fence
returns-clause-but_for_the_fence c = meant_unless_fenced

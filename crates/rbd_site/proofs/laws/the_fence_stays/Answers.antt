use Rattle.rbd_site.proofs.FenceLemmas.{fence_stays, lists_it, lists_no_other}
use Rattle.rbd_site.proofs.laws.the_fence_stays.Goals as goal

pub returns-clause-listed : goal.returns-clause-listed
returns-clause-listed c = lists_it

pub returns-clause-operation : goal.returns-clause-operation
returns-clause-operation c = fence_stays

pub returns-clause-others : goal.returns-clause-others
returns-clause-others c = lists_no_other

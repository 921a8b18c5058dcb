use Rattle.rbd_replies.proofs.WatchesEnd.{removed_by_owner, watch_ends}
use Rattle.rbd_replies.proofs.laws.watches_end_by_themselves.Goals as goal

pub returns-clause-ends : goal.returns-clause-ends
returns-clause-ends c = λ homes run h who s image right watching ended. watch_ends homes who s image run watching h right.1 ended

pub returns-clause-removed : goal.returns-clause-removed
returns-clause-removed c = λ homes run o reply who s image right watching ended removes. removed_by_owner homes who s image run watching o reply right.1 ended removes

use Rattle.rbd_replies.proofs.WatchesEnd.{telling_changes_none}
use Rattle.rbd_replies.proofs.laws.what_is_told_changes_no_site.Goals as goal

pub returns : goal.returns
returns c = λ homes run o reply image kind right tells. telling_changes_none homes run o reply image kind right tells

use Rattle.rbd_replies.proofs.Owners.{owner_changes, owner_was_fenced}
use Rattle.rbd_replies.proofs.laws.changes_are_the_owners.Goals as goal

pub returns-clause-owned : goal.returns-clause-owned
returns-clause-owned c = λ homes run o reply image right. owner_changes homes run o reply image right

pub returns-clause-broken : goal.returns-clause-broken
returns-clause-broken c = λ homes run o reply image owner right. owner_was_fenced homes run o reply image right owner

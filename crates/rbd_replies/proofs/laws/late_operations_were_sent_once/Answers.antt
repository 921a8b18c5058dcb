use Rattle.rbd_replies.proofs.AtPlaces.{late_once}
use Rattle.rbd_replies.proofs.SentOnce.{was_sent}
use Rattle.rbd_replies.proofs.laws.late_operations_were_sent_once.Goals as goal

pub returns-clause-sent : goal.returns-clause-sent
returns-clause-sent c = λ homes run o reply slot. was_sent homes run o reply slot

pub returns-clause-worlds : goal.returns-clause-worlds
returns-clause-worlds c = λ w told. late_once told.homes told.run told.right

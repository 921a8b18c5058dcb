use Rattle.rbd_machine.proofs.Lawful.{not_owned, object_not_owned}
use Rattle.rbd_machine.proofs.laws.what_is_not_owned_is_left.Goals as goal

pub returns-clause-bytes : goal.returns-clause-bytes
returns-clause-bytes c = λ k site image number context must parts bytes none may. not_owned k site image _ none may

pub returns-clause-zeros : goal.returns-clause-zeros
returns-clause-zeros c = λ k site image number context must parts none may. not_owned k site image _ none may

pub returns-clause-emptying : goal.returns-clause-emptying
returns-clause-emptying c = λ k site image number context none may. not_owned k site image _ none may

pub returns-clause-replacing : goal.returns-clause-replacing
returns-clause-replacing c = λ k site image number context bytes none may. not_owned k site image _ none may

pub returns-clause-object : goal.returns-clause-object
returns-clause-object c = λ k site image number context none remains may. object_not_owned k site image _ none remains may

pub returns-clause-size : goal.returns-clause-size
returns-clause-size c = λ k site image to none may. not_owned k site image _ none may

pub returns-clause-taking : goal.returns-clause-taking
returns-clause-taking c = λ k site image name none may. not_owned k site image _ none may

pub returns-clause-removing : goal.returns-clause-removing
returns-clause-removing c = λ k site image snap none may. not_owned k site image _ none may

pub returns-clause-name : goal.returns-clause-name
returns-clause-name c = λ k site image none may. not_owned k site image _ none may

pub returns-clause-header : goal.returns-clause-header
returns-clause-header c = λ k site image none may. not_owned k site image _ none may

use Rattle.rbd_knowledge.proofs.Answered.{answers_are_true, answers_are_true_elsewhere}
use Rattle.rbd_knowledge.proofs.Acts.{acts_beside_own}
use Rattle.rbd_knowledge.proofs.Permitted.{does_what_it_may, knows_truly}
use Rattle.rbd_knowledge.proofs.client_laws.answers_leave_clients_true.Goals as goal

pub returns-clause-here : goal.returns-clause-here
returns-clause-here g c = λ old new knows slot site r flat me o result most sound all is states stood form mapped t fed.
    let stands = g.R.Machine.stands in
    answers_are_true stands old new knows slot site r me o result is states (does_what_it_may stands slot old knows site o all is) flat most stood form mapped sound all t (knows_truly stands slot old knows site r me t)
    (λ other differ. acts_beside_own stands old knows sound all r me me slot other site o differ is) fed

pub returns-clause-elsewhere : goal.returns-clause-elsewhere
returns-clause-elsewhere g c = λ old new knows slot site there r q me o result all is states differ t fed.
    let stands = g.R.Machine.stands in
    answers_are_true_elsewhere stands old new knows slot site r me o result is states (does_what_it_may stands slot old knows site o all is) there q differ t fed

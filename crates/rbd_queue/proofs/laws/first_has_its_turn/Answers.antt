use Rattle.rbd_queue.proofs.Passing.{some_turn, one_first}
use Rattle.rbd_queue.proofs.laws.first_has_its_turn.Goals as goal

pub returns-clause-some : goal.returns-clause-some
returns-clause-some c = λ members object some. some_turn object members some

pub returns-clause-one : goal.returns-clause-one
returns-clause-one c = λ members object slot other here there. one_first slot other _ here there

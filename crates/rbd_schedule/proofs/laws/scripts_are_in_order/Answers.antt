use Rattle.rbd_schedule.proofs.Ascending.{script_in_order}
use Rattle.rbd_schedule.proofs.laws.scripts_are_in_order.Goals as goal

pub returns-clause-lines : goal.returns-clause-lines
returns-clause-lines c = λ threads bytes s is. (script_in_order threads bytes s is).lines

pub returns-clause-declared : goal.returns-clause-declared
returns-clause-declared c = λ threads bytes s is. (script_in_order threads bytes s is).declared

pub returns-clause-sessions : goal.returns-clause-sessions
returns-clause-sessions c = λ threads bytes s is. (script_in_order threads bytes s is).sessions

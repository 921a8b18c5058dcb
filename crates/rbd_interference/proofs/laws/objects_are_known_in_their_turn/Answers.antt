use Rattle.rbd_interference.proofs.Turns.{answered_in_turn, applied_unknown, nothing_in_turn, turned_unknown, waited_in_turn}
use Rattle.rbd_interference.proofs.laws.objects_are_known_in_their_turn.Goals as goal

pub returns-clause-first : goal.returns-clause-first
returns-clause-first c = nothing_in_turn

pub returns-clause-answered : goal.returns-clause-answered
returns-clause-answered c = answered_in_turn

pub returns-clause-waited : goal.returns-clause-waited
returns-clause-waited c = waited_in_turn

pub returns-clause-turned : goal.returns-clause-turned
returns-clause-turned c = λ site there k image object of turn. (turned_unknown site k image object turn, applied_unknown site there k image object of)

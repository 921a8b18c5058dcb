use Rattle.rbd_world.proofs.WaysOfLines.{asked_on_way, at_look, lets_go, over_before, refused_there}
use Rattle.rbd_world.proofs.laws.operations_come_in_their_turn.Goals as goal

pub returns-clause-asked : goal.returns-clause-asked
returns-clause-asked c = λ homes line o r run right. asked_on_way homes line o r run right

pub returns-clause-look : goal.returns-clause-look
returns-clause-look c = λ homes line o r run right. at_look homes line o r run right

pub returns-clause-refused : goal.returns-clause-refused
returns-clause-refused c = refused_there

pub returns-clause-itself : goal.returns-clause-itself
returns-clause-itself c = λ homes line o r run right. over_before homes line o r run right

pub returns-clause-house : goal.returns-clause-house
returns-clause-house c = λ homes o r run right. lets_go homes 0 o r run right

use Rattle.rbd_guard.proofs.Leaving.{first_ahead, one_way}
use Rattle.rbd_guard.proofs.laws.turns.Goals as goal

pub returns-clause-first : goal.returns-clause-first
returns-clause-first c = first_ahead

pub returns-clause-one_way : goal.returns-clause-one_way
returns-clause-one_way c = one_way

use Rattle.rbd_data.proofs.DiscardsBounded.{bounded_discard, bounded_own}
use Rattle.rbd_data.proofs.discard_laws.discards_are_bounded.Goals as goal

pub returns-clause-pieces : goal.returns-clause-pieces
returns-clause-pieces c = bounded_own

pub returns-clause-all : goal.returns-clause-all
returns-clause-all c = bounded_discard

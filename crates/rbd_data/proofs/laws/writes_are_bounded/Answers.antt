use Rattle.rbd_data.proofs.Bounded.{bounded_put, bounded_write_request}
use Rattle.rbd_data.proofs.laws.writes_are_bounded.Goals as goal

pub returns-clause-pieces : goal.returns-clause-pieces
returns-clause-pieces c = bounded_put

pub returns-clause-all : goal.returns-clause-all
returns-clause-all c = bounded_write_request

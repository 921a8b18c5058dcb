use Rattle.rbd_meaning.proofs.Fixed.{begun_so, read_by, written_so}
use Rattle.rbd_meaning.proofs.laws.pieces_have_their_operations.Goals as goal

pub returns-clause-written : goal.returns-clause-written
returns-clause-written c = written_so

pub returns-clause-begun : goal.returns-clause-begun
returns-clause-begun c = begun_so

pub returns-clause-read : goal.returns-clause-read
returns-clause-read c = read_by

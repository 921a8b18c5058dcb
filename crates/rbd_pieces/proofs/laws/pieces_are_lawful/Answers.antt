use Rattle.rbd_pieces.proofs.Lawful.{lawful_write, lawful_gather}
use Rattle.rbd_pieces.proofs.laws.pieces_are_lawful.Goals as goal

pub returns-clause-write : goal.returns-clause-write
returns-clause-write c = lawful_write

pub returns-clause-gather : goal.returns-clause-gather
returns-clause-gather c = λ at k site image snap pieces read next lawful. lawful_gather at k pieces site image snap read next lawful

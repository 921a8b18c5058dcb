use Rattle.rbd_layout.proofs.Listed.{parts_listed, pieces_listed, pieces_of_alone}
use Rattle.rbd_layout.proofs.laws.pieces_are_listed.Goals as goal

pub returns-clause-parts : goal.returns-clause-parts
returns-clause-parts c = parts_listed

pub returns-clause-pieces : goal.returns-clause-pieces
returns-clause-pieces c = pieces_of_alone

pub returns-clause-are : goal.returns-clause-are
returns-clause-are c = pieces_listed

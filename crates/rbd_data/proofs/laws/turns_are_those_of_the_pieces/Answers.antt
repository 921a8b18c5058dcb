use Rattle.rbd_layout.proofs.Listed.{pieces_listed}
use Rattle.rbd_layout.specs.Pieces.{pieces_of}
use Rattle.rbd_meaning.specs.Range.{extent_at}
use Rattle.rbd_data.proofs.Turns.{turns_of_pieces}
use Rattle.rbd_data.proofs.laws.turns_are_those_of_the_pieces.Goals as goal

pub returns-clause-turns : goal.returns-clause-turns
returns-clause-turns c = λ left site at bytes image h. turns_of_pieces left (pieces_of h.layout (extent_at at bytes)) site image h at bytes

pub returns-clause-ascending : goal.returns-clause-ascending
returns-clause-ascending c = λ l e is. (pieces_listed l is e).ascending

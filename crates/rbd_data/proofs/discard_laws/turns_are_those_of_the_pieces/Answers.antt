use Rattle.rbd_layout.specs.Pieces.{pieces_of}
use Rattle.rbd_data.proofs.DiscardTurns.{turns_of_pieces}
use Rattle.rbd_data.proofs.discard_laws.turns_are_those_of_the_pieces.Goals as goal

pub returns : goal.returns
returns c = λ left site e image h. turns_of_pieces left (pieces_of h.layout e) site image h

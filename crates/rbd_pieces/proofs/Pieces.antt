-- What is done for several pieces, by what is done for one.
use Rattle.std.proofs.Common.{List, [], ◌∷◌, ◌++◌, sym, subst}
use Rattle.rbd_machine.specs.Path.{Answered}
use Rattle.rbd_pieces.specs.Pieces.{ArePieces}

-- What holds of no step, of two lists of steps one behind the other, and of the steps of each piece,
-- holds of those of all pieces.
pub of_each_piece : {P : Type 0} → (Holds : List Answered → Type 0) → Holds [] → ((one two : List Answered) → Holds one → Holds two → Holds (one ++ two))
    → (IsPiece : P → List Answered → Type 0) → ((p : P) (steps : List Answered) → IsPiece p steps → Holds steps)
    → (pieces : List P) (steps : List Answered) → ArePieces IsPiece pieces steps → Holds steps
of_each_piece Holds none both IsPiece each [] steps are = subst Holds (sym are) none
of_each_piece Holds none both IsPiece each (p ∷ pieces) steps are =
    subst Holds (sym are.are) (both are.first are.others (each p are.first are.is_first) (of_each_piece Holds none both IsPiece each pieces are.others are.are_others))

-- What is done for several pieces, where what is done for one is a relation: its list of steps may be
-- one of several.
use Rattle.std.specs.Prelude.{◌≡◌, List, [], ◌∷◌, ◌++◌}
use Rattle.rbd_machine.specs.Path.{Answered}

-- the steps of the first piece, and those of the others behind them
pub record FollowEachOther (IsFirst AreOthers : List Answered → Type 0) (steps : List Answered) : Type 0 where
  pub first : List Answered
  pub others : List Answered
  pub is_first : IsFirst first
  pub are_others : AreOthers others
  pub are : steps ≡ first ++ others

-- piece by piece, and nothing else
abbrev pub ArePieces : {P : Type 0} → (IsPiece : P → List Answered → Type 0) → List P → List Answered → Type 0
ArePieces IsPiece [] steps = steps ≡ []
ArePieces IsPiece (p ∷ pieces) steps = FollowEachOther (IsPiece p) (ArePieces IsPiece pieces) steps

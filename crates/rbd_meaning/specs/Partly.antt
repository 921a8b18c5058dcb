-- What a change has done that was cut off.
use Rattle.std.specs.Prelude.{List, ◌∷◌, ◌++◌}
use Rattle.rbd_machine.specs.Path.{Answered}

-- These are the first operations of a whole change.
pub record IsFrontOf (IsWhole : List Answered → Type 0) (steps : List Answered) : Type 0 where
  pub rest : List Answered
  pub whole : IsWhole (steps ++ rest)

-- the same, where others of its operations are left
pub record IsBeginningOf (IsWhole : List Answered → Type 0) (steps : List Answered) : Type 0 where
  pub next : Answered
  pub rest : List Answered
  pub whole : IsWhole (steps ++ next ∷ rest)

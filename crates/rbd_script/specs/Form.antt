-- Forms: the parts of a line in their order.
use Rattle.std.specs.Prelude.{ℕ, List, [], ◌∷◌, Result, Ok, Err}
use Rattle.rbd_script.specs.declared.fault.LineCause.{LineCause}
use Rattle.rbd_script.specs.declared.fault.LineCause.TheVariants.{ExtraPart}
use Rattle.rbd_script.specs.Part.{Front, Part, Value, part_of}

-- from the values of some parts to what they say together
abbrev pub From : List Part → Type 0 → Type 0
From [] A = A
From (p ∷ parts) A = Value p → From parts A

-- what follows is read where the front is
abbrev pub and_then : {X A : Type 0} → Front X → (X → List (List ℕ) → Result A LineCause) → Result A LineCause
and_then (Ok (value, tokens)) next = next value tokens
and_then (Err cause) next = Err cause

-- the parts from left to right, and no token behind them
unfoldable pub form : {A : Type 0} → (parts : List Part) → From parts A → List (List ℕ) → Result A LineCause
form [] said [] = Ok said
form [] said (token ∷ tokens) = Err ExtraPart
form (p ∷ parts) said tokens = and_then (part_of p tokens) (λ value behind. form parts (said value) behind)

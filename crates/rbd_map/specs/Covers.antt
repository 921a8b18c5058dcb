-- What a map says of the objects that are there.
use Rattle.std.specs.Prelude.{◌≡◌, ℕ, Bool, IsFalse, List, slice_index}

-- State 0 means that the object doesn't exist. Past the end the state is 0.
pub record Covers (states : List ℕ) (exists : ℕ → Bool) : Type 0 where
  pub absent : (object : ℕ) → slice_index states object ≡ 0 → IsFalse (exists object)

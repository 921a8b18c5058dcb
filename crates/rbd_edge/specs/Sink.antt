-- What a sink holds, and what a call adds to it.
use Rattle.std.specs.Prelude.{ℕ, ◌≡◌, ◌<◌, List, ◌++◌, length, take, Option, Some, None}

-- what is held once these bytes are appended, where it is told
abbrev pub held_with : List ℕ → Option (List ℕ) → Option (List ℕ)
held_with bytes None = None
held_with bytes (Some held) = Some (held ++ bytes)

-- a part of the text was appended from its front, and not all of it
abbrev pub GainsFront : List ℕ → Option (List ℕ) → Option (List ℕ) → Type 0
GainsFront text old new = (n : ℕ) × (n < length text) × (new ≡ held_with (take n text) old)

-- a sink in memory, as contracts see it
pub record SinkInMemory : Type 0 where
  -- the bytes held
  pub held : List ℕ
  -- the most bytes that it holds
  pub room : ℕ
  -- the most bytes of one call
  pub most : ℕ
  -- the numbers of the calls that fail
  pub fail : List ℕ
  -- the number of the last call, 0 before the first
  pub calls : ℕ
  -- how many calls failed
  pub faults : ℕ

-- What a source has left, and what a call takes from it.
use Rattle.std.specs.Prelude.{ℕ, ◌≡◌, ◌≤◌, List, drop, Option, Some, None}

-- what is left once the first n bytes are taken, where it is told
abbrev pub left_after : ℕ → Option (List ℕ) → Option (List ℕ)
left_after n None = None
left_after n (Some bytes) = Some (drop n bytes)

-- some of the first bytes were taken, at most so many
abbrev pub IsFurther : ℕ → Option (List ℕ) → Option (List ℕ) → Type 0
IsFurther limit old new = (n : ℕ) × (n ≤ limit) × (new ≡ left_after n old)

-- a source in memory, as contracts see it
pub record SourceInMemory : Type 0 where
  -- the bytes left
  pub left : List ℕ
  -- the most bytes of one call
  pub most : ℕ
  -- the numbers of the calls that fail
  pub fail : List ℕ
  -- the number of the last call, 0 before the first
  pub calls : ℕ
  -- how many calls failed
  pub faults : ℕ

-- Lines and tokens.
use Rattle.std.specs.Prelude.{ℕ, nat_eq, ◌==◌, Bool, true, false, List, [], ◌∷◌}
use Rattle.std.specs.Cmp.Lexicographic.{pointwise}
use Rattle.std.specs.List.{filter, slice_split}

-- The lines: each ends with a line feed, and what follows the last of these is a line too.
abbrev pub text_lines : List ℕ → List (List ℕ)
text_lines text = slice_split (λ b. b == 10) text

-- all but the last of some things
abbrev pub without_last : {X : Type 0} → List X → List X
without_last [] = []
without_last (x ∷ []) = []
without_last (x ∷ y ∷ xs) = x ∷ without_last (y ∷ xs)

abbrev pub has_any_byte : List ℕ → Bool
has_any_byte [] = false
has_any_byte (b ∷ bytes) = true

-- the tokens of a line: what stands between spaces, as far as it isn't empty
abbrev pub tokens_of : List ℕ → List (List ℕ)
tokens_of line = filter has_any_byte (slice_split (λ b. b == 32) line)

-- whether a token is a word
abbrev pub is : (word token : List ℕ) → Bool
is word token = pointwise nat_eq token word

abbrev pub begins_with : ℕ → List ℕ → Bool
begins_with byte [] = false
begins_with byte (b ∷ bytes) = b == byte

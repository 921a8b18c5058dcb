-- Deeds, one after another.
use Rattle.std.specs.Prelude.{◌≡◌, ℕ, zero, suc}

-- The deeds of the numbers below this one, in their order, lead from one state to another.
unfoldable pub Deeds : {S : Type 0} → (deed : ℕ → S → S → Type 0) → ℕ → (old new : S) → Type 0
Deeds deed zero old new = new ≡ old
Deeds {S} deed (suc n) old new = (between : S) × Deeds deed n old between × deed n between new

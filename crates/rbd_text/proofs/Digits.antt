-- Digits are printed from the highest on.
use Rattle.std.proofs.Common.{◌≡◌, ℕ, ◌<◌, ◌/◌, ◌%◌, List, [], ◌∷◌, ◌++◌, map, ap, sym, ◌∙◌, append_assoc, lit≤}
use Rattle.std.proofs.lemmas.List.{map-append}
use Rattle.std.proofs.lemmas.Int.Digits.{digits_of_step}
use Rattle.std.specs.Int.Digits.{digits_of}

-- the last digit after those before it
pub digits_printed : (glyph : ℕ → ℕ) (old before text : List ℕ) (n last : ℕ) → 0 < n → before ≡ old ++ map glyph (digits_of 16 (n / 16)) → last ≡ glyph (n % 16) → text ≡ before ++ last ∷ []
    → text ≡ old ++ map glyph (digits_of 16 n)
digits_printed glyph old before text n last some front back is =
    is ∙ ap (λ xs. xs ++ last ∷ []) front ∙ ap (λ x. (old ++ map glyph (digits_of 16 (n / 16))) ++ x ∷ []) back ∙ append_assoc old (map glyph (digits_of 16 (n / 16))) (glyph (n % 16) ∷ [])
    ∙ ap (λ digits. old ++ digits) (sym (ap (map glyph) (digits_of_step 16 n (lit≤ tt) some) ∙ map-append glyph (digits_of 16 (n / 16)) (n % 16 ∷ [])))

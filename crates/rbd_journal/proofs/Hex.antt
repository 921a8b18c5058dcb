-- A byte is told by two digits.
use Rattle.std.proofs.Common.{◌≡◌, ℕ, ◌-◌, ◌^◌, ◌<◌, ◌/◌, ◌%◌, false, [], ◌∷◌, Some, sym, ap, subst, ◌∙◌, option_map}
use Rattle.std.specs.Fmt.{digit_glyph, digits, digits_output, format_spec, padded_integral, styled_digits_output}
use Rattle.std.proofs.lemmas.Fmt.{hex_byte}

pub told_hex : (d : _) (s : _) (n : ℕ) → digits_output d ≡ Some (digits 16 false n) → s ≡ format_spec 32 0 4 2 (2 ^ 64 - 1) → n < 256
    → styled_digits_output d s ≡ Some (digit_glyph false (n / 16) ∷ digit_glyph false (n % 16) ∷ [])
told_hex d s n told laid small =
    subst (λ t. styled_digits_output d t ≡ Some (digit_glyph false (n / 16) ∷ digit_glyph false (n % 16) ∷ [])) (sym laid)
    (ap (option_map (padded_integral (format_spec 32 0 4 2 (2 ^ 64 - 1)) false [])) told ∙ ap Some (hex_byte false n small))

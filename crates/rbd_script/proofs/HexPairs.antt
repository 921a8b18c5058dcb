-- Pairs of lower-case digits, and the bytes that the kit's decoder reads of them.
use Rattle.std.proofs.Common.{◌≡◌, ℕ, ◌+◌, ◌*◌, ◌%◌, true, List, [], ◌∷◌, length, Result, Ok, eqb, refl, ◌∙◌, arith}
use Rattle.std.specs.List.{list_all}
use Rattle.std.proofs.lemmas.Bool.{and_parts, eqb-true}
use Rattle.std.proofs.lemmas.Bool.Decides.{nat_tests}
use Rattle.hex.specs.Hex.{decode_of, decode_pairs, value_at, pair_value}
use Rattle.hex.proofs.HexLemmas.{decode_of-even}
use Rattle.rbd_script.specs.Hex.{are_pairs, bytes_of_pairs, hex_digit, is_hex_digit}

digit_read : (b i : ℕ) → is_hex_digit b ≡ true → value_at b i ≡ Ok (hex_digit b)
digit_read b i is = grind (arith, nat_tests)

pair_read : (high low i : ℕ) → is_hex_digit high ≡ true → is_hex_digit low ≡ true → pair_value high low i ≡ Ok (hex_digit high * 16 + hex_digit low)
pair_read high low i is_high is_low = rw (digit_read high i is_high, digit_read low (i + 1) is_low) refl

pairs_read : (i : ℕ) (token : List ℕ) → list_all is_hex_digit token ≡ true → length token % 2 ≡ 0 → decode_pairs i token ≡ Ok (bytes_of_pairs token)
unfolding decode_pairs
pairs_read i [] all even = refl
pairs_read i (high ∷ []) all even = absurd (omega arith)
pairs_read i (high ∷ low ∷ digits) all even =
    let first = and_parts (is_hex_digit high) _ all in
    let second = and_parts (is_hex_digit low) _ first.1 in
    let rest = pairs_read (i + 2) digits second.1 (omega arith) in
    rw (pair_read high low i first.0 second.0, rest) refl

pub even_of_pairs : (token : List ℕ) → are_pairs token ≡ true → (list_all is_hex_digit token ≡ true) × (length token % 2 ≡ 0)
even_of_pairs token are =
    let parts = and_parts (list_all is_hex_digit token) (eqb (length token % 2) 0) are in
    (parts.0, eqb-true (length token % 2) 0 parts.1)

pub pairs_decoded : (token : List ℕ) → are_pairs token ≡ true → decode_of token ≡ Ok (bytes_of_pairs token)
pairs_decoded token are =
    let parts = even_of_pairs token are in
    decode_of-even token parts.1 ∙ pairs_read 0 token parts.0 parts.1

pub same_value : {A E : Type 0} (r : Result A E) (x y : A) → r ≡ Ok x → r ≡ Ok y → x ≡ y
same_value r x y is_x is_y = cc

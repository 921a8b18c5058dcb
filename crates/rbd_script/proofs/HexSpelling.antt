-- Bytes in hexadecimal: what spells them is read as them, and what is read spells them.
use Rattle.std.proofs.Common.{◌≡◌, ℕ, ◌+◌, ◌*◌, ◌/◌, ◌%◌, ◌<◌, ◌≤◌, ◌&&◌, cond, suc, zero, true, List, [], ◌∷◌, length, Ok, refl, sym, ap, ◌∙◌, subst, arith}
use Rattle.std.specs.Prelude.{nat_le, nat_lt, slice_index}
use Rattle.std.specs.List.{list_all}
use Rattle.std.proofs.lemmas.Bool.{and_parts, le-leb, leb-true}
use Rattle.std.proofs.lemmas.Bool.Decides.{nat_tests}
use Rattle.hex.specs.Hex.{encode_lower, encode_with, lower_digits, decode_of, IsBytes}
use Rattle.hex.proofs.HexLemmas.{length-encode_with, decode_of-encode_lower, decode_of-ok}
use Rattle.rbd_script.specs.declared.fault.LineCause.TheVariants.{BadNumber}
use Rattle.rbd_script.specs.Hex.{are_pairs, byte_of_digits, bytes_of_digits, bytes_of_pairs, hex_digit, is_hex_digit, pair}
use Rattle.rbd_script.specs.Spelling.{IsHex}
use Rattle.rbd_script.proofs.HexPairs.{even_of_pairs, pairs_decoded, same_value}
use Rattle.rbd_script.proofs.TokenSpelling.{if_ok}

-- the sixteen digits
digit_told : (k : ℕ) → k < 16 → is_hex_digit (slice_index lower_digits k) ≡ true
digit_told zero small = refl
digit_told (suc zero) small = refl
digit_told (suc (suc zero)) small = refl
digit_told (suc (suc (suc zero))) small = refl
digit_told (suc (suc (suc (suc zero)))) small = refl
digit_told (suc (suc (suc (suc (suc zero))))) small = refl
digit_told (suc (suc (suc (suc (suc (suc zero)))))) small = refl
digit_told (suc (suc (suc (suc (suc (suc (suc zero))))))) small = refl
digit_told (suc (suc (suc (suc (suc (suc (suc (suc zero)))))))) small = refl
digit_told (suc (suc (suc (suc (suc (suc (suc (suc (suc zero))))))))) small = refl
digit_told (suc (suc (suc (suc (suc (suc (suc (suc (suc (suc zero)))))))))) small = refl
digit_told (suc (suc (suc (suc (suc (suc (suc (suc (suc (suc (suc zero))))))))))) small = refl
digit_told (suc (suc (suc (suc (suc (suc (suc (suc (suc (suc (suc (suc zero)))))))))))) small = refl
digit_told (suc (suc (suc (suc (suc (suc (suc (suc (suc (suc (suc (suc (suc zero))))))))))))) small = refl
digit_told (suc (suc (suc (suc (suc (suc (suc (suc (suc (suc (suc (suc (suc (suc zero)))))))))))))) small = refl
digit_told (suc (suc (suc (suc (suc (suc (suc (suc (suc (suc (suc (suc (suc (suc (suc zero))))))))))))))) small = refl
digit_told (suc (suc (suc (suc (suc (suc (suc (suc (suc (suc (suc (suc (suc (suc (suc (suc k)))))))))))))))) small = absurd (omega arith)

digit_value : (k : ℕ) → k < 16 → hex_digit (slice_index lower_digits k) ≡ k
digit_value zero small = refl
digit_value (suc zero) small = refl
digit_value (suc (suc zero)) small = refl
digit_value (suc (suc (suc zero))) small = refl
digit_value (suc (suc (suc (suc zero)))) small = refl
digit_value (suc (suc (suc (suc (suc zero))))) small = refl
digit_value (suc (suc (suc (suc (suc (suc zero)))))) small = refl
digit_value (suc (suc (suc (suc (suc (suc (suc zero))))))) small = refl
digit_value (suc (suc (suc (suc (suc (suc (suc (suc zero)))))))) small = refl
digit_value (suc (suc (suc (suc (suc (suc (suc (suc (suc zero))))))))) small = refl
digit_value (suc (suc (suc (suc (suc (suc (suc (suc (suc (suc zero)))))))))) small = refl
digit_value (suc (suc (suc (suc (suc (suc (suc (suc (suc (suc (suc zero))))))))))) small = refl
digit_value (suc (suc (suc (suc (suc (suc (suc (suc (suc (suc (suc (suc zero)))))))))))) small = refl
digit_value (suc (suc (suc (suc (suc (suc (suc (suc (suc (suc (suc (suc (suc zero))))))))))))) small = refl
digit_value (suc (suc (suc (suc (suc (suc (suc (suc (suc (suc (suc (suc (suc (suc zero)))))))))))))) small = refl
digit_value (suc (suc (suc (suc (suc (suc (suc (suc (suc (suc (suc (suc (suc (suc (suc zero))))))))))))))) small = refl
digit_value (suc (suc (suc (suc (suc (suc (suc (suc (suc (suc (suc (suc (suc (suc (suc (suc k)))))))))))))))) small = absurd (omega arith)

digit_at : (k : ℕ) → k < 16 → slice_index lower_digits k ≡ cond (nat_lt k 10) (48 + k) (87 + k)
digit_at zero small = refl
digit_at (suc zero) small = refl
digit_at (suc (suc zero)) small = refl
digit_at (suc (suc (suc zero))) small = refl
digit_at (suc (suc (suc (suc zero)))) small = refl
digit_at (suc (suc (suc (suc (suc zero))))) small = refl
digit_at (suc (suc (suc (suc (suc (suc zero)))))) small = refl
digit_at (suc (suc (suc (suc (suc (suc (suc zero))))))) small = refl
digit_at (suc (suc (suc (suc (suc (suc (suc (suc zero)))))))) small = refl
digit_at (suc (suc (suc (suc (suc (suc (suc (suc (suc zero))))))))) small = refl
digit_at (suc (suc (suc (suc (suc (suc (suc (suc (suc (suc zero)))))))))) small = refl
digit_at (suc (suc (suc (suc (suc (suc (suc (suc (suc (suc (suc zero))))))))))) small = refl
digit_at (suc (suc (suc (suc (suc (suc (suc (suc (suc (suc (suc (suc zero)))))))))))) small = refl
digit_at (suc (suc (suc (suc (suc (suc (suc (suc (suc (suc (suc (suc (suc zero))))))))))))) small = refl
digit_at (suc (suc (suc (suc (suc (suc (suc (suc (suc (suc (suc (suc (suc (suc zero)))))))))))))) small = refl
digit_at (suc (suc (suc (suc (suc (suc (suc (suc (suc (suc (suc (suc (suc (suc (suc zero))))))))))))))) small = refl
digit_at (suc (suc (suc (suc (suc (suc (suc (suc (suc (suc (suc (suc (suc (suc (suc (suc k)))))))))))))))) small = absurd (omega arith)

digit_small : (b : ℕ) → is_hex_digit b ≡ true → hex_digit b < 16
digit_small b is = grind (arith, nat_tests)

digit_sum : (b : ℕ) → is_hex_digit b ≡ true → cond (nat_lt (hex_digit b) 10) (48 + hex_digit b) (87 + hex_digit b) ≡ b
digit_sum b is = grind (arith, nat_tests)

digit_back : (b : ℕ) → is_hex_digit b ≡ true → slice_index lower_digits (hex_digit b) ≡ b
digit_back b is = digit_at (hex_digit b) (digit_small b is) ∙ digit_sum b is

-- what spells bytes is pairs
all_digits : (bytes : List ℕ) → IsBytes bytes → list_all is_hex_digit (encode_lower bytes) ≡ true
unfolding encode_with
all_digits [] each = refl
all_digits (b ∷ bytes) each =
    let small : b < 256 = each 0 in
    rw (digit_told (b / 16) (omega arith), digit_told (b % 16) (omega arith)) (all_digits bytes (λ i. each (suc i)))

even_length : (bytes : List ℕ) → length (encode_lower bytes) % 2 ≡ 0
even_length bytes = let long = length-encode_with lower_digits bytes in omega (arith, long)

pairs_told : (bytes : List ℕ) → IsBytes bytes → are_pairs (encode_lower bytes) ≡ true
pairs_told bytes each = rw (all_digits bytes each, even_length bytes) refl

pub hex_read : (bytes : List ℕ) → IsHex bytes → bytes_of_digits (encode_lower bytes) ≡ Ok bytes
unfolding bytes_of_digits
hex_read bytes is =
    let t = encode_lower bytes in
    let long : length t ≡ 2 * length bytes = length-encode_with lower_digits bytes in
    let pairs = pairs_told bytes is.each in
    let value : bytes_of_pairs t ≡ bytes = same_value (decode_of t) (bytes_of_pairs t) bytes (pairs_decoded t pairs) (decode_of-encode_lower bytes is.each) in
    rw (le-leb (length t) 131072 (omega (arith, long, is.long.few)), le-leb 2 (length t) (omega (arith, long, is.long.some)), pairs, value) refl

-- pairs spell their bytes
high_half : (h l : ℕ) → l < 16 → (h * 16 + l) / 16 ≡ h
high_half h l small = omega arith

low_half : (h l : ℕ) → l < 16 → (h * 16 + l) % 16 ≡ l
low_half h l small = omega arith

spelled_again : (t : List ℕ) → list_all is_hex_digit t ≡ true → length t % 2 ≡ 0 → encode_lower (bytes_of_pairs t) ≡ t
unfolding encode_with
spelled_again [] all even = refl
spelled_again (high ∷ []) all even = absurd (omega arith)
spelled_again (high ∷ low ∷ digits) all even =
    let first = and_parts (is_hex_digit high) _ all in
    let second = and_parts (is_hex_digit low) _ first.1 in
    let small = digit_small low second.0 in
    rw (high_half (hex_digit high) (hex_digit low) small, low_half (hex_digit high) (hex_digit low) small, digit_back high first.0, digit_back low second.0)
    (ap (λ x. high ∷ low ∷ x) (spelled_again digits second.1 (omega arith)))

pub hex_said : (t bytes : List ℕ) → bytes_of_digits t ≡ Ok bytes → (t ≡ encode_lower bytes) × IsHex bytes
unfolding bytes_of_digits
hex_said t bytes is =
    let told = if_ok (nat_le (length t) 131072 && nat_le 2 (length t) && are_pairs t) (bytes_of_pairs t) bytes BadNumber is in
    let outer = and_parts (nat_le (length t) 131072 && nat_le 2 (length t)) (are_pairs t) told.0 in
    let inner = and_parts (nat_le (length t) 131072) (nat_le 2 (length t)) outer.0 in
    let parts = even_of_pairs t outer.1 in
    let few : length t ≤ 131072 = leb-true (length t) 131072 inner.0 in
    let some : 2 ≤ length t = leb-true 2 (length t) inner.1 in
    let read = decode_of-ok t (bytes_of_pairs t) (pairs_decoded t outer.1) in
    let long : length t ≡ 2 * length (bytes_of_pairs t) = read.2 in (
      sym (spelled_again t parts.0 parts.1) ∙ ap (λ x. encode_lower x) told.1,
      subst IsHex told.1 (record { long = record { some = omega arith; few = omega arith }; each = read.3 }),
    )

-- one byte
pub byte_read : (byte : ℕ) → byte < 256 → byte_of_digits (encode_lower (byte ∷ [])) ≡ Ok byte
unfolding byte_of_digits encode_with
byte_read byte small =
    let whole : byte / 16 * 16 + byte % 16 ≡ byte = omega arith in
    rw (digit_told (byte / 16) (omega arith), digit_told (byte % 16) (omega arith), digit_value (byte / 16) (omega arith), digit_value (byte % 16) (omega arith), whole) refl

pub byte_said : (t : List ℕ) (byte : ℕ) → byte_of_digits t ≡ Ok byte → (t ≡ encode_lower (byte ∷ [])) × (byte < 256)
unfolding byte_of_digits encode_with
byte_said [] byte is = cc
byte_said (high ∷ []) byte is = cc
byte_said (high ∷ low ∷ []) byte is =
    let told = if_ok (is_hex_digit high && is_hex_digit low) (pair high low) byte BadNumber is in
    let parts = and_parts (is_hex_digit high) (is_hex_digit low) told.0 in
    let small = digit_small low parts.1 in
    let large = digit_small high parts.0 in
    let spelled : (slice_index lower_digits (pair high low / 16) ∷ slice_index lower_digits (pair high low % 16) ∷ []) ≡ high ∷ low ∷ [] =
    rw (high_half (hex_digit high) (hex_digit low) small, low_half (hex_digit high) (hex_digit low) small, digit_back high parts.0, digit_back low parts.1) refl in
    let below : pair high low < 256 = omega arith in (
      sym spelled ∙ ap (λ b. slice_index lower_digits (b / 16) ∷ slice_index lower_digits (b % 16) ∷ []) told.1,
      subst (λ b. b < 256) told.1 below,
    )
byte_said (high ∷ low ∷ b ∷ bytes) byte is = cc

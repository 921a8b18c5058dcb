-- Steps of the loop that reads pairs of digits.
use Rattle.std.proofs.Common.{◌≡◌, ℕ, ◌+◌, ◌*◌, ◌<◌, ◌≤◌, ◌&&◌, cond, Bool, true, false, List, [], ◌∷◌, ◌++◌, length, take, drop, slice_index, slice_set, Some, None, refl, sym, ap, ◌∙◌, arith}
use Rattle.std.specs.List.{list_all}
use Rattle.std.proofs.lemmas.List.{append_assoc, append-nil, drop_all, drop_more, take_all, take_more_set}
use Rattle.rbd_script.specs.Hex.{bytes_of_pairs, is_hex_digit, pair, pair_of}

-- The pairs before a place are read: whether all are, and of which bytes, is told by the rest.
pub record IsReadTo (token bytes : List ℕ) (i : ℕ) : Type 0 where
  pub digits : list_all is_hex_digit token ≡ list_all is_hex_digit (drop (2 * i) token)
  pub value : bytes_of_pairs token ≡ take i bytes ++ bytes_of_pairs (drop (2 * i) token)

rest_is : (token : List ℕ) (i : ℕ) → 2 * i + 1 < length token → drop (2 * i) token ≡ slice_index token (2 * i) ∷ slice_index token (2 * i + 1) ∷ drop (2 * (i + 1)) token
rest_is token i fits =
    let first = drop_more token (2 * i) 0 (omega arith) in
    let second = drop_more token (2 * i + 1) 0 (omega arith) in
    let two : 2 * i + 1 + 1 ≡ 2 * (i + 1) = omega arith in
    rw (first, second, two) refl

both : (high low : Bool) (v w : ℕ) → cond (high && low) (Some w) None ≡ Some v → (high ≡ true) × (low ≡ true) × (w ≡ v)
both true true v w is = (refl, refl, cc)
both true false v w is = cc
both false low v w is = cc

not_both : (high low rest : Bool) (w : ℕ) → cond (high && low) (Some w) None ≡ None → high && (low && rest) ≡ false
not_both true true rest w is = cc
not_both true false rest w is = refl
not_both false low rest w is = refl

pub pair_is_read : (token bytes : List ℕ) (i byte : ℕ) → 2 * i + 1 < length token → i < length bytes
    → pair_of (slice_index token (2 * i)) (slice_index token (2 * i + 1)) ≡ Some byte → IsReadTo token bytes i → IsReadTo token (slice_set bytes i byte) (i + 1)
pair_is_read token bytes i byte fits room is before =
    let high = slice_index token (2 * i) in
    let low = slice_index token (2 * i + 1) in
    let digits = drop (2 * (i + 1)) token in
    let rest = rest_is token i fits in
    let are = both (is_hex_digit high) (is_hex_digit low) byte (pair high low) is in record {
      digits = before.digits ∙ ap (list_all is_hex_digit) rest ∙ rw (are.0, are.1) refl;
      value =
          before.value ∙ ap (λ x. take i bytes ++ bytes_of_pairs x) rest ∙ ap (λ x. take i bytes ++ x ∷ bytes_of_pairs digits) are.2
          ∙ sym (append_assoc (take i bytes) (byte ∷ []) (bytes_of_pairs digits)) ∙ ap (λ x. x ++ bytes_of_pairs digits) (sym (take_more_set bytes i byte room));
    }

pub pair_is_none : (token bytes : List ℕ) (i : ℕ) → 2 * i + 1 < length token
    → pair_of (slice_index token (2 * i)) (slice_index token (2 * i + 1)) ≡ None → IsReadTo token bytes i → list_all is_hex_digit token ≡ false
pair_is_none token bytes i fits is before =
    let high = slice_index token (2 * i) in
    let low = slice_index token (2 * i + 1) in
    before.digits ∙ ap (list_all is_hex_digit) (rest_is token i fits)
    ∙ not_both (is_hex_digit high) (is_hex_digit low) (list_all is_hex_digit (drop (2 * (i + 1)) token)) (pair high low) is

pub all_digits_read : (token bytes : List ℕ) (i : ℕ) → length token ≤ 2 * i → IsReadTo token bytes i → list_all is_hex_digit token ≡ true
all_digits_read token bytes i done read = read.digits ∙ ap (list_all is_hex_digit) (drop_all (2 * i) token done)

pub all_bytes_read : (token bytes : List ℕ) (i : ℕ) → length token ≤ 2 * i → length bytes ≤ i → IsReadTo token bytes i → bytes ≡ bytes_of_pairs token
all_bytes_read token bytes i done full read =
    sym (read.value ∙ ap (λ x. take i bytes ++ bytes_of_pairs x) (drop_all (2 * i) token done) ∙ append-nil (take i bytes) ∙ take_all i bytes full)

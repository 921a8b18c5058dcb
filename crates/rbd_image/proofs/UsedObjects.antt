-- Which objects are in use by the bits of a map.
use Rattle.std.proofs.Common.{◌≡◌, ◌≢◌, ◌↔◌, ◌⊎◌, inl, inr, ℕ, zero, suc, ◌+◌, ◌*◌, ◌/◌, ◌%◌, ◌≤◌, ◌<◌, Bool, true, false, cond, List, [], ◌∷◌, length, ap, ◌∙◌, subst, arith}
use Rattle.std.specs.Prelude.{Contains, not, ◌==◌, slice_index}
use Rattle.std.specs.List.{filter, range_with_len}
use Rattle.std.specs.List.Sorted.{IsStrictlyIncreasing}
use Rattle.std.proofs.Math.Nat.{zero-div}
use Rattle.std.proofs.lemmas.Bool.{eqb-false, ne_eqb, not-true}
use Rattle.std.proofs.lemmas.List.{get_or_past}
use Rattle.std.proofs.lemmas.List.Elements.{filter_passes}
use Rattle.std.proofs.lemmas.List.FromFn.{get_or-range_with_len, length-range_with_len}
use Rattle.std.proofs.lemmas.List.Kept.{IsStrictlyIncreasing-filter}
use Rattle.rbd_kinds.specs.States.{state_at, weight}
use Rattle.rbd_meaning.specs.Removals.{used_objects}
use Rattle.rbd_image.specs.Remnants.{is_in_use}

-- ---- lists

in_filter : (p : ℕ → Bool) (xs : List ℕ) (x : ℕ) → p x ≡ true → Contains xs x → Contains (filter p xs) x
in_filter p [] x passes (k, less, is) = absurd (let none : k < 0 = less in omega arith)
in_filter p (y ∷ xs) x passes (zero, less, is) = go (p y) (ap p is ∙ passes)
  where
    go : (b : Bool) → b ≡ true → Contains (cond b (y ∷ filter p xs) (filter p xs)) x
    go true there = (zero, omega arith, is)
    go false there = cc
in_filter p (y ∷ xs) x passes (suc k, less, is) = go (p y) (in_filter p xs x passes (k, omega arith, is))
  where
    go : (b : Bool) → Contains (filter p xs) x → Contains (cond b (y ∷ filter p xs) (filter p xs)) x
    go true (j, within, at) = (suc j, omega arith, at)
    go false within = within

in_range : (n x : ℕ) → x < n → Contains (range_with_len 0 n) x
in_range n x less =
    let len = length-range_with_len 0 n in
    let at = get_or-range_with_len 0 n x x less in
    (x, omega (arith, len), at ∙ (let same : 0 + x ≡ x = omega arith in same))

rising : (a n : ℕ) → IsStrictlyIncreasing (range_with_len a n)
rising a n k less =
    let len = length-range_with_len a n in
    let one = get_or-range_with_len a n k 0 (omega (arith, len)) in
    let two = get_or-range_with_len a n (k + 1) 0 (omega (arith, len)) in
    omega (arith, one, two)

-- ---- states

-- past the end the state is 0
past_the_end : (bits : List ℕ) (object : ℕ) → 4 * length bits ≤ object → state_at bits object ≡ 0
past_the_end bits object past =
    let none : slice_index bits (object / 4) ≡ 0 = get_or_past bits (object / 4) 0 (omega arith) in
    ap (λ byte. byte / weight (object % 4) % 4) none ∙ ap (λ n. n % 4) (zero-div (weight (object % 4)))

tested : (n : ℕ) → not (n == 0) ≡ true → n ≢ 0
tested n test = eqb-false n 0 (not-true (n == 0) test)

some : (n : ℕ) → n ≢ 0 → not (n == 0) ≡ true
some n other = ap not (ne_eqb n 0 other)

in_use_below : (bits : List ℕ) (object : ℕ) → state_at bits object ≢ 0 → object < 4 * length bits
in_use_below bits object other = go (past_or_not (4 * length bits) object)
  where
    past_or_not : (n x : ℕ) → (n ≤ x) ⊎ (x < n)
    past_or_not n x = grind arith

    go : (4 * length bits ≤ object) ⊎ (object < 4 * length bits) → object < 4 * length bits
    go (inl past) = absurd (other (past_the_end bits object past))
    go (inr below) = below

pub are_in_use : (bits : List ℕ) (object : ℕ) → Contains (used_objects bits) object ↔ (state_at bits object ≢ 0)
are_in_use bits object = (
  (λ listed. tested (state_at bits object)
      (subst (λ o. is_in_use bits o ≡ true) listed.2 (filter_passes (is_in_use bits) (range_with_len 0 (4 * length bits)) listed.0 object listed.1))),
  (λ other. in_filter (is_in_use bits) (range_with_len 0 (4 * length bits)) object (some (state_at bits object) other)
      (in_range (4 * length bits) object (in_use_below bits object other))),
)

pub ascend : (bits : List ℕ) → IsStrictlyIncreasing (used_objects bits)
ascend bits = IsStrictlyIncreasing-filter (is_in_use bits) (range_with_len 0 (4 * length bits)) (rising 0 (4 * length bits))

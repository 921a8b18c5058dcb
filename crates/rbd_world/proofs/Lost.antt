-- The lines that a stop loses: those in the client's slots, each once, in their order.
use Rattle.std.proofs.Common.{◌≡◌, ◌≢◌, ◌⊎◌, inl, inr, ℕ, zero, suc, ◌+◌, ◌<◌, ◌≤◌, ◌==◌, ◌||◌, nat_lt, cond, Bool, true, false, List, [], ◌∷◌, ◌++◌, slice_index, Option, Some, None, refl, sym, ap, ◌∙◌, subst, arith}
use Rattle.std.specs.List.{flat_map, range_with_len}
use Rattle.std.specs.List.Sorted.{IsStrictlyIncreasing}
use Rattle.std.proofs.lemmas.Bool.{true≢false, eq-eqb, eqb-true, ltb-true, ltb-false, or_parts, or_right}
use Rattle.rbd_kinds.proofs.Plain.{or_swapped}
use Rattle.rbd_world.specs.Run.{is_line_among}
use Rattle.rbd_world.specs.Step.{ascending, insert_line, line_or_none}
use Rattle.rbd_world.proofs.Changed.{same_or_other}

-- ---- the lines in some slots

abbrev pub lines_in : (f : ℕ → Option ℕ) → List ℕ → List ℕ
lines_in f slots = flat_map (λ slot. line_or_none (f slot)) slots

-- the line is in a slot from this one on
pub record IsFrom (f : ℕ → Option ℕ) (from line : ℕ) : Type 0 where
  pub slot : ℕ
  pub above : from ≤ slot
  pub is : f slot ≡ Some line

pub found_from : (f : ℕ → Option ℕ) (from count line : ℕ) → is_line_among line (lines_in f (range_with_len from count)) ≡ true → IsFrom f from line
found_from f from zero line is = absurd (true≢false (sym is))
found_from f from (suc count) line is = by (f from) refl (λ rest. later (found_from f (from + 1) count line rest)) is
  where
    later : IsFrom f (from + 1) line → IsFrom f from line
    later at = record { slot = at.slot; above = let above : from + 1 ≤ at.slot = at.above in omega (arith, above); is = at.is }

    by : (o : Option ℕ) → f from ≡ o → (is_line_among line (lines_in f (range_with_len (from + 1) count)) ≡ true → IsFrom f from line)
        → is_line_among line (line_or_none o ++ lines_in f (range_with_len (from + 1) count)) ≡ true → IsFrom f from line
    by None at rest is = rest is
    by (Some other) at rest is = go (other == line) refl is
      where
        go : (b : Bool) → (other == line) ≡ b → (b || is_line_among line (lines_in f (range_with_len (from + 1) count))) ≡ true → IsFrom f from line
        go true same is = record { slot = from; above = omega arith; is = at ∙ ap Some (eqb-true other line same) }
        go false differ is = rest is

pub is_found : (f : ℕ → Option ℕ) (from count slot line : ℕ) → from ≤ slot → slot < from + count → f slot ≡ Some line → is_line_among line (lines_in f (range_with_len from count)) ≡ true
is_found f from zero slot line above below is = absurd (omega (arith, above, below))
is_found f from (suc count) slot line above below is =
    by (same_or_other slot from) (λ more. is_found f (from + 1) count slot line more (omega (arith, below)) is)
  where
    behind : (o : Option ℕ) → is_line_among line (lines_in f (range_with_len (from + 1) count)) ≡ true → is_line_among line (line_or_none o ++ lines_in f (range_with_len (from + 1) count)) ≡ true
    behind None more = more
    behind (Some other) more = or_right (other == line) (is_line_among line (lines_in f (range_with_len (from + 1) count))) more

    by : (slot ≡ from) ⊎ (slot ≢ from) → (from + 1 ≤ slot → is_line_among line (lines_in f (range_with_len (from + 1) count)) ≡ true)
        → is_line_among line (line_or_none (f from) ++ lines_in f (range_with_len (from + 1) count)) ≡ true
    by (inl same) more =
        ap (λ o. is_line_among line (line_or_none o ++ lines_in f (range_with_len (from + 1) count))) (ap f (sym same) ∙ is)
        ∙ ap (λ b. b || is_line_among line (lines_in f (range_with_len (from + 1) count))) (eq-eqb line line refl)
    by (inr differ) more = behind (f from) (more (omega (arith, above, differ)))

-- ---- each is there once

abbrev pub AreDistinct : List ℕ → Type 0
AreDistinct [] = Unit {0}
AreDistinct (x ∷ xs) = (is_line_among x xs ≡ false) × AreDistinct xs

pub are_distinct : (f : ℕ → Option ℕ) → ((x y line : ℕ) → f x ≡ Some line → f y ≡ Some line → x ≡ y) → (from count : ℕ) → AreDistinct (lines_in f (range_with_len from count))
are_distinct f apart from zero = tt
are_distinct f apart from (suc count) = by (f from) refl (are_distinct f apart (from + 1) count)
  where
    by : (o : Option ℕ) → f from ≡ o → AreDistinct (lines_in f (range_with_len (from + 1) count)) → AreDistinct (line_or_none o ++ lines_in f (range_with_len (from + 1) count))
    by None at rest = rest
    by (Some line) at rest = (go (is_line_among line (lines_in f (range_with_len (from + 1) count))) refl, rest)
      where
        go : (b : Bool) → is_line_among line (lines_in f (range_with_len (from + 1) count)) ≡ b → b ≡ false
        go false is = refl
        go true is =
            let later = found_from f (from + 1) count line is in
            let same : from ≡ later.slot = apart from later.slot line at later.is in
            let above : from + 1 ≤ later.slot = later.above in
            absurd (omega (arith, same, above))

-- ---- in their order

among_inserted : (a line : ℕ) (xs : List ℕ) → is_line_among line (insert_line a xs) ≡ ((a == line) || is_line_among line xs)
among_inserted a line [] = refl
among_inserted a line (b ∷ xs) = by (nat_lt b a) (among_inserted a line xs)
  where
    by : (c : Bool) → is_line_among line (insert_line a xs) ≡ ((a == line) || is_line_among line xs)
        → is_line_among line (cond c (b ∷ insert_line a xs) (a ∷ b ∷ xs)) ≡ ((a == line) || ((b == line) || is_line_among line xs))
    by true rest = ap (λ c. (b == line) || c) rest ∙ or_swapped (b == line) (a == line) (is_line_among line xs)
    by false rest = refl

pub among_ascending : (line : ℕ) (xs : List ℕ) → is_line_among line (ascending xs) ≡ is_line_among line xs
among_ascending line [] = refl
among_ascending line (x ∷ xs) = among_inserted x line (ascending xs) ∙ ap (λ b. (x == line) || b) (among_ascending line xs)

-- each is below all that come later
abbrev AreAscending : List ℕ → Type 0
AreAscending [] = Unit {0}
AreAscending (x ∷ xs) = ((y : ℕ) → is_line_among y xs ≡ true → x < y) × AreAscending xs

ascends_inserted : (a : ℕ) (xs : List ℕ) → is_line_among a xs ≡ false → AreAscending xs → AreAscending (insert_line a xs)
ascends_inserted a [] new up = ((λ y is. absurd (true≢false (sym is))), tt)
ascends_inserted a (b ∷ xs) new (below, up) = by (nat_lt b a) refl (ascends_inserted a xs (or_parts (b == a) (is_line_among a xs) new).1 up)
  where
    by : (c : Bool) → nat_lt b a ≡ c → AreAscending (insert_line a xs) → AreAscending (cond c (b ∷ insert_line a xs) (a ∷ b ∷ xs))
    by true less rest = ((λ y is. go y (a == y) refl (sym (among_inserted a y xs) ∙ is)), rest)
      where
        go : (y : ℕ) (d : Bool) → (a == y) ≡ d → (d || is_line_among y xs) ≡ true → b < y
        go y true same is = subst (λ n. b < n) (eqb-true a y same) (ltb-true b a less)
        go y false differ is = below y is
    by false more rest = ((λ y is. go y (b == y) refl is), (below, up))
      where
        first : a < b
        first = let least = ltb-false b a more in above (same_or_other b a) least
          where
            above : (b ≡ a) ⊎ (b ≢ a) → a ≤ b → a < b
            above (inl same) least = absurd (true≢false (sym (eq-eqb b a same) ∙ (or_parts (b == a) (is_line_among a xs) new).0))
            above (inr differ) least = omega (arith, least, differ)

        go : (y : ℕ) (d : Bool) → (b == y) ≡ d → (d || is_line_among y xs) ≡ true → a < y
        go y true same is = subst (λ n. a < n) (eqb-true b y same) first
        go y false differ is = let later = below y is in omega (arith, first, later)

increasing : (xs : List ℕ) → AreAscending xs → IsStrictlyIncreasing xs
increasing [] up k within = absurd (omega (arith, within))
increasing (x ∷ []) up k within = absurd (omega (arith, within))
increasing (x ∷ y ∷ xs) up zero within = up.0 y (ap (λ b. b || is_line_among y xs) (eq-eqb y y refl))
increasing (x ∷ y ∷ xs) up (suc k) within =
    let same : suc (k + 1) ≡ suc k + 1 = omega arith in
    subst (λ n. slice_index (y ∷ xs) k < slice_index (x ∷ y ∷ xs) n) same (increasing (y ∷ xs) up.1 k (omega (arith, within)))

ascends : (xs : List ℕ) → AreDistinct xs → AreAscending (ascending xs)
ascends [] apart = tt
ascends (x ∷ xs) apart = ascends_inserted x (ascending xs) (among_ascending x xs ∙ apart.0) (ascends xs apart.1)

pub ascending_increases : (xs : List ℕ) → AreDistinct xs → IsStrictlyIncreasing (ascending xs)
ascending_increases xs apart = increasing (ascending xs) (ascends xs apart)

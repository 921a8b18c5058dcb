-- Counting objects that are in use, in one pass over the bytes of a map.
use Rattle.std.proofs.Common.{◌≡◌, ◌⊎◌, inl, inr, ℕ, zero, suc, ◌+◌, ◌-◌, ◌*◌, ◌/◌, ◌%◌, ◌<◌, ◌≤◌, Bool, true, false, cond, get_or, List, [], ◌∷◌, ◌++◌, length, refl, sym, ap, ◌∙◌, arith, subst}
use Rattle.std.specs.Prelude.{◌==◌, ◌&&◌, not, nat_lt}
use Rattle.std.specs.List.{filter, range_with_len}
use Rattle.std.proofs.lemmas.Bool.{cases_lt, le-ltb, lt-ltb}
use Rattle.rbd_kinds.specs.States.{state_at, weight}
use Rattle.rbd_kinds.proofs.Plain.{range_append}
use Rattle.rbd_meaning.specs.Listings.{used_among}
use Rattle.rbd_image.specs.Used.{one_used}

-- ---- objects, one after another

module _ (count : ℕ) (bits : List ℕ) where
  abbrev used_in : List ℕ → ℕ
  used_in objects = length (filter (λ object. nat_lt object count) (filter (λ object. not (state_at bits object == 0)) objects))

  -- those among the objects before one
  abbrev pub used_before : (n : ℕ) → ℕ
  used_before n = used_in (range_with_len 0 n)

  one_more : (object : ℕ) (objects : List ℕ) → used_in (object ∷ objects) ≡ one_used count bits object + used_in objects
  one_more object objects = go (not (state_at bits object == 0)) (nat_lt object count) refl
    where
      others : List ℕ
      others = filter (λ o. not (state_at bits o == 0)) objects

      go : (used first : Bool) → nat_lt object count ≡ first
          → length (filter (λ o. nat_lt o count) (cond used (object ∷ others) others)) ≡ cond (first && used) 1 0 + length (filter (λ o. nat_lt o count) others)
      go true true is = ap (λ b. length (cond b (object ∷ filter (λ o. nat_lt o count) others) (filter (λ o. nat_lt o count) others))) is ∙ omega arith
      go true false is = ap (λ b. length (cond b (object ∷ filter (λ o. nat_lt o count) others) (filter (λ o. nat_lt o count) others))) is ∙ omega arith
      go false true is = omega arith
      go false false is = omega arith

  two_parts : (one two : List ℕ) → used_in (one ++ two) ≡ used_in one + used_in two
  two_parts [] two = omega arith
  two_parts (object ∷ one) two =
      let later = two_parts one two in
      one_more object (one ++ two) ∙ ap (λ n. one_used count bits object + n) later
      ∙ (let first = one_more object one in omega (arith, first))

  four : (a b c d : ℕ) → used_in (a ∷ b ∷ c ∷ d ∷ []) ≡ one_used count bits a + one_used count bits b + one_used count bits c + one_used count bits d
  four a b c d =
      let first = one_more a (b ∷ c ∷ d ∷ []) in
      let second = one_more b (c ∷ d ∷ []) in
      let third = one_more c (d ∷ []) in
      let fourth = one_more d [] in
      omega (arith, first, second, third, fourth)

  few : (used : Bool) → cond used 1 0 ≤ 1
  few true = omega arith
  few false = omega arith

  next : (n : ℕ) → used_before (n + 1) ≡ used_before n + one_used count bits n
  next n =
      let e : 0 + n ≡ n = omega arith in
      let one = one_more n [] in
      ap used_in (range_append 0 n 1) ∙ ap (λ last. used_in (range_with_len 0 n ++ last ∷ [])) e ∙ two_parts (range_with_len 0 n) (n ∷ []) ∙ omega (arith, one)

  next_at : (n later : ℕ) → n + 1 ≡ later → used_before later ≡ used_before n + one_used count bits n
  next_at n later e = ap used_before (sym e) ∙ next n

  none_past : (n : ℕ) → count ≤ n → one_used count bits n ≡ 0
  none_past n past = ap (λ b. cond (b && not (state_at bits n == 0)) 1 0) (le-ltb n count past)

  -- they are no more than the objects, nor than those that count
  pub at_most : (n : ℕ) → (used_before n ≤ n) × (used_before n ≤ count)
  at_most zero = (omega arith, omega arith)
  at_most (suc n) = subst (λ m. (used_before m ≤ m) × (used_before m ≤ count)) (let e : n + 1 ≡ suc n = omega arith in e) (go (at_most n) (next n) (few (nat_lt n count && not (state_at bits n == 0))) (cases_lt n count))
    where
      go : (used_before n ≤ n) × (used_before n ≤ count) → used_before (n + 1) ≡ used_before n + one_used count bits n → one_used count bits n ≤ 1
          → (n < count) ⊎ (count ≤ n) → (used_before (n + 1) ≤ n + 1) × (used_before (n + 1) ≤ count)
      go (within, some) is one (inl less) = (omega (arith, within, is, one), omega (arith, within, is, one, less))
      go (within, some) is one (inr past) = let none = none_past n past in (omega (arith, within, is, one), omega (arith, some, is, none))

  -- past those that count there is none
  no_more : (n more : ℕ) → count ≤ n → used_before (n + more) ≡ used_before n
  no_more n zero past = ap used_before (let e : n + 0 ≡ n = omega arith in e)
  no_more n (suc more) past =
      let e : n + suc more ≡ (n + more) + 1 = omega arith in
      let none = none_past (n + more) (omega (arith, past)) in
      let same = no_more n more past in
      let is = next (n + more) in
      ap used_before e ∙ omega (arith, none, same, is)

  -- in so many bytes are all that count
  pub all_used : (bytes : ℕ) → bytes ≤ length bits → (bytes < length bits → count ≤ 4 * bytes) → used_before (4 * bytes) ≡ used_among count bits
  all_used bytes there enough = go (cases_lt bytes (length bits))
    where
      go : (bytes < length bits) ⊎ (length bits ≤ bytes) → used_before (4 * bytes) ≡ used_among count bits
      go (inl less) =
          let e : 4 * length bits ≡ 4 * bytes + 4 * (length bits - bytes) = omega (arith, less) in
          sym (ap used_before e ∙ no_more (4 * bytes) (4 * (length bits - bytes)) (enough less))
      go (inr all) = ap (λ n. used_before (4 * n)) (let e : bytes ≡ length bits = omega (arith, there, all) in e)

  next_four : (n : ℕ) → used_before (4 * n + 4) ≡ used_before (4 * n)
      + (one_used count bits (4 * n) + one_used count bits (4 * n + 1) + one_used count bits (4 * n + 2) + one_used count bits (4 * n + 3))
  next_four n =
      let a = next_at (4 * n) (4 * n + 1) (omega arith) in
      let b = next_at (4 * n + 1) (4 * n + 2) (omega arith) in
      let c = next_at (4 * n + 2) (4 * n + 3) (omega arith) in
      let d = next_at (4 * n + 3) (4 * n + 4) (omega arith) in
      omega (arith, a, b, c, d)

-- ---- a byte

module _ (count : ℕ) (bits : List ℕ) (n : ℕ) (first : 4 * n < count) where
  abbrev byte : ℕ
  byte = get_or bits n 0

  earlier : (place : ℕ) → nat_lt (4 * n + place) count ≡ nat_lt place (count - 4 * n)
  earlier place = go (cases_lt (4 * n + place) count)
    where
      go : (4 * n + place < count) ⊎ (count ≤ 4 * n + place) → nat_lt (4 * n + place) count ≡ nat_lt place (count - 4 * n)
      go (inl less) = lt-ltb (4 * n + place) count less ∙ sym (lt-ltb place (count - 4 * n) (omega (arith, less)))
      go (inr past) = le-ltb (4 * n + place) count past ∙ sym (le-ltb place (count - 4 * n) (omega (arith, past)))

  same_state : (place : ℕ) → place < 4 → state_at bits (4 * n + place) ≡ state_at (byte ∷ []) place
  same_state place less =
      let at : (4 * n + place) / 4 ≡ n = omega (arith, less) in
      let in_byte : (4 * n + place) % 4 ≡ place = omega (arith, less) in
      let zeroth : place / 4 ≡ 0 = omega (arith, less) in
      let itself : place % 4 ≡ place = omega (arith, less) in
      ap (λ k. get_or bits k 0 / weight ((4 * n + place) % 4) % 4) at ∙ ap (λ k. byte / weight k % 4) (in_byte ∙ sym itself)
      ∙ ap (λ k. get_or (byte ∷ []) k 0 / weight (place % 4) % 4) (sym zeroth)

  same_one : (place : ℕ) → place < 4 → one_used count bits (4 * n + place) ≡ one_used (count - 4 * n) (byte ∷ []) place
  same_one place less =
      ap (λ b. cond (b && not (state_at bits (4 * n + place) == 0)) 1 0) (earlier place)
      ∙ ap (λ s. cond (nat_lt place (count - 4 * n) && not (s == 0)) 1 0) (same_state place less)

  -- those of one byte more
  pub byte_more : used_before count bits (4 * (n + 1)) ≡ used_before count bits (4 * n) + used_among (count - 4 * n) (byte ∷ [])
  byte_more =
      let e : 4 * (n + 1) ≡ 4 * n + 4 = omega arith in
      let zeroth : 4 * n + 0 ≡ 4 * n = omega arith in
      let all = next_four count bits n in
      let a = ap (one_used count bits) (sym zeroth) ∙ same_one 0 (omega arith) in
      let b = same_one 1 (omega arith) in
      let c = same_one 2 (omega arith) in
      let d = same_one 3 (omega arith) in
      let here = four (count - 4 * n) (byte ∷ []) 0 1 2 3 in
      ap (used_before count bits) e ∙ omega (arith, all, a, b, c, d, here)

-- what a byte adds up to
pub of_byte : (count byte : ℕ) → used_among count (byte ∷ []) ≡ one_used count (byte ∷ []) 0 + one_used count (byte ∷ []) 1 + one_used count (byte ∷ []) 2 + one_used count (byte ∷ []) 3
of_byte count byte = four count (byte ∷ []) 0 1 2 3

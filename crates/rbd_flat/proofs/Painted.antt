-- Bytes painted at places, seen at one place.
use Rattle.std.proofs.Common.{◌≡◌, ◌≢◌, ℕ, zero, suc, ◌+◌, ◌-◌, ◌*◌, min, ◌<◌, ◌≤◌, Bool, true, false, cond, eqb, ltb, leb, ◌&&◌, ◌||◌, List, [], ◌∷◌, ◌++◌, length, get_or, set, drop, refl, sym, ◌∙◌, ap, subst, arith, inl, inr, ◌⊎◌, length-set, add-zero}
use Rattle.std.specs.List.{flat_map, range_with_len}
use Rattle.std.proofs.lemmas.List.{append-nil, length-append, drop-drop, get_or-drop, set_past, get_or-set_same, get_or-set_other, at_drop_more}
use Rattle.std.proofs.lemmas.Bool.{cases_lt, cases_eq, ltb-true, ltb-false, leb-true, leb-false, eq-eqb, ne_eqb}
use Rattle.std.proofs.lemmas.Grind.{flat_map-append}
use Rattle.std.proofs.lemmas.List.FromFn.{length-range_with_len}
use Rattle.rbd_kinds.specs.declared.layout.Extent.{Extent}
use Rattle.rbd_kinds.proofs.Plain.{range_append}
use Rattle.rbd_flat.specs.Flat.{painted, places_of, places_of_one}
use Rattle.rbd_flat.specs.Series.{extents_from, extents_in}
use Rattle.rbd_flat.specs.declared.extents.Series.{Series}
use Rattle.rbd_flat.specs.Laws.{covers, covered, painted_at, painted_byte}

-- painting keeps the length
pub length_painted : (places new old : List ℕ) → length (painted places new old) ≡ length old
length_painted [] new old = refl
length_painted (p ∷ places) new old = length_painted places (drop 1 new) (set old p (get_or new 0 0)) ∙ length-set old p (get_or new 0 0)

-- first the front, and then the rest with the bytes that are left
pub painted_append : (ps qs new old : List ℕ) → painted (ps ++ qs) new old ≡ painted qs (drop (length ps) new) (painted ps new old)
painted_append [] qs new old = refl
painted_append (p ∷ ps) qs new old =
    let now = set old p (get_or new 0 0) in
    let rest : drop (length ps) (drop 1 new) ≡ drop (length (p ∷ ps)) new = drop-drop (length ps) 1 new ∙ ap (λ n. drop n new) (let e : 1 + length ps ≡ length (p ∷ ps) = omega arith in e) in
    painted_append ps qs (drop 1 new) now ∙ ap (λ n. painted qs n (painted ps (drop 1 new) now)) rest

-- two neighbours painted one after the other are the whole
pub painted_neighbours : (at m n : ℕ) (new old : List ℕ) → painted (range_with_len at (m + n)) new old ≡ painted (range_with_len (at + m) n) (drop m new) (painted (range_with_len at m) new old)
painted_neighbours at m n new old =
    ap (λ ps. painted ps new old) (range_append at m n) ∙ painted_append (range_with_len at m) (range_with_len (at + m) n) new old
    ∙ ap (λ k. painted (range_with_len (at + m) n) (drop k new) (painted (range_with_len at m) new old)) (length-range_with_len at m)

-- places past the end are passed over
pub painted_past : (at n : ℕ) (new old : List ℕ) → length old ≤ at → painted (range_with_len at n) new old ≡ old
painted_past at zero new old h = refl
painted_past at (suc n) new old h =
    let e = set_past old at (get_or new 0 0) h in
    ap (painted (range_with_len (at + 1) n) (drop 1 new)) e ∙ painted_past (at + 1) n (drop 1 new) old (omega arith)

-- a write at one place, seen at another
get_or_set : (old : List ℕ) (p v x : ℕ) → x < length old → get_or (set old p v) x 0 ≡ cond (eqb x p) v (get_or old x 0)
get_or_set old p v x h = elim (cases_eq x p) [
  | inl e ↦
      let h' : p < length old = subst (λ y. y < length old) e h in
      ap (λ y. get_or (set old p v) y 0) e ∙ get_or-set_same old p v 0 h' ∙ sym (ap (λ b. cond b v (get_or old x 0)) (eq-eqb x p e))
  | inr ne ↦ get_or-set_other old p x v 0 ne ∙ sym (ap (λ b. cond b v (get_or old x 0)) (ne_eqb x p ne))
]

-- what is painted at listed places, seen at one place
pub painted_place : (places new old : List ℕ) (x : ℕ) → x < length old → get_or (painted places new old) x 0 ≡ painted_byte places new (get_or old x 0) x
painted_place [] new old x h = refl
painted_place (p ∷ places) new old x h =
    painted_place places (drop 1 new) (set old p (get_or new 0 0)) x (rw length-set h)
    ∙ ap (λ o. painted_byte places (drop 1 new) o x) (get_or_set old p (get_or new 0 0) x h)

-- one extent, at another place
pub painted_outside : (at len : ℕ) (new old : List ℕ) (x : ℕ) → (x < at) ⊎ (at + len ≤ x) → get_or (painted (range_with_len at len) new old) x 0 ≡ get_or old x 0
painted_outside at zero new old x h = refl
painted_outside at (suc n) new old x h =
    let ne : x ≢ at = omega arith in
    let later : (x < at + 1) ⊎ (at + 1 + n ≤ x) = elim h [ inl p ↦ inl (omega arith) | inr p ↦ inr (omega arith) ] in
    painted_outside (at + 1) n (drop 1 new) (set old at (get_or new 0 0)) x later ∙ get_or-set_other old at x (get_or new 0 0) 0 ne

-- one extent, at a place of it
pub painted_inside : (at len : ℕ) (new old : List ℕ) (x : ℕ) → x < length old → at ≤ x → x < at + len → get_or (painted (range_with_len at len) new old) x 0 ≡ get_or new (x - at) 0
painted_inside at zero new old x h low high = absurd (omega arith)
painted_inside at (suc n) new old x h low high =
    let now = set old at (get_or new 0 0) in
    elim (cases_lt at x) [
      | inl later ↦
          let h' : x < length now = rw length-set h in
          painted_inside (at + 1) n (drop 1 new) now x h' (omega arith) (omega arith) ∙ get_or-drop 1 new (x - (at + 1)) 0
          ∙ ap (λ k. get_or new k 0) (let e : 1 + (x - (at + 1)) ≡ x - at = omega arith in e)
      | inr first ↦
          let here : x ≡ at = omega arith in
          let none : 0 ≡ x - at = omega arith in
          painted_outside (at + 1) n (drop 1 new) now x (inl (omega arith)) ∙ ap (λ k. get_or now k 0) here
          ∙ get_or-set_same old at (get_or new 0 0) 0 (omega arith) ∙ ap (λ k. get_or new k 0) none
    ]

-- one extent, at any place
pub painted_extent : (e : Extent) (new old : List ℕ) (x : ℕ) → x < length old → get_or (painted (places_of_one e) new old) x 0 ≡ cond (covers e x) (get_or new (x - e.at) 0) (get_or old x 0)
painted_extent e new old x h = go (leb e.at x) (ltb x (e.at + e.len)) refl refl
  where
    now : ℕ
    now = get_or (painted (range_with_len e.at e.len) new old) x 0

    go : (a b : Bool) → leb e.at x ≡ a → ltb x (e.at + e.len) ≡ b → now ≡ cond (a && b) (get_or new (x - e.at) 0) (get_or old x 0)
    go true true p q = painted_inside e.at e.len new old x h (leb-true _ _ p) (ltb-true _ _ q)
    go true false p q = painted_outside e.at e.len new old x (inr (ltb-false _ _ q))
    go false b p q = painted_outside e.at e.len new old x (inl (leb-false _ _ p))

-- several extents, one after another, at any place
pub painted_extents : (at : List Extent) (new old : List ℕ) (x : ℕ) → x < length old → get_or (painted (places_of at) new old) x 0 ≡ painted_at at new (get_or old x 0) x
painted_extents [] new old x h = refl
painted_extents (e ∷ at) new old x h =
    let now = painted (places_of_one e) new old in
    let h' : x < length now = subst (λ n. x < n) (sym (length_painted (places_of_one e) new old)) h in
    ap (λ (bs : List ℕ). get_or bs x 0) (painted_append (places_of_one e) (places_of at) new old)
    ∙ ap (λ k. get_or (painted (places_of at) (drop k new) now) x 0) (length-range_with_len e.at e.len)
    ∙ painted_extents at (drop e.len new) now x h'
    ∙ ap (λ o. painted_at at (drop e.len new) o x) (painted_extent e new old x h)

-- extents that are painted without bytes become zeros
drop_nil : (n : ℕ) → ◌≡◌ {A = List ℕ} (drop n []) []
drop_nil zero = refl
drop_nil (suc n) = refl

pub zeroed_next : (b c : Bool) (old : ℕ) → cond c 0 (cond b 0 old) ≡ cond (b || c) 0 old
zeroed_next true true old = refl
zeroed_next true false old = refl
zeroed_next false c old = refl

pub painted_at_zeros : (at : List Extent) (old x : ℕ) → painted_at at [] old x ≡ cond (covered at x) 0 old
painted_at_zeros [] old x = refl
painted_at_zeros (e ∷ at) old x =
    ap (λ n. painted_at at n (cond (covers e x) 0 old) x) (drop_nil e.len) ∙ painted_at_zeros at (cond (covers e x) 0 old) x ∙ zeroed_next (covers e x) (covered at x) old

-- one place more of an extent
pub painted_more : (at k : ℕ) (new old : List ℕ) → painted (range_with_len at (k + 1)) new old ≡ set (painted (range_with_len at k) new old) (at + k) (get_or new k 0)
painted_more at k new old =
    painted_neighbours at k 1 new old
    ∙ ap (set (painted (range_with_len at k) new old) (at + k)) (get_or-drop k new 0 0 ∙ ap (λ j. get_or new j 0) (add-zero k))

-- an extent need not be followed past the end
pub painted_within : (at len : ℕ) (new old : List ℕ) → at ≤ length old → painted (range_with_len at (min len (length old - at))) new old ≡ painted (range_with_len at len) new old
painted_within at len new old h = elim (cases_lt (length old - at) len) [
  | inl longer ↦
      let m = length old - at in
      let cut : min len m ≡ m = omega arith in
      let whole : len ≡ m + (len - m) = omega arith in
      let front = painted (range_with_len at m) new old in
      let past : length front ≤ at + m = (let l = length_painted (range_with_len at m) new old in omega arith) in
      ap (λ n. painted (range_with_len at n) new old) cut
      ∙ sym (painted_past (at + m) (len - m) (drop m new) front past)
      ∙ sym (painted_neighbours at m (len - m) new old)
      ∙ sym (ap (λ n. painted (range_with_len at n) new old) whole)
  | inr all ↦ ap (λ n. painted (range_with_len at n) new old) (let e : min len (length old - at) ≡ len = omega arith in e)
]

-- ---- a series

-- a series of one extent more
series_more : (first : Extent) (step k : ℕ) → extents_from first step (k + 1) ≡ extents_from first step k ++ record { at = first.at + k * step; len = first.len } ∷ []
series_more first step zero = ap (λ a. record { at = a; len = first.len } ∷ []) here
  where
    here : first.at ≡ first.at + 0 * step
    here = omega arith
series_more first step (suc k) =
    let next : Extent = record first { at = first.at + step } in
    ap (extents_from first step) (let e : suc k + 1 ≡ suc (k + 1) = omega arith in e)
    ∙ ap (λ es. first ∷ es) (series_more next step k)
    ∙ ap (λ a. first ∷ (extents_from next step k ++ record { at = a; len = first.len } ∷ [])) (let e : first.at + step + k * step ≡ first.at + suc k * step = omega arith in e)

length_series : (first : Extent) (step k : ℕ) → length (places_of (extents_from first step k)) ≡ k * first.len
length_series first step zero = omega arith
length_series first step (suc k) =
    let next : Extent = record first { at = first.at + step } in
    length-append (places_of_one first) (places_of (extents_from next step k))
    ∙ (λ i. length-range_with_len first.at first.len i + length_series next step k i)
    ∙ (let e : first.len + k * first.len ≡ suc k * first.len = omega arith in e)

-- what is painted behind a series
after_series : (first : Extent) (step k : ℕ) (at : List Extent) (new old : List ℕ)
    → painted (places_of (extents_from first step k ++ at)) new old
    ≡ painted (places_of at) (drop (k * first.len) new) (painted (places_of (extents_from first step k)) new old)
after_series first step k at new old =
    ap (λ ps. painted ps new old) (flat_map-append places_of_one (extents_from first step k) at)
    ∙ painted_append (places_of (extents_from first step k)) (places_of at) new old
    ∙ ap (λ n. painted (places_of at) (drop n new) (painted (places_of (extents_from first step k)) new old)) (length_series first step k)

-- the next extent of a series
pub series_step : (first : Extent) (step k : ℕ) (new old : List ℕ)
    → painted (places_of (extents_from first step (k + 1))) new old
    ≡ painted (places_of_one (record { at = first.at + k * step; len = first.len })) (drop (k * first.len) new) (painted (places_of (extents_from first step k)) new old)
series_step first step k new old =
    ap (λ es. painted (places_of es) new old) (series_more first step k)
    ∙ after_series first step k (record { at = first.at + k * step; len = first.len } ∷ []) new old
    ∙ ap (λ ps. painted ps (drop (k * first.len) new) (painted (places_of (extents_from first step k)) new old)) (append-nil (range_with_len (first.at + k * step) first.len))

-- the next of several series
pub several_step : (all : List Series) (i : ℕ) (d : Series) (new old : List ℕ) → i < length all
    → painted (places_of (flat_map extents_in (drop i all))) new old
    ≡ painted (places_of (flat_map extents_in (drop (i + 1) all))) (drop ((get_or all i d).count * (get_or all i d).first.len) new) (painted (places_of (extents_in (get_or all i d))) new old)
several_step all i d new old h =
    let s = get_or all i d in
    at_drop_more (λ (ss : List Series). painted (places_of (flat_map extents_in ss)) new old) all i d h
    ∙ after_series s.first s.step s.count (flat_map extents_in (drop (i + 1) all)) new old

-- where a place is past all numbers, any place past the end is as good
pub painted_bounded : (at most len : ℕ) (new old : List ℕ) → length old ≤ most → painted (range_with_len (min at most) len) new old ≡ painted (range_with_len at len) new old
painted_bounded at most len new old h = elim (cases_lt most at) [
  | inl past ↦ painted_past (min at most) len new old (omega arith) ∙ sym (painted_past at len new old (omega arith))
  | inr all ↦ ap (λ a. painted (range_with_len a len) new old) (let e : min at most ≡ at = omega arith in e)
]

-- All places of an object below a size, painted in order: each gets the byte at its offset.
use Rattle.std.proofs.Common.{◌≡◌, ◌≢◌, ℕ, zero, suc, ◌+◌, ◌<◌, ◌≤◌, Bool, true, false, cond, eqb, inl, inr, List, [], ◌∷◌, ◌++◌, get_or, drop, filter, refl, sym, ◌∙◌, ap, arith}
use Rattle.std.specs.List.{range_with_len, flat_map}
use Rattle.std.proofs.lemmas.Bool.{cases_eq, cases_lt, eqb-true, eqb-false, eq-eqb, ne_eqb}
use Rattle.std.proofs.lemmas.List.{drop-drop, get_or-drop}
use Rattle.rbd_kinds.specs.declared.layout.Layout.{Layout}
use Rattle.rbd_kinds.specs.declared.layout.Part.{Part}
use Rattle.rbd_kinds.specs.Striping.{IsLayout, object_of, offset_of, byte_at}
use Rattle.rbd_layout.specs.Pieces.{IsHeld, IsPartsOf}
use Rattle.rbd_layout.specs.Pieces as pieces
use Rattle.rbd_layout.proofs.Places.{byte_of_place, object_of_byte, offset_within, ascends}
use Rattle.rbd_flat.specs.Flat.{places_of}
use Rattle.rbd_flat.specs.Laws.{painted_byte}
use Rattle.rbd_stands.specs.Condition.{extents_of}

-- the parts' places are those of the object
places_of_parts : (parts : List Part) → places_of (extents_of parts) ≡ flat_map pieces.places_of parts
places_of_parts [] = refl
places_of_parts (p ∷ parts) = ap (λ xs. range_with_len p.at p.len ++ xs) (places_of_parts parts)

module _ (l : Layout) (laid : IsLayout l) (n : ℕ) where
  abbrev from : (a len : ℕ) → List ℕ
  from a len = filter (λ x. eqb (object_of l x) n) (range_with_len a len)

  pub whole_places : (size : ℕ) (parts : List Part) → IsPartsOf l (record { at = 0; len = size }) n parts → places_of (extents_of parts) ≡ from 0 size
  whole_places size parts are = places_of_parts parts ∙ are.cover

  -- places before the first are passed over, and so are those of other objects
  step_before : (b : Bool) (a : ℕ) (rest new : List ℕ) (old x : ℕ) → x ≢ a → ((new : List ℕ) → painted_byte rest new old x ≡ old) → painted_byte (cond b (a ∷ rest) rest) new old x ≡ old
  step_before true a rest new old x other later = ap (λ c. painted_byte rest (drop 1 new) (cond c (get_or new 0 0) old) x) (ne_eqb x a other) ∙ later (drop 1 new)
  step_before false a rest new old x other later = later new

  before : (a len : ℕ) (new : List ℕ) (old x : ℕ) → x < a → painted_byte (from a len) new old x ≡ old
  before a zero new old x less = refl
  before a (suc len) new old x less =
      step_before (eqb (object_of l a) n) a (from (a + 1) len) new old x (omega arith) (λ more. before (a + 1) len more old x (omega arith))

  step_other : (b : Bool) (a : ℕ) (rest new : List ℕ) (old x : ℕ) → (b ≡ true → x ≢ a) → ((new : List ℕ) → painted_byte rest new old x ≡ old) → painted_byte (cond b (a ∷ rest) rest) new old x ≡ old
  step_other true a rest new old x other later = ap (λ c. painted_byte rest (drop 1 new) (cond c (get_or new 0 0) old) x) (ne_eqb x a (other refl)) ∙ later (drop 1 new)
  step_other false a rest new old x other later = later new

  pub in_other : (a len : ℕ) (new : List ℕ) (old x : ℕ) → object_of l x ≢ n → painted_byte (from a len) new old x ≡ old
  in_other a zero new old x other = refl
  in_other a (suc len) new old x other =
      step_other (eqb (object_of l a) n) a (from (a + 1) len) new old x (λ e same. other (ap (object_of l) same ∙ eqb-true (object_of l a) n e)) (λ more. in_other (a + 1) len more old x other)

  -- how many bytes of the object lie below the next byte
  held_pass : (a j : ℕ) → object_of l a ≢ n → IsHeld l n a j → IsHeld l n (a + 1) j
  held_pass a j other held = record {
    within = held.within;
    each = λ o inside. (
      (λ less. let h = (held.each o inside).0 less in omega arith),
      (λ less. (held.each o inside).1 (let apart : byte_at l n o ≢ a = (λ e. other (sym (ap (object_of l) e) ∙ object_of_byte l laid n o inside)) in omega (arith, less, apart))),
    );
  }

  -- the next byte of the object lies right behind those that are held
  held_next : (a j : ℕ) → object_of l a ≡ n → IsHeld l n a j → (offset_of l a ≡ j) × IsHeld l n (a + 1) (j + 1)
  held_next a j this held = (
    at,
    record {
      within = (let w = inside in omega (arith, at));
      each = λ o within. (
        (λ less. elim (cases_lt o j) [
          | inl old ↦ (let h = (held.each o within).0 old in omega arith)
          | inr new ↦ (let same : o ≡ offset_of l a = omega (arith, at) in let e : byte_at l n o ≡ a = ap (byte_at l n) same ∙ here in omega arith)
        ]),
        (λ less. elim (cases_lt o (j + 1)) [
          | inl old ↦ old
          | inr new ↦ absurd (let up : byte_at l n (offset_of l a) < byte_at l n o = ascends l laid n (offset_of l a) o (omega (arith, at)) in omega (arith, here))
        ]),
      );
    },
  )
    where
      inside : offset_of l a < l.object
      inside = offset_within l laid a

      here : byte_at l n (offset_of l a) ≡ a
      here = ap (λ k. byte_at l k (offset_of l a)) (sym this) ∙ byte_of_place l laid a

      not_below : offset_of l a < j → ⊥
      not_below less = let h = (held.each (offset_of l a) inside).0 less in omega (arith, here)

      not_above : j < offset_of l a → ⊥
      not_above more =
          let up : byte_at l n j < byte_at l n (offset_of l a) = ascends l laid n j (offset_of l a) more in
          let h = (held.each j (omega (arith, inside))).1 (omega (arith, here)) in
          omega arith

      at : offset_of l a ≡ j
      at = elim (cases_lt (offset_of l a) j) [
        | inl less ↦ absurd (not_below less)
        | inr rest ↦ elim (cases_lt j (offset_of l a)) [
          | inl more ↦ absurd (not_above more)
          | inr same ↦ omega arith
        ]
      ]

  -- a place of the object gets the byte at its offset
  pub in_whole : (a len j : ℕ) → IsHeld l n a j → (bytes : List ℕ) (old x : ℕ) → object_of l x ≡ n → a ≤ x → x < a + len → painted_byte (from a len) (drop j bytes) old x ≡ get_or bytes (offset_of l x) 0
  in_whole a zero j held bytes old x this low high = absurd (omega arith)
  in_whole a (suc len) j held bytes old x this low high =
      go (eqb (object_of l a) n) refl (λ k at o later. in_whole (a + 1) len k at bytes o x this later (omega arith))
    where
      go : (b : Bool) → eqb (object_of l a) n ≡ b
          → ((k : ℕ) → IsHeld l n (a + 1) k → (o : ℕ) → a + 1 ≤ x → painted_byte (from (a + 1) len) (drop k bytes) o x ≡ get_or bytes (offset_of l x) 0)
          → painted_byte (cond b (a ∷ from (a + 1) len) (from (a + 1) len)) (drop j bytes) old x ≡ get_or bytes (offset_of l x) 0
      go false e rec =
          let other = eqb-false (object_of l a) n e in
          let apart : a ≢ x = (λ same. other (ap (object_of l) same ∙ this)) in
          rec j (held_pass a j other held) old (omega (arith, apart, low))
      go true e rec = elim (cases_eq x a) [
        | inl same ↦
            let next = held_next a j (eqb-true (object_of l a) n e) held in
            ap (λ b. painted_byte (from (a + 1) len) (drop 1 (drop j bytes)) (cond b (get_or (drop j bytes) 0 0) old) x) (eq-eqb x a same)
            ∙ before (a + 1) len (drop 1 (drop j bytes)) (get_or (drop j bytes) 0 0) x (omega arith)
            ∙ get_or-drop j bytes 0 0
            ∙ ap (λ k. get_or bytes k 0) (let zero_more : j + 0 ≡ j = omega arith in zero_more ∙ sym next.0 ∙ ap (offset_of l) (sym same))
        | inr other ↦
            let next = held_next a j (eqb-true (object_of l a) n e) held in
            ap (λ b. painted_byte (from (a + 1) len) (drop 1 (drop j bytes)) (cond b (get_or (drop j bytes) 0 0) old) x) (ne_eqb x a other)
            ∙ ap (λ new. painted_byte (from (a + 1) len) new old x) (drop-drop 1 j bytes)
            ∙ rec (j + 1) next.1 old (omega (arith, other, low))
      ]

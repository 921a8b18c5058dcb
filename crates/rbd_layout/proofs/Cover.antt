-- The bytes of an extent in an object are those between two offsets.
use Rattle.std.proofs.Common.{◌≡◌, ◌≢◌, ℕ, zero, suc, ◌+◌, ◌-◌, ◌<◌, ◌≤◌, ◌⊎◌, inl, inr, refl, sym, ap, ◌∙◌, subst, arith, [], ◌∷◌, ◌++◌, map, eqb, true, false, Bool}
use Rattle.std.specs.Prelude.{filter, ◌==◌}
use Rattle.std.specs.List.{range_with_len}
use Rattle.std.proofs.lemmas.List.{map-append, append-nil}
use Rattle.std.proofs.lemmas.List.Elements.{filter-append}
use Rattle.std.proofs.lemmas.Bool.Decides.{eqb_tells}
use Rattle.rbd_kinds.specs.declared.layout.Layout.{Layout}
use Rattle.rbd_kinds.specs.Striping.{IsLayout, object_of, offset_of, byte_at}
use Rattle.rbd_kinds.proofs.Plain.{range_append}
use Rattle.rbd_layout.specs.Pieces.{IsHeld}
use Rattle.rbd_layout.proofs.Mixed.{cases_lt}
use Rattle.rbd_layout.proofs.Places.{byte_of_place, object_of_byte, offset_within, ascends, ascends_back}

-- ---- ranges

pub range_more : (a n : ℕ) → range_with_len a (suc n) ≡ range_with_len a n ++ (a + n) ∷ []
range_more a n =
    let e : n + 1 ≡ suc n = omega arith in
    let s : range_with_len a (n + 1) ≡ range_with_len a n ++ range_with_len (a + n) 1 = range_append a n 1 in
    subst (λ (k : ℕ). range_with_len a k ≡ range_with_len a n ++ (a + n) ∷ []) e s

-- where f counts on by one, it maps a range to a range
pub map-range : (f : ℕ → ℕ) (b a n : ℕ) → ((k : ℕ) → k < n → f (b + k) ≡ a + k) → map f (range_with_len b n) ≡ range_with_len a n
map-range f b a zero h = refl
map-range f b a (suc n) h =
    let first : f (b + 0) ≡ a + 0 = h 0 (omega arith) in
    let b0 : b + 0 ≡ b = omega arith in
    let a0 : a + 0 ≡ a = omega arith in
    let head : f b ≡ a = rw (b0, a0) at first in
    let tail : map f (range_with_len (b + 1) n) ≡ range_with_len (a + 1) n = map-range f (b + 1) (a + 1) n next in
    rw (head, tail) refl
  where
    next : (k : ℕ) → k < n → f (b + 1 + k) ≡ a + 1 + k
    next k less =
        let e : b + 1 + k ≡ b + (k + 1) = omega arith in
        let d : a + 1 + k ≡ a + (k + 1) = omega arith in
        rw (e, d) (h (k + 1) (omega arith))

-- ---- how many bytes of an object lie below a byte: one number, and it grows with the byte

pub held_mono : (l : Layout) → IsLayout l → (n a b i j : ℕ) → a ≤ b → IsHeld l n a i → IsHeld l n b j → i ≤ j
held_mono l h n a b i j le at_a at_b = go (cases_lt j i)
  where
    go : (j < i) ⊎ ((j ≡ i) ⊎ (i < j)) → i ≤ j
    go (inl gt) =
        let w : i ≤ l.object = at_a.within in
        let inside : j < l.object = omega arith in
        let below : byte_at l n j < a = (at_a.each j inside).0 gt in
        let more : j < j = (at_b.each j inside).1 (omega (arith, below, le)) in
        absurd (omega arith)
    go (inr (inl e)) = omega arith
    go (inr (inr lt)) = omega arith

pub held_once : (l : Layout) → IsLayout l → (n a i j : ℕ) → IsHeld l n a i → IsHeld l n a j → i ≡ j
held_once l h n a i j x y =
    let p : i ≤ j = held_mono l h n a a i j (omega arith) x y in
    let q : j ≤ i = held_mono l h n a a j i (omega arith) y x in
    omega arith

-- one byte less, where that byte lies in another object
held_other : (l : Layout) → IsLayout l → (n m j : ℕ) → object_of l m ≢ n → IsHeld l n (m + 1) j → IsHeld l n m j
held_other l h n m j other at = record {
  within = at.within;
  each = λ o inside. (
    (λ less.
        let below : byte_at l n o < m + 1 = (at.each o inside).0 less in
        let apart : byte_at l n o ≢ m = differs o inside in
        omega (arith, below, apart)),
    (λ less. (at.each o inside).1 (omega (arith, less))),
  );
}
  where
    differs : (o : ℕ) → o < l.object → byte_at l n o ≢ m
    differs o inside e = other (sym (ap (object_of l) e) ∙ object_of_byte l h n o inside)

-- .. and where it lies in this object, it is the last of those that are held
held_this : (l : Layout) → IsLayout l → (n m j : ℕ) → object_of l m ≡ n → IsHeld l n (m + 1) j → (offset_of l m + 1 ≡ j) × IsHeld l n m (offset_of l m) × (byte_at l n (offset_of l m) ≡ m)
held_this l h n m j this at = (omega (arith, counted, last), holds, here)
  where
    inside : offset_of l m < l.object
    inside = offset_within l h m

    here : byte_at l n (offset_of l m) ≡ m
    here = ap (λ k. byte_at l k (offset_of l m)) (sym this) ∙ byte_of_place l h m

    counted : offset_of l m < j
    counted = (at.each (offset_of l m) inside).1 (omega (arith, here))

    last : j ≤ offset_of l m + 1
    last = go (cases_lt (offset_of l m + 1) j)
      where
        go : (offset_of l m + 1 < j) ⊎ ((offset_of l m + 1 ≡ j) ⊎ (j < offset_of l m + 1)) → j ≤ offset_of l m + 1
        go (inl more) =
            let w : j ≤ l.object = at.within in
            let next : offset_of l m + 1 < l.object = omega arith in
            let below : byte_at l n (offset_of l m + 1) < m + 1 = (at.each (offset_of l m + 1) next).0 more in
            let up : byte_at l n (offset_of l m) < byte_at l n (offset_of l m + 1) = ascends l h n (offset_of l m) (offset_of l m + 1) (omega arith) in
            absurd (omega (arith, here))
        go (inr (inl e)) = omega arith
        go (inr (inr lt)) = omega arith

    holds : IsHeld l n m (offset_of l m)
    holds = record {
      within = omega (arith, inside);
      each = λ o _. (
        (λ less. let up : byte_at l n o < byte_at l n (offset_of l m) = ascends l h n o (offset_of l m) less in omega (arith, here)),
        (λ less. ascends_back l h n o (offset_of l m) (omega (arith, here, less))),
      );
    }

-- ---- the cover

filter_one : (p : ℕ → Bool) (x : ℕ) → p x ≡ true → filter p (x ∷ []) ≡ x ∷ []
filter_one p x h = rw h refl

filter_none : (p : ℕ → Bool) (x : ℕ) → p x ≡ false → filter p (x ∷ []) ≡ []
filter_none p x h = rw h refl

pub cover : (l : Layout) → IsLayout l → (n a len i j : ℕ) → IsHeld l n a i → IsHeld l n (a + len) j
    → filter (λ x. object_of l x == n) (range_with_len a len) ≡ map (byte_at l n) (range_with_len i (j - i))
cover l h n a zero i j at_a at_end =
    let e : a + 0 ≡ a = omega arith in
    let same : i ≡ j = held_once l h n a i j at_a (rw e at at_end) in
    let none : j - i ≡ 0 = omega arith in
    rw none refl
cover l h n a (suc len) i j at_a at_end =
    ap (λ xs. filter (λ x. object_of l x == n) xs) (range_more a len)
    ∙ filter-append (λ x. object_of l x == n) (range_with_len a len) ((a + len) ∷ [])
    ∙ go (eqb_tells (object_of l (a + len)) n) (cover l h n a len i)
  where
    e : a + suc len ≡ a + len + 1
    e = omega arith

    at_next : IsHeld l n (a + len + 1) j
    at_next = subst (λ (x : ℕ). IsHeld l n x j) e at_end

    go : ((eqb (object_of l (a + len)) n ≡ true) × (object_of l (a + len) ≡ n)) ⊎ ((eqb (object_of l (a + len)) n ≡ false) × (object_of l (a + len) ≢ n))
        → ((k : ℕ) → IsHeld l n a i → IsHeld l n (a + len) k → filter (λ x. object_of l x == n) (range_with_len a len) ≡ map (byte_at l n) (range_with_len i (k - i)))
        → filter (λ x. object_of l x == n) (range_with_len a len) ++ filter (λ x. object_of l x == n) ((a + len) ∷ []) ≡ map (byte_at l n) (range_with_len i (j - i))
    go (inl (holds, this)) rec =
        let facts = held_this l h n (a + len) j this at_next in
        let up : i ≤ offset_of l (a + len) = held_mono l h n a (a + len) i (offset_of l (a + len)) (omega arith) at_a facts.1 in
        let last : offset_of l (a + len) + 1 ≡ j = facts.0 in
        let count : j - i ≡ suc (offset_of l (a + len) - i) = omega arith in
        let place : i + (offset_of l (a + len) - i) ≡ offset_of l (a + len) = omega arith in
        let whole : map (byte_at l n) (range_with_len i (j - i)) ≡ map (byte_at l n) (range_with_len i (offset_of l (a + len) - i)) ++ (a + len) ∷ [] =
        ap (λ k. map (byte_at l n) (range_with_len i k)) count
        ∙ ap (λ xs. map (byte_at l n) xs) (range_more i (offset_of l (a + len) - i))
        ∙ map-append (byte_at l n) (range_with_len i (offset_of l (a + len) - i)) ((i + (offset_of l (a + len) - i)) ∷ [])
        ∙ ap (λ (y : ℕ). map (byte_at l n) (range_with_len i (offset_of l (a + len) - i)) ++ byte_at l n y ∷ []) place
        ∙ ap (λ (y : ℕ). map (byte_at l n) (range_with_len i (offset_of l (a + len) - i)) ++ y ∷ []) facts.2 in
        ap (λ xs. filter (λ x. object_of l x == n) (range_with_len a len) ++ xs) (filter_one (λ x. object_of l x == n) (a + len) holds)
        ∙ ap (λ xs. xs ++ (a + len) ∷ []) (rec (offset_of l (a + len)) at_a facts.1)
        ∙ sym whole
    go (inr (fails, other)) rec =
        ap (λ xs. filter (λ x. object_of l x == n) (range_with_len a len) ++ xs) (filter_none (λ x. object_of l x == n) (a + len) fails)
        ∙ append-nil (filter (λ x. object_of l x == n) (range_with_len a len))
        ∙ rec j at_a (held_other l h n (a + len) j other at_next)

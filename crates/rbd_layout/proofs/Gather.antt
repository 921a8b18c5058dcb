-- The pieces so far, object by object.
use Rattle.std.proofs.Common.{◌≡◌, ℕ, zero, suc, ◌+◌, ◌*◌, ◌/◌, ◌<◌, ◌≤◌, ◌⊎◌, inl, inr, refl, sym, ap, ◌∙◌, subst, arith, List, [], ◌∷◌, ◌++◌, length, get_or, cond, true, false, Bool, eq-eqb}
use Rattle.std.specs.Prelude.{All, AllPairs, Any, filter, ◌==◌}
use Rattle.std.specs.List.{range_with_len}
use Rattle.std.proofs.lemmas.List.{length_push, get_or_append_left}
use Rattle.std.proofs.lemmas.List.Elements.{All-push, All-weaker}
use Rattle.std.proofs.lemmas.List.Quantifiers.{all_pairs_push, Any-push}
use Rattle.std.proofs.lemmas.Bool.{eqb-true, false≢true}
use Rattle.std.proofs.Math.Nat.{mul-le-mul_right, div-mul-le_self, not-suc-le-zero}
use Rattle.rbd_kinds.specs.declared.layout.Layout.{Layout}
use Rattle.rbd_kinds.specs.declared.layout.Part.{Part}
use Rattle.rbd_kinds.specs.declared.layout.Extent.{Extent}
use Rattle.rbd_kinds.specs.Striping.{IsLayout, IsObjectCount, object_of}
use Rattle.rbd_layout.specs.declared.types.Piece.{Piece}
use Rattle.rbd_layout.specs.Pieces.{IsPartsOf, IsPieces, first_object, places_in}
use Rattle.rbd_layout.proofs.Mixed.{cases_lt}
use Rattle.rbd_layout.proofs.Places.{set_at_most}

-- what holds of some element, by recursion
abbrev pub Among : ℕ → List ℕ → Type 0
Among x [] = ⊥
Among x (y ∷ ys) = (x ≡ y) ⊎ Among x ys

pub Among-range : (x a n : ℕ) → a ≤ x → x < a + n → Among x (range_with_len a n)
Among-range x a zero le less = absurd (omega arith)
Among-range x a (suc n) le less = go (cases_lt a x) (Among-range x (a + 1) n)
  where
    go : (a < x) ⊎ ((a ≡ x) ⊎ (x < a)) → (a + 1 ≤ x → x < a + 1 + n → Among x (range_with_len (a + 1) n)) → (x ≡ a) ⊎ Among x (range_with_len (a + 1) n)
    go (inl lt) rec = inr (rec (omega arith) (omega arith))
    go (inr (inl e)) rec = inl (sym e)
    go (inr (inr gt)) rec = absurd (omega arith)

pub range_bounds : (x a n : ℕ) → Among x (range_with_len a n) → (a ≤ x) × (x < a + n)
range_bounds x a zero h = absurd h
range_bounds x a (suc n) (inl e) = (omega arith, omega arith)
range_bounds x a (suc n) (inr h) =
    let b = range_bounds x (a + 1) n h in
    (omega (arith, b.0), omega (arith, b.1))

pub Among-filter : (p : ℕ → Bool) (x : ℕ) → p x ≡ true → (xs : List ℕ) → Among x xs → Among x (filter p xs)
Among-filter p x holds [] h = h
Among-filter p x holds (y ∷ ys) (inl e) =
    let at_y : p y ≡ true = ap p (sym e) ∙ holds in
    rw at_y (inl e)
Among-filter p x holds (y ∷ ys) (inr h) = go (p y) (Among-filter p x holds ys h)
  where
    go : (b : Bool) → Among x (filter p ys) → Among x (cond b (y ∷ filter p ys) (filter p ys))
    go true rec = inr rec
    go false rec = rec

pub filter_among : (p : ℕ → Bool) (x : ℕ) (xs : List ℕ) → Among x (filter p xs) → Among x xs × (p x ≡ true)
filter_among p x [] h = absurd h
filter_among p x (y ∷ ys) h = go (p y) refl h (filter_among p x ys)
  where
    go : (b : Bool) → p y ≡ b → Among x (cond b (y ∷ filter p ys) (filter p ys)) → (Among x (filter p ys) → Among x ys × (p x ≡ true)) → ((x ≡ y) ⊎ Among x ys) × (p x ≡ true)
    go true e (inl same) rec = (inl same, ap p same ∙ e)
    go true e (inr later) rec = let r = rec later in (inr r.0, r.1)
    go false e later rec = let r = rec later in (inr r.0, r.1)

-- a place of the extent in an object is one of its places there, and they are all
pub place_among : (l : Layout) (e : Extent) (n x : ℕ) → e.at ≤ x → x < e.at + e.len → object_of l x ≡ n → Among x (places_in l e n)
place_among l e n x le less this =
    Among-filter (λ y. object_of l y == n) x (eq-eqb (object_of l x) n this) (range_with_len e.at e.len) (Among-range x e.at e.len le less)

pub among_place : (l : Layout) (e : Extent) (n x : ℕ) → Among x (places_in l e n) → (e.at ≤ x) × (x < e.at + e.len) × (object_of l x ≡ n)
among_place l e n x h =
    let r = filter_among (λ y. object_of l y == n) x (range_with_len e.at e.len) h in
    let b = range_bounds x e.at e.len r.0 in
    (b.0, b.1, eqb-true (object_of l x) n r.1)

-- ---- the loop

Any-kept : {X : Type 0} (P : X → Type 0) (xs : List X) (y : X) → Any P xs → Any P (xs ++ y ∷ [])
Any-kept P xs y (k, x, less, is, holds) =
    let longer : length (xs ++ y ∷ []) ≡ length xs + 1 = length_push xs y in
    let same : get_or (xs ++ y ∷ []) k x ≡ get_or xs k x = get_or_append_left xs (y ∷ []) x k less in
    (k, x, omega arith, same ∙ is, holds)

pub record Gathered (l : Layout) (e : Extent) (n : ℕ) (pieces : List Piece) : Type 0 where
  pub parts : All (λ p. IsPartsOf l e p.object p.parts) pieces
  pub touched : All (λ p. 0 < length p.parts) pieces
  pub ascending : AllPairs (λ p q. p.object < q.object) pieces
  pub before : All (λ p. p.object < n) pieces
  pub whole : (x : ℕ) → e.at ≤ x → x < e.at + e.len → object_of l x < n → Any (λ p. p.object ≡ object_of l x) pieces

-- no place of the extent lies in an object before those of its first byte's set
pub first_before : (l : Layout) → IsLayout l → (e : Extent) (x : ℕ) → e.at ≤ x → first_object l e ≤ object_of l x
first_before l h e x le =
    let set : object_of l e.at / l.count ≤ object_of l x / l.count = set_at_most l h e.at x le in
    let up : object_of l e.at / l.count * l.count ≤ object_of l x / l.count * l.count = mul-le-mul_right l.count set in
    let low : object_of l x / l.count * l.count ≤ object_of l x = div-mul-le_self (object_of l x) l.count in
    omega arith

pub gather_begins : (l : Layout) → IsLayout l → (e : Extent) → Gathered l e (first_object l e) []
gather_begins l h e = record {
  parts = λ k d less. absurd (not-suc-le-zero less);
  touched = λ k d less. absurd (not-suc-le-zero less);
  ascending = λ i j d _ less. absurd (not-suc-le-zero less);
  before = λ k d less. absurd (not-suc-le-zero less);
  whole = λ x le _ less. absurd (earlier x le less);
}
  where
    earlier : (x : ℕ) → e.at ≤ x → object_of l x < first_object l e → ⊥
    earlier x le less = omega (arith, first_before l h e x le)

-- an object that the extent doesn't touch
pub gather_passes : (l : Layout) (e : Extent) (n : ℕ) (pieces : List Piece) → IsPartsOf l e n [] → Gathered l e n pieces → Gathered l e (n + 1) pieces
gather_passes l e n pieces none g = record {
  parts = g.parts;
  touched = g.touched;
  ascending = g.ascending;
  before = All-weaker (λ p. p.object < n) (λ p. p.object < n + 1) (λ p less. omega arith) pieces g.before;
  whole = λ x le less below. go x le less (cases_lt (object_of l x) n) below;
}
  where
    go : (x : ℕ) → e.at ≤ x → x < e.at + e.len → (object_of l x < n) ⊎ ((object_of l x ≡ n) ⊎ (n < object_of l x)) → object_of l x < n + 1 → Any (λ p. p.object ≡ object_of l x) pieces
    go x le less (inl lt) _ = g.whole x le less lt
    go x le less (inr (inl this)) _ = absurd (subst (λ xs. Among x xs) (sym none.cover) (place_among l e n x le less this))
    go x le less (inr (inr gt)) below = absurd (omega arith)

-- and one that it touches
pub gather_adds : (l : Layout) (e : Extent) (n : ℕ) (pieces : List Piece) (parts : List Part) → IsPartsOf l e n parts → 0 < length parts → Gathered l e n pieces
    → Gathered l e (n + 1) (pieces ++ record { object = n; parts = parts } ∷ [])
gather_adds l e n pieces parts are some g = record {
  parts = All-push (λ p. IsPartsOf l e p.object p.parts) pieces new g.parts are;
  touched = All-push (λ p. 0 < length p.parts) pieces new g.touched some;
  ascending = all_pairs_push (λ p q. p.object < q.object) pieces new g.ascending g.before;
  before = All-push (λ p. p.object < n + 1) pieces new (All-weaker (λ p. p.object < n) (λ p. p.object < n + 1) (λ p less. omega arith) pieces g.before) (omega arith);
  whole = λ x le less below. go x le less (cases_lt (object_of l x) n) below;
}
  where
    new : Piece
    new = record { object = n; parts = parts }

    go : (x : ℕ) → e.at ≤ x → x < e.at + e.len → (object_of l x < n) ⊎ ((object_of l x ≡ n) ⊎ (n < object_of l x)) → object_of l x < n + 1 → Any (λ p. p.object ≡ object_of l x) (pieces ++ new ∷ [])
    go x le less (inl lt) _ = Any-kept (λ p. p.object ≡ object_of l x) pieces new (g.whole x le less lt)
    go x le less (inr (inl this)) _ = Any-push (λ p. p.object ≡ object_of l x) pieces new (sym this)
    go x le less (inr (inr gt)) below = absurd (omega arith)

pub gather_ends : (l : Layout) (e : Extent) (end n : ℕ) (pieces : List Piece) → IsObjectCount l (e.at + e.len) end → end ≤ n → Gathered l e n pieces → IsPieces l e pieces
gather_ends l e end n pieces count done g = record {
  parts = g.parts;
  touched = g.touched;
  ascending = g.ascending;
  whole = λ x within. g.whole x within.0 within.1 (omega (arith, count.each x within.1));
}

pub some_items : {X : Type 0} (xs : List X) (b : Bool) → (xs ≡ [] → b ≡ true) → b ≡ false → 0 < length xs
some_items [] b is_true is_false = absurd (false≢true (sym is_false ∙ is_true refl))
some_items (x ∷ xs) b is_true is_false = omega arith

-- The one list of an extent's pieces: what is computed keeps the rules.
use Rattle.std.proofs.Common.{◌≡◌, ◌≢◌, ◌*◌, get_or, ℕ, zero, suc, ◌+◌, ◌-◌, nat_lt, ◌<◌, ◌≤◌, ◌⊎◌, inl, inr, refl, sym, ap, ◌∙◌, subst, arith, List, [], ◌∷◌, ◌++◌, map, length, cond, true, false, Bool}
use Rattle.std.specs.Prelude.{All, AllPairs, Any, filter, ◌==◌}
use Rattle.std.specs.List.{range_with_len, flat_map}
use Rattle.std.proofs.lemmas.List.{append_assoc, append-nil, length-append}
use Rattle.std.proofs.lemmas.List.Elements.{All-nil, All-cons, All-head, All-tail, All-map, All-weaker, All-filter, filter-append, filter_passes}
use Rattle.std.proofs.lemmas.List.Kept.{AllPairs-cons, AllPairs-filter}
use Rattle.std.proofs.lemmas.Bool.Decides.{eqb_tells, nat_tests}
use Rattle.std.proofs.Math.Nat.{mul-le-mul_left, not-suc-le-zero}
use Rattle.rbd_kinds.specs.declared.layout.Layout.{Layout}
use Rattle.rbd_kinds.specs.declared.layout.Part.{Part}
use Rattle.rbd_kinds.specs.declared.layout.Extent.{Extent}
use Rattle.rbd_kinds.specs.Striping.{IsLayout, IsObjectCount, object_of, offset_of, byte_at}
use Rattle.rbd_kinds.proofs.Plain.{range_append}
use Rattle.rbd_layout.specs.declared.types.Piece.{Piece}
use Rattle.rbd_layout.specs.Pieces.{IsPart, IsPartsOf, IsPieces, IsWithin, first_object, places_in, places_of, part_at, with_place, parts_at, piece_in, pieces_among, is_touched, pieces_of}
use Rattle.rbd_layout.proofs.Limits.{shape_of}
use Rattle.rbd_layout.proofs.Mixed.{cases_lt}
use Rattle.rbd_layout.proofs.Places.{byte_of_place, offset_within, ascends, ascends_back, number_bounded}
use Rattle.rbd_layout.proofs.Gather.{Among, filter_among, first_before, range_bounds, place_among}
use Rattle.rbd_layout.proofs.Unique.{Above, AllPairs-head, AllPairs-tail, pieces_once}
use Rattle.rbd_layout.proofs.Derived.{Any-here, Any-there}

-- ---- places and parts

-- where a byte and the next lie in one object, they lie together there
next_offset : (l : Layout) → IsLayout l → (x : ℕ) → object_of l x ≡ object_of l (x + 1) → offset_of l (x + 1) ≡ offset_of l x + 1
next_offset l h x same = go (cases_lt (offset_of l x + 1) (offset_of l (x + 1)))
  where
    here : byte_at l (object_of l (x + 1)) (offset_of l x) ≡ x
    here = ap (λ k. byte_at l k (offset_of l x)) (sym same) ∙ byte_of_place l h x

    there : byte_at l (object_of l (x + 1)) (offset_of l (x + 1)) ≡ x + 1
    there = byte_of_place l h (x + 1)

    later : offset_of l x < offset_of l (x + 1)
    later = ascends_back l h (object_of l (x + 1)) (offset_of l x) (offset_of l (x + 1)) (omega (arith, here, there))

    go : (offset_of l x + 1 < offset_of l (x + 1)) ⊎ ((offset_of l x + 1 ≡ offset_of l (x + 1)) ⊎ (offset_of l (x + 1) < offset_of l x + 1)) → offset_of l (x + 1) ≡ offset_of l x + 1
    go (inl more) =
        let up = ascends l h (object_of l (x + 1)) (offset_of l x) (offset_of l x + 1) (omega arith) in
        let on = ascends l h (object_of l (x + 1)) (offset_of l x + 1) (offset_of l (x + 1)) more in
        absurd (omega (arith, here, there, up, on))
    go (inr (inl e)) = sym e
    go (inr (inr less)) = absurd (omega (arith, later))

-- the parts of some places of one object
record Listed (l : Layout) (n : ℕ) (xs : List ℕ) (parts : List Part) : Type 0 where
  each : All (IsPart l n) parts
  cover : flat_map places_of parts ≡ xs
  apart : AllPairs (λ p q. p.at + p.len < q.at) parts

one_part : (l : Layout) → IsLayout l → (n x : ℕ) → object_of l x ≡ n → IsPart l n (part_at l x 1)
one_part l h n x this = record {
  some = omega arith;
  within = omega (arith, offset_within l h x);
  lies = λ k less. go k less;
}
  where
    go : (k : ℕ) → k < 1 → (object_of l (x + k) ≡ n) × (offset_of l (x + k) ≡ offset_of l x + k)
    go zero less =
        let a : x + 0 ≡ x = omega arith in
        let b : offset_of l x + 0 ≡ offset_of l x = omega arith in
        rw (a, b) (this, refl)
    go (suc k) less = absurd (omega arith)

-- a part with the place before it
longer_part : (l : Layout) → IsLayout l → (n x : ℕ) (p : Part) → object_of l x ≡ n → x + 1 ≡ p.at → IsPart l n p → IsPart l n (part_at l x (p.len + 1))
longer_part l h n x p this touch is = record {
  some = omega arith;
  within = omega (arith, is.within, begins);
  lies = λ k less. go k less;
}
  where
    first : (object_of l p.at ≡ n) × (offset_of l p.at ≡ p.offset)
    first =
        let a : p.at + 0 ≡ p.at = omega arith in
        let b : p.offset + 0 ≡ p.offset = omega arith in
        rw (a, b) at (is.lies 0 is.some)

    begins : p.offset ≡ offset_of l x + 1
    begins =
        let object : object_of l x ≡ object_of l (x + 1) = this ∙ sym first.0 ∙ ap (object_of l) (sym touch) in
        sym first.1 ∙ ap (offset_of l) (sym touch) ∙ next_offset l h x object

    go : (k : ℕ) → k < p.len + 1 → (object_of l (x + k) ≡ n) × (offset_of l (x + k) ≡ offset_of l x + k)
    go zero less =
        let a : x + 0 ≡ x = omega arith in
        let b : offset_of l x + 0 ≡ offset_of l x = omega arith in
        rw (a, b) (this, refl)
    go (suc k) less =
        let a : x + suc k ≡ p.at + k = omega arith in
        let b : offset_of l x + suc k ≡ p.offset + k = omega (arith, begins) in
        rw (a, b) (is.lies k (omega arith))

-- the first place of parts is the first one's
first_above : (x len a : ℕ) (ys : List ℕ) → 0 < len → Above x (range_with_len a len ++ ys) → x < a
first_above x zero a ys some above = absurd (omega arith)
first_above x (suc len) a ys some above = above

place_more : (l : Layout) → IsLayout l → (n x : ℕ) (xs : List ℕ) (parts : List Part) → object_of l x ≡ n → Above x xs → Listed l n xs parts → Listed l n (x ∷ xs) (with_place l x parts)
place_more l h n x xs [] this above is = record {
  each = All-cons (IsPart l n) (part_at l x 1) [] (one_part l h n x this) is.each;
  cover = ap (λ ys. x ∷ ys) is.cover;
  apart = AllPairs-cons (λ p q. p.at + p.len < q.at) (part_at l x 1) [] (All-nil (λ q. x + 1 < q.at)) is.apart;
}
place_more l h n x xs (p ∷ parts) this above is = go (eqb_tells (x + 1) p.at)
  where
    head : IsPart l n p
    head = All-head (IsPart l n) p parts is.each

    tail : All (IsPart l n) parts
    tail = All-tail (IsPart l n) p parts is.each

    far : All (λ q. p.at + p.len < q.at) parts
    far = AllPairs-head (λ p q. p.at + p.len < q.at) p parts is.apart

    below : x < p.at
    below = first_above x p.len p.at (flat_map places_of parts) head.some (subst (Above x) (sym is.cover) above)

    joined : x + 1 ≡ p.at → range_with_len x (p.len + 1) ++ flat_map places_of parts ≡ x ∷ xs
    joined touch =
        let more : p.len + 1 ≡ suc p.len = omega arith in
        rw (more, touch) (ap (λ ys. x ∷ ys) is.cover)

    farther : (k : ℕ) → k ≤ p.at + p.len → All (λ q. k < q.at) parts
    farther k le = All-weaker (λ q. p.at + p.len < q.at) (λ q. k < q.at) (λ q less. omega (arith, le)) parts far

    go : ((x + 1 == p.at ≡ true) × (x + 1 ≡ p.at)) ⊎ ((x + 1 == p.at ≡ false) × (x + 1 ≢ p.at)) → Listed l n (x ∷ xs) (with_place l x (p ∷ parts))
    go (inl (is_true, touch)) = rw is_true (record {
      each = All-cons (IsPart l n) (part_at l x (p.len + 1)) parts (longer_part l h n x p this touch head) tail;
      cover = joined touch;
      apart = AllPairs-cons (λ p q. p.at + p.len < q.at) (part_at l x (p.len + 1)) parts (farther (x + (p.len + 1)) (omega arith))
          (AllPairs-tail (λ p q. p.at + p.len < q.at) p parts is.apart);
    })
    go (inr (is_false, gap)) = rw is_false (record {
      each = All-cons (IsPart l n) (part_at l x 1) (p ∷ parts) (one_part l h n x this) is.each;
      cover = ap (λ ys. x ∷ ys) is.cover;
      apart = AllPairs-cons (λ p q. p.at + p.len < q.at) (part_at l x 1) (p ∷ parts)
          (All-cons (λ q. x + 1 < q.at) p parts (omega (arith, below, gap)) (farther (x + 1) (omega (arith, below)))) is.apart;
    })

-- a number below each of a list's is below its first
first_is_above : (k : ℕ) (xs : List ℕ) → ((y : ℕ) → Among y xs → k < y) → Above k xs
first_is_above k [] each = tt
first_is_above k (x ∷ xs) each = each x (inl refl)

listed_at : (l : Layout) → IsLayout l → (n a len : ℕ) → Listed l n (filter (λ x. object_of l x == n) (range_with_len a len)) (parts_at l (filter (λ x. object_of l x == n) (range_with_len a len)))
listed_at l h n a zero = record {
  each = All-nil (IsPart l n);
  cover = refl;
  apart = λ i j d _ less. absurd (not-suc-le-zero less);
}
listed_at l h n a (suc len) = go (eqb_tells (object_of l a) n) (listed_at l h n (a + 1) len)
  where
    above : Above a (filter (λ x. object_of l x == n) (range_with_len (a + 1) len))
    above = first_is_above a (filter (λ x. object_of l x == n) (range_with_len (a + 1) len)) each
      where
        each : (y : ℕ) → Among y (filter (λ x. object_of l x == n) (range_with_len (a + 1) len)) → a < y
        each y among =
            let in_range = filter_among (λ x. object_of l x == n) y (range_with_len (a + 1) len) among in
            let bounds = range_bounds y (a + 1) len in_range.0 in
            omega (arith, bounds.0)

    go : ((object_of l a == n ≡ true) × (object_of l a ≡ n)) ⊎ ((object_of l a == n ≡ false) × (object_of l a ≢ n))
        → Listed l n (filter (λ x. object_of l x == n) (range_with_len (a + 1) len)) (parts_at l (filter (λ x. object_of l x == n) (range_with_len (a + 1) len)))
        → Listed l n (filter (λ x. object_of l x == n) (a ∷ range_with_len (a + 1) len)) (parts_at l (filter (λ x. object_of l x == n) (a ∷ range_with_len (a + 1) len)))
    go (inl (is_true, this)) rec = rw is_true (place_more l h n a (filter (λ x. object_of l x == n) (range_with_len (a + 1) len)) (parts_at l (filter (λ x. object_of l x == n) (range_with_len (a + 1) len))) this above rec)
    go (inr (is_false, other)) rec = rw is_false rec

pub parts_listed : (l : Layout) → IsLayout l → (e : Extent) (object : ℕ) → IsPartsOf l e object (parts_at l (places_in l e object))
parts_listed l h e object =
    let listed = listed_at l h object e.at e.len in
    record { each = listed.each; cover = listed.cover; apart = listed.apart }

-- ---- pieces

-- the pieces of objects that come one after another
ascending_pieces : (l : Layout) (e : Extent) (a n : ℕ) → AllPairs (λ p q. p.object < q.object) (map (piece_in l e) (range_with_len a n))
ascending_pieces l e a zero = λ i j d _ less. absurd (not-suc-le-zero less)
ascending_pieces l e a (suc n) =
    AllPairs-cons (λ p q. p.object < q.object) (piece_in l e a) (map (piece_in l e) (range_with_len (a + 1) n)) (above (a + 1) n (omega arith)) (ascending_pieces l e (a + 1) n)
  where
    above : (b m : ℕ) → a < b → All (λ q. a < q.object) (map (piece_in l e) (range_with_len b m))
    above b zero less = All-nil (λ q. a < q.object)
    above b (suc m) less = All-cons (λ q. a < q.object) (piece_in l e b) (map (piece_in l e) (range_with_len (b + 1) m)) less (above (b + 1) m (omega (arith, less)))

-- where an object has places, it has parts
placed : (l : Layout) (xs : List ℕ) (parts : List Part) (x : ℕ) → Among x xs → flat_map places_of parts ≡ xs → 0 < length parts
placed l xs [] x among is = absurd (subst (λ (ys : List ℕ). Among x ys) (sym is) among)
placed l xs (p ∷ parts) x among is = omega arith

-- the piece of an object among those of a range of objects
piece_listed : (l : Layout) (e : Extent) (n a len : ℕ) → is_touched (piece_in l e n) ≡ true → a ≤ n → n < a + len → Any (λ p. p.object ≡ n) (filter is_touched (map (piece_in l e) (range_with_len a len)))
piece_listed l e n a zero touched le less = absurd (omega arith)
piece_listed l e n a (suc len) touched le less = go (cases_lt a n) (piece_listed l e n (a + 1) len touched)
  where
    kept : (b : Bool) (p : Piece) (ps : List Piece) → Any (λ p. p.object ≡ n) ps → Any (λ p. p.object ≡ n) (cond b (p ∷ ps) ps)
    kept true p ps any = Any-there (λ p. p.object ≡ n) p ps any
    kept false p ps any = any

    go : (a < n) ⊎ ((a ≡ n) ⊎ (n < a)) → (a + 1 ≤ n → n < a + 1 + len → Any (λ p. p.object ≡ n) (filter is_touched (map (piece_in l e) (range_with_len (a + 1) len))))
        → Any (λ p. p.object ≡ n) (filter is_touched (piece_in l e a ∷ map (piece_in l e) (range_with_len (a + 1) len)))
    go (inl lt) rec = kept (is_touched (piece_in l e a)) (piece_in l e a) (filter is_touched (map (piece_in l e) (range_with_len (a + 1) len))) (rec (omega arith) (omega arith))
    go (inr (inl same)) rec =
        let this : is_touched (piece_in l e a) ≡ true = ap (λ (k : ℕ). is_touched (piece_in l e k)) same ∙ touched in
        rw this (Any-here (λ p. p.object ≡ n) (piece_in l e a) (filter is_touched (map (piece_in l e) (range_with_len (a + 1) len))) same)
    go (inr (inr gt)) rec = absurd (omega arith)

-- where the objects that an extent touches are among some, its pieces are theirs
pub pieces_are_among : (l : Layout) → IsLayout l → (e : Extent) (first many : ℕ)
    → ((x : ℕ) → IsWithin e x → (first ≤ object_of l x) × (object_of l x < first + many)) → IsPieces l e (pieces_among l e first many)
pieces_are_among l h e first many inside = record {
  parts = All-filter is_touched (λ p. IsPartsOf l e p.object p.parts) (map (piece_in l e) objects)
      (All-map (λ p. IsPartsOf l e p.object p.parts) (piece_in l e) objects (λ k d _. parts_listed l h e (get_or objects k d)));
  touched = All-weaker (λ p. is_touched p ≡ true) (λ p. 0 < length p.parts) (λ p is. grind (arith, nat_tests)) (pieces_among l e first many) (filter_passes is_touched (map (piece_in l e) objects));
  ascending = AllPairs-filter (λ p q. p.object < q.object) is_touched (map (piece_in l e) objects) (ascending_pieces l e first many);
  whole = λ x within. piece_listed l e (object_of l x) first many (touched x within) (inside x within).0 (inside x within).1;
}
  where
    objects : List ℕ
    objects = range_with_len first many

    touched : (x : ℕ) → IsWithin e x → is_touched (piece_in l e (object_of l x)) ≡ true
    touched x within =
        let some : 0 < length (parts_at l (places_in l e (object_of l x))) =
        placed l (places_in l e (object_of l x)) (parts_at l (places_in l e (object_of l x))) x (place_among l e (object_of l x) x within.0 within.1 refl) (parts_listed l h e (object_of l x)).cover in
        grind (arith, nat_tests)

pub pieces_listed : (l : Layout) → IsLayout l → (e : Extent) → IsPieces l e (pieces_of l e)
pieces_listed l h e = pieces_are_among l h e 0 (e.at + e.len) (λ x within. (omega arith, omega (arith, number x, within.1)))
  where
    number : (x : ℕ) → object_of l x ≤ x
    number x =
        let s = shape_of l h in
        let product : object_of l x * l.unit ≤ x = number_bounded l h x in
        let unit : 1 ≤ l.unit = omega (arith, s.unit_least) in
        let times : object_of l x * 1 ≤ object_of l x * l.unit = mul-le-mul_left (object_of l x) unit in
        omega (arith, product, times)

pub pieces_of_alone : (l : Layout) → IsLayout l → (e : Extent) (pieces : List Piece) → IsPieces l e pieces → pieces ≡ pieces_of l e
pieces_of_alone l h e pieces are = pieces_once l e pieces (pieces_of l e) are (pieces_listed l h e)

pub objects_between : (l : Layout) → IsLayout l → (e : Extent) (end : ℕ) → IsObjectCount l (e.at + e.len) end
    → pieces_of l e ≡ pieces_among l e (first_object l e) (end - first_object l e)
objects_between l h e end count =
    sym (pieces_of_alone l h e (pieces_among l e (first_object l e) (end - first_object l e)) (pieces_are_among l h e (first_object l e) (end - first_object l e) inside))
  where
    inside : (x : ℕ) → IsWithin e x → (first_object l e ≤ object_of l x) × (object_of l x < first_object l e + (end - first_object l e))
    inside x within =
        let low : first_object l e ≤ object_of l x = first_before l h e x within.0 in
        let below : object_of l x < end = count.each x within.1 in
        (low, omega arith)

-- the objects of pieces
abbrev pub numbers : List Piece → List ℕ
numbers pieces = map (λ (p : Piece). p.object) pieces

pub pieces_again : (l : Layout) (e : Extent) (first many : ℕ) → map (piece_in l e) (numbers (pieces_among l e first many)) ≡ pieces_among l e first many
pieces_again l e first zero = refl
pieces_again l e first (suc many) = go (is_touched (piece_in l e first)) (pieces_again l e (first + 1) many)
  where
    behind : List Piece
    behind = pieces_among l e (first + 1) many

    go : (b : Bool) → map (piece_in l e) (numbers behind) ≡ behind
        → map (piece_in l e) (numbers (cond b (piece_in l e first ∷ behind) behind)) ≡ cond b (piece_in l e first ∷ behind) behind
    go true rest = ap (λ (ps : List Piece). piece_in l e first ∷ ps) rest
    go false rest = rest

-- the pieces from an object on, by whether the extent touches it
pub next_object : (l : Layout) (e : Extent) (object end : ℕ) → object < end
    → pieces_among l e object (end - object)
    ≡ cond (is_touched (piece_in l e object)) (piece_in l e object ∷ pieces_among l e (object + 1) (end - (object + 1))) (pieces_among l e (object + 1) (end - (object + 1)))
next_object l e object end less =
    let more : end - object ≡ suc (end - (object + 1)) = omega arith in
    rw more refl

pub no_object_left : (l : Layout) (e : Extent) (object end : ℕ) → end ≤ object → pieces_among l e object (end - object) ≡ []
no_object_left l e object end done =
    let none : end - object ≡ 0 = omega arith in
    rw none refl

-- ---- what sums of bytes tell

some_places : (a len : ℕ) (xs : List ℕ) → 0 < len → range_with_len a len ++ xs ≡ [] → ⊥
some_places a zero xs some none = omega arith
some_places a (suc len) xs some none = omega (arith, ap length none)

pub touched_by_bytes : (l : Layout) → IsLayout l → (e : Extent) (object : ℕ) → is_touched (piece_in l e object) ≡ nat_lt 0 (length (places_in l e object))
touched_by_bytes l h e object = go (parts_at l (places_in l e object)) (places_in l e object) (parts_listed l h e object).each (parts_listed l h e object).cover
  where
    go : (parts : List Part) (xs : List ℕ) → All (IsPart l object) parts → flat_map places_of parts ≡ xs → nat_lt 0 (length parts) ≡ nat_lt 0 (length xs)
    go [] xs each cover = ap (λ (ys : List ℕ). nat_lt 0 (length ys)) cover
    go (p ∷ parts) [] each cover = absurd (some_places p.at p.len (flat_map places_of parts) (All-head (IsPart l object) p parts each).some cover)
    go (p ∷ parts) (x ∷ xs) each cover =
        let some : nat_lt 0 (length (p ∷ parts)) ≡ true = grind (arith, nat_tests) in
        let others : nat_lt 0 (length (x ∷ xs)) ≡ true = grind (arith, nat_tests) in
        some ∙ sym others

nothing : (xs : List ℕ) → length xs ≡ 0 → xs ≡ []
nothing [] none = refl
nothing (x ∷ xs) none = absurd (omega arith)

-- an extent within a size that has as many bytes of an object has them all
pub all_places : (l : Layout) (e : Extent) (size object : ℕ) → e.at + e.len ≤ size
    → length (places_in l e object) ≡ length (places_in l (record { at = 0; len = size }) object)
    → places_in l e object ≡ places_in l (record { at = 0; len = size }) object
all_places l e size object within same =
    ap (λ xs. xs ++ places_in l e object) (sym (nothing before (omega (arith, sums))))
    ∙ sym (append-nil (before ++ places_in l e object))
    ∙ ap (λ xs. (before ++ places_in l e object) ++ xs) (sym (nothing behind (omega (arith, sums))))
    ∙ sym split
  where
    own : List ℕ → List ℕ
    own xs = filter (λ x. object_of l x == object) xs

    before : List ℕ
    before = own (range_with_len 0 e.at)

    behind : List ℕ
    behind = own (range_with_len (e.at + e.len) (size - (e.at + e.len)))

    ranges : range_with_len 0 size ≡ (range_with_len 0 e.at ++ range_with_len e.at e.len) ++ range_with_len (e.at + e.len) (size - (e.at + e.len))
    ranges =
        let rest : ℕ = size - (e.at + e.len) in
        let all : size ≡ (e.at + e.len) + rest = omega arith in
        let begin : 0 + e.at ≡ e.at = omega arith in
        let end : 0 + (e.at + e.len) ≡ e.at + e.len = omega arith in
        ap (range_with_len 0) all
        ∙ range_append 0 (e.at + e.len) rest
        ∙ ap (λ (x : ℕ). range_with_len 0 (e.at + e.len) ++ range_with_len x rest) end
        ∙ ap (λ xs. xs ++ range_with_len (e.at + e.len) rest)
        (range_append 0 e.at e.len ∙ ap (λ (x : ℕ). range_with_len 0 e.at ++ range_with_len x e.len) begin)

    split : places_in l (record { at = 0; len = size }) object ≡ (before ++ places_in l e object) ++ behind
    split =
        ap own ranges
        ∙ filter-append (λ x. object_of l x == object) (range_with_len 0 e.at ++ range_with_len e.at e.len) (range_with_len (e.at + e.len) (size - (e.at + e.len)))
        ∙ ap (λ xs. xs ++ behind) (filter-append (λ x. object_of l x == object) (range_with_len 0 e.at) (range_with_len e.at e.len))

    sums : (length before + length (places_in l e object)) + length behind ≡ length (places_in l e object)
    sums =
        ap (λ n. n + length behind) (sym (length-append before (places_in l e object)))
        ∙ sym (length-append (before ++ places_in l e object) behind)
        ∙ sym (ap length split)
        ∙ sym same

-- ---- the objects, found one after another

module _ (l : Layout) (is : IsLayout l) (e : Extent) (object end : ℕ) (so_far : List ℕ) where
  -- the objects that are left to find behind this one
  abbrev behind_it : List ℕ
  behind_it = numbers (pieces_among l e (object + 1) (end - (object + 1)))

  next_number : (b : Bool) → object < end → is_touched (piece_in l e object) ≡ b
      → numbers (pieces_among l e object (end - object)) ≡ cond b (object ∷ behind_it) behind_it
  next_number b less touched =
      ap numbers (next_object l e object end less
      ∙ ap (λ t. cond t (piece_in l e object ∷ pieces_among l e (object + 1) (end - (object + 1))) (pieces_among l e (object + 1) (end - (object + 1)))) touched)
      ∙ by b
    where
      by : (b : Bool) → numbers (cond b (piece_in l e object ∷ pieces_among l e (object + 1) (end - (object + 1))) (pieces_among l e (object + 1) (end - (object + 1))))
          ≡ cond b (object ∷ behind_it) behind_it
      by true = refl
      by false = refl

  pub found : object < end → (bytes : ℕ) → bytes ≡ length (places_in l e object) → 0 < bytes
      → (so_far ++ object ∷ []) ++ numbers (pieces_among l e (object + 1) (end - (object + 1))) ≡ so_far ++ numbers (pieces_among l e object (end - object))
  found less bytes are some =
      let counted : nat_lt 0 (length (places_in l e object)) ≡ true = grind (arith, nat_tests, are) in
      let touched : is_touched (piece_in l e object) ≡ true = touched_by_bytes l is e object ∙ counted in
      append_assoc so_far (object ∷ []) behind_it ∙ ap (λ xs. so_far ++ xs) (sym (next_number true less touched))

  pub passed : object < end → (bytes : ℕ) → bytes ≡ length (places_in l e object) → bytes ≤ 0
      → so_far ++ numbers (pieces_among l e (object + 1) (end - (object + 1))) ≡ so_far ++ numbers (pieces_among l e object (end - object))
  passed less bytes are none =
      let nothing_there : length (places_in l e object) ≡ 0 = omega (arith, are) in
      let touched : is_touched (piece_in l e object) ≡ false = touched_by_bytes l is e object ∙ ap (nat_lt 0) nothing_there in
      ap (λ xs. so_far ++ xs) (sym (next_number false less touched))

pub none_found : (l : Layout) (e : Extent) (object end : ℕ) (so_far : List ℕ) → end ≤ object
    → so_far ++ numbers (pieces_among l e object (end - object)) ≡ so_far
none_found l e object end so_far done =
    ap (λ pieces. so_far ++ numbers pieces) (no_object_left l e object end done) ∙ append-nil so_far

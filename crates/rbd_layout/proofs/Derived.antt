-- The laws that the layers above rely on.
use Rattle.std.proofs.Common.{◌≡◌, ℕ, zero, suc, ◌+◌, ◌-◌, ◌*◌, ◌/◌, ◌%◌, ◌<◌, ◌≤◌, ◌⊎◌, ◌↔◌, inl, inr, refl, sym, ap, ◌∙◌, subst, arith, List, [], ◌∷◌, ◌++◌, get_or}
use Rattle.std.specs.Prelude.{AllPairs, Any}
use Rattle.std.specs.List.{flat_map}
use Rattle.std.proofs.lemmas.Nat.{div-add-mod'}
use Rattle.rbd_kinds.specs.declared.layout.Layout.{Layout}
use Rattle.rbd_kinds.specs.declared.layout.Part.{Part}
use Rattle.rbd_kinds.specs.declared.layout.Extent.{Extent}
use Rattle.rbd_kinds.specs.Striping.{IsLayout, IsObjectCount, units_per_object, object_of, offset_of, byte_at}
use Rattle.rbd_layout.specs.declared.types.Piece.{Piece}
use Rattle.rbd_layout.specs.Pieces.{IsIn, IsInPiece, IsPart, IsPartsOf, IsPieces, IsWithin, places_of}
use Rattle.rbd_layout.proofs.Limits.{shape_of}
use Rattle.rbd_layout.proofs.Mixed.{cases_lt, div_mono, set_lt, position_first}
use Rattle.rbd_layout.proofs.Places.{byte_of_place, object_of_byte, offset_within, ascends_back, first_at_most, first_below}
use Rattle.rbd_layout.proofs.Gather.{Among, Among-range, range_bounds, place_among, among_place}
use Rattle.rbd_layout.proofs.Unique.{part_offset}

pub byte_in_object : (l : Layout) → IsLayout l → (size object x : ℕ)
    → ((x < size) × (object_of l x ≡ object)) ↔ ((offset : ℕ) × (offset < l.object) × (byte_at l object offset ≡ x) × (x < size))
byte_in_object l h size object x = (
  (λ (less, this). (offset_of l x, offset_within l h x, ap (λ k. byte_at l k (offset_of l x)) (sym this) ∙ byte_of_place l h x, less)),
  (λ (o, inside, here, less). (less, sym (ap (object_of l) here) ∙ object_of_byte l h object o inside)),
)

pub first_decides : (l : Layout) → IsLayout l → (object below : ℕ)
    → ((offset : ℕ) × (offset < l.object) × (byte_at l object offset < below)) ↔ (byte_at l object 0 < below)
first_decides l h object below = (
  (λ (o, inside, less). omega (arith, first_at_most l h object o)),
  (λ less. (0, (let s = shape_of l h in let g : 0 < l.object = omega (arith, s.object_least) in g), less)),
)

-- a later object's first byte is later
firsts_ascend : (l : Layout) → IsLayout l → (n m : ℕ) → n ≤ m → byte_at l n 0 ≤ byte_at l m 0
firsts_ascend l h n m le = sets (cases_lt (n / l.count) (m / l.count))
  where
    unit : 0 < l.unit
    unit = let s = shape_of l h in omega (arith, s.unit_least)

    some : 0 < l.count
    some = let s = shape_of l h in omega (arith, s.count_least)

    start : 0 < units_per_object l * l.unit
    start = let s = shape_of l h in omega (arith, s.whole, s.object_least)

    positions : n / l.count ≡ m / l.count → (n % l.count < m % l.count) ⊎ ((n % l.count ≡ m % l.count) ⊎ (m % l.count < n % l.count)) → byte_at l n 0 ≤ byte_at l m 0
    positions e (inl lt) =
        let less : byte_at l n 0 < byte_at l m 0 = position_first l.unit l.count (units_per_object l) n 0 m 0 unit e refl lt in
        omega arith
    positions e (inr (inl same)) =
        let a : n / l.count * l.count + n % l.count ≡ n = div-add-mod' n l.count in
        let b : m / l.count * l.count + m % l.count ≡ m = div-add-mod' m l.count in
        let c : n / l.count * l.count ≡ m / l.count * l.count = ap (λ k. k * l.count) e in
        let one : n ≡ m = omega arith in
        let bytes : byte_at l n 0 ≡ byte_at l m 0 = ap (λ k. byte_at l k 0) one in
        omega arith
    positions e (inr (inr gt)) =
        let a : n / l.count * l.count + n % l.count ≡ n = div-add-mod' n l.count in
        let b : m / l.count * l.count + m % l.count ≡ m = div-add-mod' m l.count in
        let c : n / l.count * l.count ≡ m / l.count * l.count = ap (λ k. k * l.count) e in
        absurd (omega (arith, le))

    sets : (n / l.count < m / l.count) ⊎ ((n / l.count ≡ m / l.count) ⊎ (m / l.count < n / l.count)) → byte_at l n 0 ≤ byte_at l m 0
    sets (inl lt) =
        let less : byte_at l n 0 < byte_at l m 0 = set_lt l.unit l.count (units_per_object l) n 0 m 0 unit some lt start in
        omega arith
    sets (inr (inl e)) = positions e (cases_lt (n % l.count) (m % l.count))
    sets (inr (inr gt)) = let up : n / l.count ≤ m / l.count = div_mono l.count n m some le in absurd (omega arith)

pub counted_begin : (l : Layout) → IsLayout l → (size count object : ℕ) → IsObjectCount l size count → (object < count) ↔ (byte_at l object 0 < size)
counted_begin l h size count object is = (forth (cases_lt 0 size), back)
  where
    back : byte_at l object 0 < size → object < count
    back less =
        let s = shape_of l h in
        let e : object_of l (byte_at l object 0) ≡ object = object_of_byte l h object 0 (omega (arith, s.object_least)) in
        let below : object_of l (byte_at l object 0) < count = is.each (byte_at l object 0) less in
        omega arith

    forth : (0 < size) ⊎ ((0 ≡ size) ⊎ (size < 0)) → object < count → byte_at l object 0 < size
    forth (inl some) less =
        let greatest = is.greatest some in
        let last : object_of l greatest.0 + 1 ≡ count = greatest.2 in
        let up : byte_at l object 0 ≤ byte_at l (object_of l greatest.0) 0 = firsts_ascend l h object (object_of l greatest.0) (omega arith) in
        let low : byte_at l (object_of l greatest.0) 0 ≤ greatest.0 = first_below l h greatest.0 in
        let inside : greatest.0 < size = greatest.1 in
        omega arith
    forth (inr (inl none)) less = let zero_ : count ≡ 0 = is.none (sym none) in absurd (omega arith)
    forth (inr (inr gt)) less = absurd (omega arith)

-- ---- parts

pub Any-here : {X : Type 0} (P : X → Type 0) (x : X) (xs : List X) → P x → Any P (x ∷ xs)
Any-here P x xs h = (0, x, omega arith, refl, h)

pub Any-there : {X : Type 0} (P : X → Type 0) (x : X) (xs : List X) → Any P xs → Any P (x ∷ xs)
Any-there P x xs (k, y, less, is, h) = (suc k, y, omega arith, is, h)

Any-cases : {X : Type 0} (P : X → Type 0) (x : X) (xs : List X) → Any P (x ∷ xs) → P x ⊎ Any P xs
Any-cases P x xs (zero, y, less, is, h) = inl (subst P (sym is) h)
Any-cases P x xs (suc k, y, less, is, h) = inr (k, y, omega arith, is, h)

pub Any-none : {X : Type 0} (P : X → Type 0) → Any P [] → ⊥
Any-none P (k, y, less, is, h) = omega arith

Among-append_left : (x : ℕ) (xs ys : List ℕ) → Among x xs → Among x (xs ++ ys)
Among-append_left x [] ys h = absurd h
Among-append_left x (y ∷ xs) ys (inl e) = inl e
Among-append_left x (y ∷ xs) ys (inr h) = inr (Among-append_left x xs ys h)

Among-append_right : (x : ℕ) (xs ys : List ℕ) → Among x ys → Among x (xs ++ ys)
Among-append_right x [] ys h = h
Among-append_right x (y ∷ xs) ys h = inr (Among-append_right x xs ys h)

Among-append_cases : (x : ℕ) (xs ys : List ℕ) → Among x (xs ++ ys) → Among x xs ⊎ Among x ys
Among-append_cases x [] ys h = inr h
Among-append_cases x (y ∷ xs) ys (inl e) = inl (inl e)
Among-append_cases x (y ∷ xs) ys (inr h) = go (Among-append_cases x xs ys h)
  where
    go : Among x xs ⊎ Among x ys → ((x ≡ y) ⊎ Among x xs) ⊎ Among x ys
    go (inl a) = inl (inr a)
    go (inr b) = inr b

held_among : (x : ℕ) (ps : List Part) → Any (IsIn x) ps → Among x (flat_map places_of ps)
held_among x [] h = absurd (Any-none (IsIn x) h)
held_among x (p ∷ ps) h = go (Any-cases (IsIn x) p ps h) (held_among x ps)
  where
    go : IsIn x p ⊎ Any (IsIn x) ps → (Any (IsIn x) ps → Among x (flat_map places_of ps)) → Among x (places_of p ++ flat_map places_of ps)
    go (inl (le, less)) rec = Among-append_left x (places_of p) (flat_map places_of ps) (Among-range x p.at p.len le less)
    go (inr later) rec = Among-append_right x (places_of p) (flat_map places_of ps) (rec later)

among_held : (x : ℕ) (ps : List Part) → Among x (flat_map places_of ps) → Any (IsIn x) ps
among_held x [] h = absurd h
among_held x (p ∷ ps) h = go (Among-append_cases x (places_of p) (flat_map places_of ps) h) (among_held x ps)
  where
    go : Among x (places_of p) ⊎ Among x (flat_map places_of ps) → (Among x (flat_map places_of ps) → Any (IsIn x) ps) → Any (IsIn x) (p ∷ ps)
    go (inl a) rec = Any-here (IsIn x) p ps (range_bounds x p.at p.len a)
    go (inr b) rec = Any-there (IsIn x) p ps (rec b)

pub parts_cover : (l : Layout) (e : Extent) (object : ℕ) (parts : List Part) → IsPartsOf l e object parts → (x : ℕ)
    → Any (IsIn x) parts ↔ (IsWithin e x × (object_of l x ≡ object))
parts_cover l e object parts are x = (
  (λ any.
      let facts = among_place l e object x (subst (λ xs. Among x xs) are.cover (held_among x parts any)) in
      ((facts.0, facts.1), facts.2)),
  (λ (within, this). among_held x parts (subst (λ xs. Among x xs) (sym are.cover) (place_among l e object x within.0 within.1 this))),
)

-- in the object too a later part lies further on
pub parts_ascend : (l : Layout) → IsLayout l → (e : Extent) (object : ℕ) (parts : List Part) → IsPartsOf l e object parts
    → AllPairs (λ p q. p.offset + p.len ≤ q.offset) parts
parts_ascend l h e object parts are i j d before less =
    ordered (get_or parts i d) (get_or parts j d) (are.each i d (omega arith)) (are.each j d less) (are.apart i j d before less)
  where
    ordered : (p q : Part) → IsPart l object p → IsPart l object q → p.at + p.len < q.at → p.offset + p.len ≤ q.offset
    ordered p q is_p is_q apart =
        let some : 0 < p.len = is_p.some in
        let last = is_p.lies (p.len - 1) (omega arith) in
        let offset : offset_of l (p.at + (p.len - 1)) ≡ p.offset + (p.len - 1) = last.1 in
        let here : byte_at l object (p.offset + (p.len - 1)) ≡ p.at + (p.len - 1) =
        sym (ap (λ k. byte_at l object k) offset) ∙ sym (ap (λ k. byte_at l k (offset_of l (p.at + (p.len - 1)))) last.0) ∙ byte_of_place l h (p.at + (p.len - 1)) in
        let first : object_of l (q.at + 0) ≡ object = (is_q.lies 0 is_q.some).0 in
        let at_q : q.at + 0 ≡ q.at = omega arith in
        let object_q : object_of l q.at ≡ object = rw at_q at first in
        let there : byte_at l object q.offset ≡ q.at =
        sym (ap (λ k. byte_at l object k) (part_offset l object q is_q)) ∙ sym (ap (λ k. byte_at l k (offset_of l q.at)) object_q) ∙ byte_of_place l h q.at in
        let less_ : byte_at l object (p.offset + (p.len - 1)) < byte_at l object q.offset = omega arith in
        let offsets : p.offset + (p.len - 1) < q.offset = ascends_back l h object (p.offset + (p.len - 1)) q.offset less_ in
        omega arith

-- ---- pieces

pub pieces_cover : (l : Layout) (e : Extent) (pieces : List Piece) → IsPieces l e pieces → (x : ℕ)
    → Any (IsInPiece x) pieces ↔ IsWithin e x
pieces_cover l e pieces are x = (forth, back)
  where
    forth : Any (IsInPiece x) pieces → IsWithin e x
    forth (k, piece, less, is, any) =
        let parts : IsPartsOf l e piece.object piece.parts = subst (λ (p : Piece). IsPartsOf l e p.object p.parts) is (are.parts k piece less) in
        ((parts_cover l e piece.object piece.parts parts x).0 any).0

    back : IsWithin e x → Any (IsInPiece x) pieces
    back within = go (are.whole x within)
      where
        go : Any (λ p. p.object ≡ object_of l x) pieces → Any (IsInPiece x) pieces
        go (k, piece, less, is, this) =
            let parts : IsPartsOf l e piece.object piece.parts = subst (λ (p : Piece). IsPartsOf l e p.object p.parts) is (are.parts k piece less) in
            (k, piece, less, is, (parts_cover l e piece.object piece.parts parts x).1 (within, sym this))

-- ---- no byte in two places

pub in_one_part : (l : Layout) (e : Extent) (object : ℕ) (parts : List Part) → IsPartsOf l e object parts → (x : ℕ)
    → AllPairs (λ p q. IsIn x p → IsIn x q → ⊥) parts
in_one_part l e object parts are x i j d before less some other =
    let apart = are.apart i j d before less in
    let below : x < (get_or parts i d).at + (get_or parts i d).len = some.1 in
    let above : (get_or parts j d).at ≤ x = other.0 in
    omega arith

pub in_one_piece : (l : Layout) (e : Extent) (pieces : List Piece) → IsPieces l e pieces → (x : ℕ)
    → AllPairs (λ p q. IsInPiece x p → IsInPiece x q → ⊥) pieces
in_one_piece l e pieces are x i j d before less some other =
    let p : Piece = get_or pieces i d in
    let q : Piece = get_or pieces j d in
    let there : object_of l x ≡ p.object = ((parts_cover l e p.object p.parts (are.parts i d (omega arith)) x).0 some).1 in
    let here : object_of l x ≡ q.object = ((parts_cover l e q.object q.parts (are.parts j d less) x).0 other).1 in
    let rising : p.object < q.object = are.ascending i j d before less in
    omega arith

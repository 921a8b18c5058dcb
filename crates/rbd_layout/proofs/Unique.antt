-- The pieces of an extent are one list.
use Rattle.std.proofs.Common.{◌≡◌, ℕ, zero, suc, ◌+◌, ◌<◌, ◌≤◌, ◌⊎◌, inl, inr, refl, sym, ap, ◌∙◌, subst, arith, List, [], ◌∷◌, ◌++◌, map, length, get_or}
use Rattle.std.specs.Prelude.{All, AllPairs, Any}
use Rattle.std.specs.List.{range_with_len, flat_map}
use Rattle.std.proofs.lemmas.List.Elements.{All-head, All-tail}
use Rattle.rbd_kinds.specs.declared.layout.Layout.{Layout}
use Rattle.rbd_kinds.specs.declared.layout.Part.{Part}
use Rattle.rbd_kinds.specs.declared.layout.Extent.{Extent}
use Rattle.rbd_kinds.specs.Striping.{object_of, offset_of}
use Rattle.rbd_layout.specs.declared.types.Piece.{Piece}
use Rattle.rbd_layout.specs.Pieces.{IsPart, IsPartsOf, IsPieces, places_of}
use Rattle.rbd_layout.proofs.Gather.{Among, among_place}

-- ---- one list of runs

-- a list's first number, if it has one, is above k
abbrev pub Above : ℕ → List ℕ → Type 0
Above k [] = Unit {0}
Above k (x ∷ xs) = k < x

-- two runs that end where the next number is above are one run
runs_once : (m n a b : ℕ) (xs ys : List ℕ) → Above (a + suc m) xs → Above (b + suc n) ys
    → range_with_len a (suc m) ++ xs ≡ range_with_len b (suc n) ++ ys → (a ≡ b) × (m ≡ n) × (xs ≡ ys)
runs_once zero zero a b xs ys _ _ e = (cc, refl, cc)
runs_once zero (suc n) a b [] ys above _ e = absurd (cc)
runs_once zero (suc n) a b (x ∷ xs) ys above _ e =
    let first : a ≡ b = cc in
    let next : x ≡ b + 1 = cc in
    absurd (omega arith)
runs_once (suc m) zero a b xs [] _ above e = absurd (cc)
runs_once (suc m) zero a b xs (y ∷ ys) _ above e =
    let first : a ≡ b = cc in
    let next : a + 1 ≡ y = cc in
    absurd (omega arith)
runs_once (suc m) (suc n) a b xs ys above_x above_y e =
    let first : a ≡ b = cc in
    let rest : range_with_len (a + 1) (suc m) ++ xs ≡ range_with_len (b + 1) (suc n) ++ ys = cc in
    let ax : a + suc (suc m) ≡ a + 1 + suc m = omega arith in
    let by : b + suc (suc n) ≡ b + 1 + suc n = omega arith in
    let more = runs_once m n (a + 1) (b + 1) xs ys (rw ax at above_x) (rw by at above_y) rest in
    (first, ap suc more.1, more.2)

runs_alike : (m n a b : ℕ) (xs ys : List ℕ) → 0 < m → 0 < n → Above (a + m) xs → Above (b + n) ys
    → range_with_len a m ++ xs ≡ range_with_len b n ++ ys → (a ≡ b) × (m ≡ n) × (xs ≡ ys)
runs_alike zero n a b xs ys some _ _ _ e = absurd (omega arith)
runs_alike (suc m) zero a b xs ys _ some _ _ e = absurd (omega arith)
runs_alike (suc m) (suc n) a b xs ys _ _ above_x above_y e =
    let r = runs_once m n a b xs ys above_x above_y e in
    (r.0, ap suc r.1, r.2)

some_place : (a m : ℕ) (xs : List ℕ) → 0 < m → range_with_len a m ++ xs ≡ [] → ⊥
some_place a zero xs some e = omega arith
some_place a (suc m) xs some e = cc

-- ---- one list of parts

pub AllPairs-head : {X : Type 0} (R : X → X → Type 0) (x : X) (xs : List X) → AllPairs R (x ∷ xs) → All (R x) xs
AllPairs-head R x xs h k d less = h 0 (suc k) d (omega arith) (omega arith)

pub AllPairs-tail : {X : Type 0} (R : X → X → Type 0) (x : X) (xs : List X) → AllPairs R (x ∷ xs) → AllPairs R xs
AllPairs-tail R x xs h i j d before less = h (suc i) (suc j) d (omega arith) (omega arith)

above_parts : (l : Layout) (n k : ℕ) (ps : List Part) → All (IsPart l n) ps → All (λ p. k < p.at) ps → Above k (flat_map places_of ps)
above_parts l n k [] each apart = tt
above_parts l n k (p ∷ ps) each apart =
    go p.len (All-head (IsPart l n) p ps each).some (All-head (λ p. k < p.at) p ps apart)
  where
    go : (len : ℕ) → 0 < len → k < p.at → Above k (range_with_len p.at len ++ flat_map places_of ps)
    go zero some above = absurd (omega arith)
    go (suc len) some above = above

same_part : (p q : Part) → p.offset ≡ q.offset → p.at ≡ q.at → p.len ≡ q.len → p ≡ q
same_part p q e f g =
    ap (λ x. record { offset = x; at = p.at; len = p.len }) e
    ∙ ap (λ x. record { offset = q.offset; at = x; len = p.len }) f
    ∙ ap (λ x. record { offset = q.offset; at = q.at; len = x }) g

pub part_offset : (l : Layout) (n : ℕ) (p : Part) → IsPart l n p → offset_of l p.at ≡ p.offset
part_offset l n p is =
    let at_first : offset_of l (p.at + 0) ≡ p.offset + 0 = (is.lies 0 is.some).1 in
    let a : p.at + 0 ≡ p.at = omega arith in
    let b : p.offset + 0 ≡ p.offset = omega arith in
    subst (λ (x : ℕ). offset_of l x ≡ p.offset) a (at_first ∙ b)

parts_once : (l : Layout) (n : ℕ) (ps qs : List Part) → All (IsPart l n) ps → All (IsPart l n) qs
    → AllPairs (λ p q. p.at + p.len < q.at) ps → AllPairs (λ p q. p.at + p.len < q.at) qs → flat_map places_of ps ≡ flat_map places_of qs → ps ≡ qs
parts_once l n [] [] _ _ _ _ _ = refl
parts_once l n [] (q ∷ qs) _ each _ _ e = absurd (some_place q.at q.len (flat_map places_of qs) (All-head (IsPart l n) q qs each).some (sym e))
parts_once l n (p ∷ ps) [] each _ _ _ e = absurd (some_place p.at p.len (flat_map places_of ps) (All-head (IsPart l n) p ps each).some e)
parts_once l n (p ∷ ps) (q ∷ qs) each_p each_q apart_p apart_q e =
    let is_p = All-head (IsPart l n) p ps each_p in
    let is_q = All-head (IsPart l n) q qs each_q in
    let rest_p = All-tail (IsPart l n) p ps each_p in
    let rest_q = All-tail (IsPart l n) q qs each_q in
    let alike = runs_alike p.len q.len p.at q.at (flat_map places_of ps) (flat_map places_of qs) is_p.some is_q.some
    (above_parts l n (p.at + p.len) ps rest_p (AllPairs-head (λ p q. p.at + p.len < q.at) p ps apart_p))
    (above_parts l n (q.at + q.len) qs rest_q (AllPairs-head (λ p q. p.at + p.len < q.at) q qs apart_q)) e in
    let offset : p.offset ≡ q.offset = sym (part_offset l n p is_p) ∙ ap (offset_of l) alike.0 ∙ part_offset l n q is_q in
    let head : p ≡ q = same_part p q offset alike.0 alike.1 in
    let tail : ps ≡ qs = parts_once l n ps qs rest_p rest_q (AllPairs-tail (λ p q. p.at + p.len < q.at) p ps apart_p) (AllPairs-tail (λ p q. p.at + p.len < q.at) q qs apart_q) alike.2 in
    cc

pub parts_alike : (l : Layout) (e : Extent) (object : ℕ) (some others : List Part) → IsPartsOf l e object some
    → IsPartsOf l e object others → some ≡ others
parts_alike l e object some others of_some of_others =
    parts_once l object some others of_some.each of_others.each of_some.apart of_others.apart (of_some.cover ∙ sym of_others.cover)

-- ---- one list of numbers

abbrev Ascending : List ℕ → Type 0
Ascending [] = Unit {0}
Ascending (x ∷ xs) = ((y : ℕ) → Among y xs → x < y) × Ascending xs

ascending_once : (xs ys : List ℕ) → Ascending xs → Ascending ys → ((n : ℕ) → Among n xs → Among n ys) → ((n : ℕ) → Among n ys → Among n xs) → xs ≡ ys
ascending_once [] [] _ _ _ _ = refl
ascending_once [] (y ∷ ys) _ _ _ back = absurd (back y (inl refl))
ascending_once (x ∷ xs) [] _ _ forth _ = absurd (forth x (inl refl))
ascending_once (x ∷ xs) (y ∷ ys) up_x up_y forth back =
    let tail : xs ≡ ys = ascending_once xs ys up_x.1 up_y.1 (λ n h. later n (up_x.0 n h) (forth n (inr h))) (λ n h. later' n (up_y.0 n h) (back n (inr h))) in
    let head : x ≡ y = same (forth x (inl refl)) (back y (inl refl)) in
    cc
  where
    same : (x ≡ y) ⊎ Among x ys → (y ≡ x) ⊎ Among y xs → x ≡ y
    same (inl e) _ = e
    same (inr _) (inl e) = sym e
    same (inr a) (inr b) =
        let below : y < x = up_y.0 x a in
        let above : x < y = up_x.0 y b in
        absurd (omega arith)

    later : (n : ℕ) → x < n → (n ≡ y) ⊎ Among n ys → Among n ys
    later n above (inr a) = a
    later n above (inl e) = let head : x ≡ y = same (forth x (inl refl)) (back y (inl refl)) in absurd (omega arith)

    later' : (n : ℕ) → y < n → (n ≡ x) ⊎ Among n xs → Among n xs
    later' n above (inr a) = a
    later' n above (inl e) = let head : x ≡ y = same (forth x (inl refl)) (back y (inl refl)) in absurd (omega arith)

-- ---- one list of pieces

abbrev pub number : Piece → ℕ
number p = p.object

-- what holds of each piece holds of the piece with this number
among_piece : (P : Piece → Type 0) (n : ℕ) (ps : List Piece) → All P ps → Among n (map number ps) → (p : Piece) × (p.object ≡ n) × P p
among_piece P n [] all h = absurd h
among_piece P n (p ∷ ps) all (inl e) = (p, sym e, All-head P p ps all)
among_piece P n (p ∷ ps) all (inr h) = among_piece P n ps (All-tail P p ps all) h

piece_among : (n : ℕ) (ps : List Piece) (k : ℕ) (d : Piece) → k < length ps → (get_or ps k d).object ≡ n → Among n (map number ps)
piece_among n [] k d less e = absurd (omega arith)
piece_among n (p ∷ ps) zero d less e = inl (sym e)
piece_among n (p ∷ ps) (suc k) d less e = inr (piece_among n ps k d (omega arith) e)

any_among : (n : ℕ) (ps : List Piece) → Any (λ p. p.object ≡ n) ps → Among n (map number ps)
any_among n ps (k, p, less, is, holds) = piece_among n ps k p less (ap number is ∙ holds)

ascending_numbers : (ps : List Piece) → AllPairs (λ p q. p.object < q.object) ps → Ascending (map number ps)
ascending_numbers [] h = tt
ascending_numbers (p ∷ ps) h = (
  (λ y among. above y (among_piece (λ q. p.object < q.object) y ps (AllPairs-head (λ p q. p.object < q.object) p ps h) among)),
  ascending_numbers ps (AllPairs-tail (λ p q. p.object < q.object) p ps h),
)
  where
    above : (y : ℕ) → ((q : Piece) × (q.object ≡ y) × (p.object < q.object)) → p.object < y
    above y (q, e, less) = omega arith

-- a piece with parts has a place of the extent
piece_place : (l : Layout) (e : Extent) (n : ℕ) (parts : List Part) → IsPartsOf l e n parts → 0 < length parts → (x : ℕ) × (e.at ≤ x) × (x < e.at + e.len) × (object_of l x ≡ n)
piece_place l e n [] are some = absurd (omega arith)
piece_place l e n (p ∷ ps) are some =
    let first : Among p.at (places_of p ++ flat_map places_of ps) = here p.len (All-head (IsPart l n) p ps are.each).some in
    let facts = among_place l e n p.at (subst (λ xs. Among p.at xs) are.cover first) in
    (p.at, facts.0, facts.1, facts.2)
  where
    here : (len : ℕ) → 0 < len → Among p.at (range_with_len p.at len ++ flat_map places_of ps)
    here zero h = absurd (omega arith)
    here (suc len) h = inl refl

both : (l : Layout) (e : Extent) (ps : List Piece) → IsPieces l e ps → All (λ p. IsPartsOf l e p.object p.parts × (0 < length p.parts)) ps
both l e ps of k d less = (of.parts k d less, of.touched k d less)

numbers_within : (l : Layout) (e : Extent) (ps qs : List Piece) → IsPieces l e ps → IsPieces l e qs → (n : ℕ) → Among n (map number ps) → Among n (map number qs)
numbers_within l e ps qs of_ps of_qs n h = go (among_piece (λ p. IsPartsOf l e p.object p.parts × (0 < length p.parts)) n ps (both l e ps of_ps) h)
  where
    go : ((p : Piece) × (p.object ≡ n) × (IsPartsOf l e p.object p.parts × (0 < length p.parts))) → Among n (map number qs)
    go (p, is, (parts, some)) =
        let place = piece_place l e p.object p.parts parts some in
        subst (λ (k : ℕ). Among k (map number qs)) (place.3 ∙ is) (any_among (object_of l place.0) qs (of_qs.whole place.0 (place.1, place.2)))

same_piece : (p q : Piece) → p.object ≡ q.object → p.parts ≡ q.parts → p ≡ q
same_piece p q e f = ap (λ x. record { object = x; parts = p.parts }) e ∙ ap (λ xs. record { object = q.object; parts = xs }) f

same_pieces : (l : Layout) (e : Extent) (ps qs : List Piece) → All (λ p. IsPartsOf l e p.object p.parts) ps → All (λ p. IsPartsOf l e p.object p.parts) qs → map number ps ≡ map number qs → ps ≡ qs
same_pieces l e [] [] _ _ _ = refl
same_pieces l e [] (q ∷ qs) _ _ same = absurd (cc)
same_pieces l e (p ∷ ps) [] _ _ same = absurd (cc)
same_pieces l e (p ∷ ps) (q ∷ qs) of_ps of_qs same =
    let object : p.object ≡ q.object = cc in
    let numbers : map number ps ≡ map number qs = cc in
    let is_p = All-head (λ p. IsPartsOf l e p.object p.parts) p ps of_ps in
    let is_q : IsPartsOf l e q.object q.parts = All-head (λ p. IsPartsOf l e p.object p.parts) q qs of_qs in
    let is_q' : IsPartsOf l e p.object q.parts = subst (λ (k : ℕ). IsPartsOf l e k q.parts) (sym object) is_q in
    let parts : p.parts ≡ q.parts = parts_alike l e p.object p.parts q.parts is_p is_q' in
    let head : p ≡ q = same_piece p q object parts in
    let tail : ps ≡ qs = same_pieces l e ps qs (All-tail (λ p. IsPartsOf l e p.object p.parts) p ps of_ps) (All-tail (λ p. IsPartsOf l e p.object p.parts) q qs of_qs) numbers in
    cc

pub pieces_once : (l : Layout) (e : Extent) (ps qs : List Piece) → IsPieces l e ps → IsPieces l e qs → ps ≡ qs
pieces_once l e ps qs of_ps of_qs =
    same_pieces l e ps qs of_ps.parts of_qs.parts
    (ascending_once (map number ps) (map number qs) (ascending_numbers ps of_ps.ascending) (ascending_numbers qs of_qs.ascending)
    (numbers_within l e ps qs of_ps of_qs) (numbers_within l e qs ps of_qs of_ps))

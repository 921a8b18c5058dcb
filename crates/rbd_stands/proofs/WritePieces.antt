-- The pieces of a write, one after another, are the write.
use Rattle.std.proofs.Common.{◌≡◌, ℕ, suc, ◌+◌, ◌-◌, ◌<◌, ◌≤◌, Bool, true, false, cond, eqb, leb, ltb, ◌&&◌, ◌||◌, List, [], ◌∷◌, ◌++◌, length, drop, get_or, Option, Some, None, refl, sym, ap, ◌∙◌, subst, arith, eqb-true, leb-true, ltb-true, eq-eqb}
use Rattle.std.specs.Prelude.{Any}
use Rattle.std.specs.List.{list_any}
use Rattle.std.specs.Ordering.{nat_cmp}
use Rattle.std.specs.Cmp.{nat_cmp_total}
use Rattle.std.specs.FinMap as finmap
use Rattle.std.proofs.lemmas.Bool.Decides.{nat_tests}
use Rattle.std.proofs.lemmas.List.Folds.{Any-from_list_any, list_any-from_Any}
use Rattle.std.proofs.lemmas.List.{ext_get_or, get_or_append_left}
use Rattle.std.proofs.Math.Seq.{drop-append_seam}
use Rattle.rbd_parts.proofs.ContentsLemmas.{length-window, get_or-window}
use Rattle.std.proofs.lemmas.Map.Lookups.{exact_unsigned}
use Rattle.rbd_kinds.specs.declared.layout.Extent.{Extent}
use Rattle.rbd_kinds.specs.declared.layout.Layout.{Layout}
use Rattle.rbd_kinds.specs.declared.layout.Part.{Part}
use Rattle.rbd_layout.specs.declared.types.Piece.{Piece}
use Rattle.rbd_layout.specs.Pieces.{IsPartsOf, IsPieces, IsWithin}
use Rattle.rbd_layout.proofs.Derived.{pieces_cover}
use Rattle.rbd_parts.specs.Contents.{window}
use Rattle.rbd_parts.specs.Parts.{bytes_for}
use Rattle.rbd_flat.specs.declared.effect.Effect.TheVariants as effect
use Rattle.rbd_flat.specs.Flat.{Flat, FlatImage, image_at, painted, places_of, changed_image, with_image, after, after_all}
use Rattle.rbd_flat.specs.Laws.{covers, painted_at}
use Rattle.rbd_flat.proofs.Images.{get_insert}
use Rattle.rbd_flat.proofs.Painted.{length_painted, painted_extents}
use Rattle.rbd_stands.specs.Condition.{extent_of, extents_of}
use Rattle.rbd_stands.specs.Writing.{piece_effect, piece_effects}

-- ---- changes of one image, one after another

twice : {X : Type 0} (v w : X) (b : Bool) (o : Option X) → cond b (Some w) (cond b (Some v) o) ≡ cond b (Some w) o
twice v w true o = refl
twice v w false o = refl

insert_again : {X : Type 0} (m : finmap.FinMap nat_cmp X) (k : ℕ) (v w : X) → finmap.insert (finmap.insert m k v) k w ≡ finmap.insert m k w
insert_again m k v w = finmap.same_map nat_cmp_total exact_unsigned _ _ (λ q.
    get_insert (finmap.insert m k v) k w q
    ∙ ap (cond (eqb q k) (Some w)) (get_insert m k v q)
    ∙ twice v w (eqb q k) (finmap.get m q)
    ∙ sym (get_insert m k w q))

changed_again : (g h : FlatImage → FlatImage) (k : ℕ) (o : Option FlatImage) (f : Flat) → image_at f k ≡ o
    → with_image (changed_image g k o f) k h ≡ changed_image (λ i. h (g i)) k o f
changed_again g h k None f is = ap (λ o. changed_image h k o f) is
changed_again g h k (Some i) f is =
    ap (λ o. changed_image h k o (record f { images = finmap.insert f.images k (g i) }))
    (get_insert f.images k (g i) k ∙ ap (λ b. cond b (Some (g i)) (finmap.get f.images k)) (eq-eqb k k refl))
    ∙ ap (λ (m : finmap.FinMap nat_cmp FlatImage). record f { images = m }) (insert_again f.images k (g i) (h (g i)))

with_image_again : (f : Flat) (k : ℕ) (g h : FlatImage → FlatImage) → with_image (with_image f k g) k h ≡ with_image f k (λ i. h (g i))
with_image_again f k g h = changed_again g h k (image_at f k) f refl

changed_alike : (g h : FlatImage → FlatImage) (k : ℕ) (o : Option FlatImage) (f : Flat) → ((i : FlatImage) → g i ≡ h i) → changed_image g k o f ≡ changed_image h k o f
changed_alike g h k None f same = refl
changed_alike g h k (Some i) f same = ap (λ (j : FlatImage). record f { images = finmap.insert f.images k j }) (same i)

changed_by_nothing : (k : ℕ) (o : Option FlatImage) (f : Flat) → image_at f k ≡ o → changed_image (λ i. i) k o f ≡ f
changed_by_nothing k None f is = refl
changed_by_nothing k (Some i) f is = ap (λ (m : finmap.FinMap nat_cmp FlatImage). record f { images = m }) (finmap.same_map nat_cmp_total exact_unsigned _ _ (λ q.
    get_insert f.images k i q ∙ here q (eqb q k) refl))
  where
    here : (q : ℕ) (b : Bool) → eqb q k ≡ b → cond b (Some i) (finmap.get f.images q) ≡ finmap.get f.images q
    here q true e = sym (ap (finmap.get f.images) (eqb-true q k e) ∙ is)
    here q false e = refl

-- ---- the bytes of some pieces

-- x is one of the parts' bytes, and of the pieces'
abbrev pub hit : List Part → (x : ℕ) → Bool
hit parts x = list_any (λ p. covers (extent_of p) x) parts

abbrev pub hits : List Piece → (x : ℕ) → Bool
hits pieces x = list_any (λ p. hit p.parts x) pieces

-- the parts begin at `from` or behind it
abbrev pub Behind : (from : ℕ) → List Part → Type 0
Behind from [] = Unit {0}
Behind from (p ∷ parts) = (from ≤ p.at) × Behind from parts

pub last_tells : (a b : Bool) (new old : ℕ) → cond b new (cond a new old) ≡ cond (a || b) new old
last_tells true true new old = refl
last_tells true false new old = refl
last_tells false b new old = refl

-- the first part's bytes stand in front
front_byte : (p : Part) (from : ℕ) (bytes rest : List ℕ) (x old : ℕ) → from ≤ p.at
    → cond (covers (extent_of p) x) (get_or (window bytes (p.at - from) p.len ++ rest) (x - p.at) 0) old ≡ cond (covers (extent_of p) x) (get_or bytes (x - from) 0) old
front_byte p from bytes rest x old behind = go (leb p.at x) (ltb x (p.at + p.len)) refl refl
  where
    go : (a b : Bool) → leb p.at x ≡ a → ltb x (p.at + p.len) ≡ b
        → cond (a && b) (get_or (window bytes (p.at - from) p.len ++ rest) (x - p.at) 0) old ≡ cond (a && b) (get_or bytes (x - from) 0) old
    go true true e g =
        let low : p.at ≤ x = leb-true _ _ e in
        let high : x < p.at + p.len = ltb-true _ _ g in
        get_or_append_left (window bytes (p.at - from) p.len) rest 0 (x - p.at) (subst (λ n. x - p.at < n) (sym (length-window bytes (p.at - from) p.len)) (let h : x - p.at < p.len = omega arith in h))
        ∙ get_or-window bytes (p.at - from) p.len (x - p.at) (omega arith)
        ∙ ap (λ k. get_or bytes k 0) (let h : p.at - from + (x - p.at) ≡ x - from = omega arith in h)
    go true false e g = refl
    go false b e g = refl

rest_of : (p : Part) (from : ℕ) (bytes rest : List ℕ) → drop p.len (window bytes (p.at - from) p.len ++ rest) ≡ rest
rest_of p from bytes rest =
    ap (λ n. drop n (window bytes (p.at - from) p.len ++ rest)) (sym (length-window bytes (p.at - from) p.len))
    ∙ drop-append_seam (window bytes (p.at - from) p.len) rest

one_piece : (parts : List Part) (from : ℕ) (bytes : List ℕ) (old x : ℕ) → Behind from parts
    → painted_at (extents_of parts) (bytes_for parts from bytes) old x ≡ cond (hit parts x) (get_or bytes (x - from) 0) old
one_piece [] from bytes old x behind = refl
one_piece (p ∷ parts) from bytes old x behind =
    let new = window bytes (p.at - from) p.len ++ bytes_for parts from bytes in
    ap (λ (bs : List ℕ). painted_at (extents_of parts) bs (cond (covers (extent_of p) x) (get_or new (x - p.at) 0) old) x) (rest_of p from bytes (bytes_for parts from bytes))
    ∙ one_piece parts from bytes (cond (covers (extent_of p) x) (get_or new (x - p.at) 0) old) x behind.1
    ∙ ap (λ o. cond (hit parts x) (get_or bytes (x - from) 0) o) (front_byte p from bytes (bytes_for parts from bytes) x old behind.0)
    ∙ last_tells (covers (extent_of p) x) (hit parts x) (get_or bytes (x - from) 0) old

-- the bytes after some pieces
abbrev pieces_painted : (from : ℕ) → (bytes : List ℕ) → List Piece → (old : List ℕ) → List ℕ
pieces_painted from bytes [] old = old
pieces_painted from bytes (p ∷ pieces) old = pieces_painted from bytes pieces (painted (places_of (extents_of p.parts)) (bytes_for p.parts from bytes) old)

length_pieces : (from : ℕ) (bytes : List ℕ) (pieces : List Piece) (old : List ℕ) → length (pieces_painted from bytes pieces old) ≡ length old
length_pieces from bytes [] old = refl
length_pieces from bytes (p ∷ pieces) old = length_pieces from bytes pieces _ ∙ length_painted (places_of (extents_of p.parts)) (bytes_for p.parts from bytes) old

abbrev pub AllBehind : (from : ℕ) → List Piece → Type 0
AllBehind from [] = Unit {0}
AllBehind from (p ∷ pieces) = Behind from p.parts × AllBehind from pieces

all_pieces : (from : ℕ) (bytes : List ℕ) (pieces : List Piece) (old : List ℕ) (x : ℕ) → AllBehind from pieces → x < length old
    → get_or (pieces_painted from bytes pieces old) x 0 ≡ cond (hits pieces x) (get_or bytes (x - from) 0) (get_or old x 0)
all_pieces from bytes [] old x behind below = refl
all_pieces from bytes (p ∷ pieces) old x behind below =
    let now = painted (places_of (extents_of p.parts)) (bytes_for p.parts from bytes) old in
    let below' : x < length now = subst (λ n. x < n) (sym (length_painted (places_of (extents_of p.parts)) (bytes_for p.parts from bytes) old)) below in
    all_pieces from bytes pieces now x behind.1 below'
    ∙ ap (λ o. cond (hits pieces x) (get_or bytes (x - from) 0) o)
    (painted_extents (extents_of p.parts) (bytes_for p.parts from bytes) old x below ∙ one_piece p.parts from bytes (get_or old x 0) x behind.0)
    ∙ last_tells (hit p.parts x) (hits pieces x) (get_or bytes (x - from) 0) (get_or old x 0)

-- the flat site after some pieces
after_pieces : (f : Flat) (image from : ℕ) (bytes : List ℕ) (pieces : List Piece)
    → after_all f (piece_effects image from bytes pieces) ≡ with_image f image (λ i. record i { bytes = pieces_painted from bytes pieces i.bytes })
after_pieces f image from bytes [] = sym (changed_by_nothing image (image_at f image) f refl)
after_pieces f image from bytes (p ∷ pieces) =
    after_pieces (after f (piece_effect image from bytes p)) image from bytes pieces
    ∙ with_image_again f image (λ i. record i { bytes = painted (places_of (extents_of p.parts)) (bytes_for p.parts from bytes) i.bytes }) (λ i. record i { bytes = pieces_painted from bytes pieces i.bytes })

-- ---- the pieces of an extent

abbrev IsIn : Part → (x : ℕ) → Type 0
IsIn p x = (p.at ≤ x) × (x < p.at + p.len)

pub is_in : (p : Part) (x : ℕ) → covers (extent_of p) x ≡ true → IsIn p x
is_in p x e = grind (arith, nat_tests)

is_covered : (p : Part) (x : ℕ) → IsIn p x → covers (extent_of p) x ≡ true
is_covered p x e = let low : p.at ≤ x = e.0 in let high : x < p.at + p.len = e.1 in grind (arith, nat_tests)

-- what holds of some element holds in a weaker form
weaker : {X : Type 0} {P Q : X → Type 0} (xs : List X) → ((x : X) → P x → Q x) → Any P xs → Any Q xs
weaker xs f (k, x, below, is, p) = (k, x, below, is, f x p)

hit_any : (parts : List Part) (x : ℕ) → hit parts x ≡ true → Any (λ p. IsIn p x) parts
hit_any parts x e = weaker parts (λ p. is_in p x) (Any-from_list_any (λ p. covers (extent_of p) x) parts e)

any_hit : (parts : List Part) (x : ℕ) → Any (λ p. IsIn p x) parts → hit parts x ≡ true
any_hit parts x any = list_any-from_Any (λ p. covers (extent_of p) x) parts (weaker parts (λ p. is_covered p x) any)

abbrev AreIn : List Piece → (x : ℕ) → Type 0
AreIn pieces x = Any (λ (piece : Piece). Any (λ p. IsIn p x) piece.parts) pieces

hits_any : (pieces : List Piece) (x : ℕ) → hits pieces x ≡ true → AreIn pieces x
hits_any pieces x e = weaker pieces (λ p. hit_any p.parts x) (Any-from_list_any (λ p. hit p.parts x) pieces e)

any_hits : (pieces : List Piece) (x : ℕ) → AreIn pieces x → hits pieces x ≡ true
any_hits pieces x any = list_any-from_Any (λ p. hit p.parts x) pieces (weaker pieces (λ p. any_hit p.parts x) any)

pub covers_within : (e : Extent) (x : ℕ) → covers e x ≡ true → IsWithin e x
covers_within e x is = grind (arith, nat_tests)

pub within_covers : (e : Extent) (x : ℕ) → IsWithin e x → covers e x ≡ true
within_covers e x is = let low : e.at ≤ x = is.0 in let high : x < e.at + e.len = is.1 in grind (arith, nat_tests)

-- the pieces have exactly the extent's bytes
pub hits_extent : (l : Layout) (e : Extent) (pieces : List Piece) → IsPieces l e pieces → (x : ℕ) → hits pieces x ≡ covers e x
hits_extent l e pieces are x = go (hits pieces x) (covers e x) refl refl
  where
    go : (a b : Bool) → hits pieces x ≡ a → covers e x ≡ b → a ≡ b
    go true true p q = refl
    go false false p q = refl
    go true false p q = sym (within_covers e x ((pieces_cover l e pieces are x).0 (hits_any pieces x p))) ∙ q
    go false true p q = sym p ∙ any_hits pieces x ((pieces_cover l e pieces are x).1 (covers_within e x q))

pub are_behind : (from : ℕ) (parts : List Part) → ((k : ℕ) (p : Part) → k < length parts → get_or parts k p ≡ p → from ≤ p.at) → Behind from parts
are_behind from [] h = tt
are_behind from (p ∷ parts) h = (h 0 p (omega arith) refl, are_behind from parts (λ k q below is. h (suc k) q (omega arith) is))

pub all_behind : (from : ℕ) (pieces : List Piece) → ((k : ℕ) (p : Piece) → k < length pieces → get_or pieces k p ≡ p → Behind from p.parts) → AllBehind from pieces
all_behind from [] h = tt
all_behind from (p ∷ pieces) h = (h 0 p (omega arith) refl, all_behind from pieces (λ k q below is. h (suc k) q (omega arith) is))

pub pieces_behind : (l : Layout) (e : Extent) (pieces : List Piece) → IsPieces l e pieces → AllBehind e.at pieces
pieces_behind l e pieces are = all_behind e.at pieces (λ j piece below is.
    are_behind e.at piece.parts (λ k p within here.
    let some : 0 < p.len = subst (λ (q : Part). 0 < q.len) here ((subst (λ (q : Piece). IsPartsOf l e q.object q.parts) is (are.parts j piece below)).each k p within).some in
    ((pieces_cover l e pieces are p.at).0 (j, piece, below, is, (k, p, within, here, (let low : p.at ≤ p.at = omega arith in low, let high : p.at < p.at + p.len = omega arith in high)))).0))

-- ---- the write

one_extent : (e : Extent) (bytes old : List ℕ) (x : ℕ) → x < length old
    → get_or (painted (places_of (e ∷ [])) bytes old) x 0 ≡ cond (covers e x) (get_or bytes (x - e.at) 0) (get_or old x 0)
one_extent e bytes old x below = painted_extents (e ∷ []) bytes old x below

pieces_paint : (l : Layout) (e : Extent) (pieces : List Piece) → IsPieces l e pieces → (bytes old : List ℕ)
    → pieces_painted e.at bytes pieces old ≡ painted (places_of (e ∷ [])) bytes old
pieces_paint l e pieces are bytes old = ext_get_or 0 _ _
    (length_pieces e.at bytes pieces old ∙ sym (length_painted (places_of (e ∷ [])) bytes old))
    (λ x below. let below' : x < length old = subst (λ n. x < n) (length_pieces e.at bytes pieces old) below in
    all_pieces e.at bytes pieces old x (pieces_behind l e pieces are) below'
    ∙ ap (λ b. cond b (get_or bytes (x - e.at) 0) (get_or old x 0)) (hits_extent l e pieces are x)
    ∙ sym (one_extent e bytes old x below'))

pub pieces_write : (l : Layout) (e : Extent) (pieces : List Piece) (f : Flat) (image : ℕ) (bytes : List ℕ)
    → IsPieces l e pieces
    → after_all f (piece_effects image e.at bytes pieces) ≡ after f (effect.Piece image (e ∷ []) bytes)
pieces_write l e pieces f image bytes are =
    after_pieces f image e.at bytes pieces
    ∙ changed_alike _ _ image (image_at f image) f (λ i. ap (λ (bs : List ℕ). let j : FlatImage = record i { bytes = bs } in j) (pieces_paint l e pieces are bytes i.bytes))

-- Effects of changes of objects whose parts lie as parts of the image, and operations without one.
use Rattle.std.proofs.Common.{◌≡◌, ℕ, ◌+◌, ◌<◌, ◌≤◌, Bool, cond, ltb, List, [], ◌∷◌, ◌++◌, map, take, drop, length, Some, refl, sym, ◌∙◌, ap, arith, zero, suc}
use Rattle.std.specs.List.{filter, range_with_len}
use Rattle.std.proofs.lemmas.Bool.{lt-ltb}
use Rattle.std.proofs.lemmas.Bool.{eq-eqb}
use Rattle.std.proofs.lemmas.List.{take-append-drop}
use Rattle.std.proofs.lemmas.List.Elements.{All-head, All-tail}
use Rattle.std.proofs.lemmas.List.FromFn.{length-range_with_len}
use Rattle.rbd_kinds.specs.declared.data_op.DataOp.TheVariants as data_op
use Rattle.rbd_kinds.specs.declared.header.HeaderView.{HeaderView}
use Rattle.rbd_kinds.specs.declared.header.SnapContext.{SnapContext}
use Rattle.rbd_kinds.specs.declared.layout.Layout.{Layout}
use Rattle.rbd_kinds.specs.declared.layout.Part.{Part}
use Rattle.rbd_kinds.specs.Parts.{parts_len}
use Rattle.rbd_kinds.specs.Striping.{IsLayout, byte_at}
use Rattle.rbd_layout.specs.Pieces.{IsPart, part_at, parts_at, places_in, with_place}
use Rattle.rbd_layout.proofs.Listed.{parts_listed}
use Rattle.rbd_layout.proofs.Places.{byte_of_place}
use Rattle.rbd_layout.proofs.Unique.{parts_alike}
use Rattle.rbd_flat.specs.declared.effect.Effect.TheVariants as effect
use Rattle.rbd_site.specs.DataStep.{MayWriteParts}
use Rattle.rbd_stands.specs.Condition.{ArePartsBelow, AreWhole, IsPartBelow, extent_of, extents_of}
use Rattle.rbd_stands.specs.Effect.{bytes_below, effect_of_data, extents_below, joined_extents, places_below, whole_object}

-- ---- a part's places

same_range : (l : Layout) (n offset at len : ℕ) → ((k : ℕ) → k < len → byte_at l n (offset + k) ≡ at + k) → map (byte_at l n) (range_with_len offset len) ≡ range_with_len at len
same_range l n offset at zero each = refl
same_range l n offset at (suc len) each =
    let none : offset + 0 ≡ offset = omega arith in
    let first : byte_at l n offset ≡ at = ap (byte_at l n) (sym none) ∙ each 0 (omega arith) ∙ (omega arith) in
    (λ i. first i ∷ same_range l n (offset + 1) (at + 1) len later i)
  where
    later : (k : ℕ) → k < len → byte_at l n ((offset + 1) + k) ≡ (at + 1) + k
    later k less =
        let one : (offset + 1) + k ≡ offset + (k + 1) = omega arith in
        ap (byte_at l n) one ∙ each (k + 1) (omega arith) ∙ (omega arith)

part_range : (l : Layout) → IsLayout l → (n : ℕ) (p : Part) → IsPart l n p → map (byte_at l n) (range_with_len p.offset p.len) ≡ range_with_len p.at p.len
part_range l laid n p is = same_range l n p.offset p.at p.len (λ k less.
    let lies = is.lies k less in
    (λ i. byte_at l (sym lies.0 i) (sym lies.1 i)) ∙ byte_of_place l laid (p.at + k))

all_below : (size at len : ℕ) → at + len ≤ size → filter (λ x. ltb x size) (range_with_len at len) ≡ range_with_len at len
all_below size at zero below = refl
all_below size at (suc len) below =
    ap (λ b. cond b (at ∷ filter (λ x. ltb x size) (range_with_len (at + 1) len)) (filter (λ x. ltb x size) (range_with_len (at + 1) len))) (lt-ltb at size (omega arith))
    ∙ ap (λ xs. at ∷ xs) (all_below size (at + 1) len (omega arith))

below_range : (l : Layout) → IsLayout l → (size n : ℕ) (p : Part) → IsPart l n p → p.at + p.len ≤ size → places_below l size n p ≡ range_with_len p.at p.len
below_range l laid size n p is below = ap (filter (λ x. ltb x size)) (part_range l laid n p is) ∙ all_below size p.at p.len below

-- places that follow each other are one part
one_part : (l : Layout) (at len : ℕ) → parts_at l (range_with_len at (suc len)) ≡ part_at l at (suc len) ∷ []
one_part l at zero = refl
one_part l at (suc len) =
    ap (with_place l at) (one_part l (at + 1) len)
    ∙ ap (λ b. cond b (part_at l at (suc len + 1) ∷ []) (part_at l at 1 ∷ part_at l (at + 1) (suc len) ∷ [])) (eq-eqb (at + 1) (at + 1) refl)
    ∙ ap (λ n. part_at l at n ∷ []) more
  where
    more : suc len + 1 ≡ suc (suc len)
    more = omega arith

joined_range : (l : Layout) (at len : ℕ) → 0 < len → joined_extents l (range_with_len at len) ≡ record { at = at; len = len } ∷ []
joined_range l at zero some = absurd (omega arith)
joined_range l at (suc len) some = ap extents_of (one_part l at len)

part_extent : (l : Layout) → IsLayout l → (size n : ℕ) (p : Part) → IsPart l n p → p.at + p.len ≤ size → joined_extents l (places_below l size n p) ≡ extent_of p ∷ []
part_extent l laid size n p is below = ap (joined_extents l) (below_range l laid size n p is below) ∙ joined_range l p.at p.len is.some

parts_extents : (h : HeaderView) → IsLayout h.layout → (n : ℕ) (parts : List Part) → ArePartsBelow h h.size n parts → extents_below h.layout h.size n parts ≡ extents_of parts
parts_extents h laid n [] are = refl
parts_extents h laid n (p ∷ parts) are =
    let first = All-head (IsPartBelow h h.size n) p parts are in
    (λ i. part_extent h.layout laid h.size n p first.part first.below i ++ parts_extents h laid n parts (All-tail (IsPartBelow h h.size n) p parts are) i)

drop_long : (n : ℕ) (xs : List ℕ) (m : ℕ) → length xs ≡ n + m → length (drop n xs) ≡ m
drop_long zero xs m is = is ∙ (omega arith)
drop_long (suc n) [] m is = absurd (omega arith)
drop_long (suc n) (x ∷ xs) m is = drop_long n xs m (omega arith)

parts_bytes : (h : HeaderView) → IsLayout h.layout → (n : ℕ) (parts : List Part) (bytes : List ℕ) → ArePartsBelow h h.size n parts → length bytes ≡ parts_len parts
    → bytes_below h.layout h.size n parts bytes ≡ bytes
parts_bytes h laid n [] [] are long = refl
parts_bytes h laid n [] (b ∷ bytes) are long = absurd (omega arith)
parts_bytes h laid n (p ∷ parts) bytes are long =
    let first = All-head (IsPartBelow h h.size n) p parts are in
    let many : length (places_below h.layout h.size n p) ≡ p.len = ap length (below_range h.layout laid h.size n p first.part first.below) ∙ length-range_with_len p.at p.len in
    (λ i. take (many i) bytes ++ parts_bytes h laid n parts (drop p.len bytes) (All-tail (IsPartBelow h h.size n) p parts are) (drop_long p.len bytes (parts_len parts) long) i)
    ∙ take-append-drop p.len bytes

whole_extents : (h : HeaderView) → IsLayout h.layout → (n : ℕ) (parts : List Part) → AreWhole h n parts → whole_object h.layout h.size n ≡ extents_of parts
whole_extents h laid n parts are =
    ap extents_of (parts_alike h.layout (record { at = 0; len = h.size }) n (parts_at h.layout (places_in h.layout (record { at = 0; len = h.size }) n)) parts
    (parts_listed h.layout laid (record { at = 0; len = h.size }) n) are)

-- ---- effects

pub write_effect : (h : HeaderView) (image number : ℕ) (context : SnapContext) (must : Bool) (parts : List Part) (bytes : List ℕ) → IsLayout h.layout → ArePartsBelow h h.size number parts → MayWriteParts parts bytes
    → effect_of_data image number h (data_op.Write context must parts bytes) ≡ Some (effect.Piece image (extents_of parts) bytes)
write_effect h image number context must parts bytes laid are may =
    (λ i. Some (effect.Piece image (parts_extents h laid number parts are i) (parts_bytes h laid number parts bytes are may.long i)))

pub zero_effect : (h : HeaderView) (image number : ℕ) (context : SnapContext) (must : Bool) (parts : List Part) → IsLayout h.layout → ArePartsBelow h h.size number parts
    → effect_of_data image number h (data_op.Zero context must parts) ≡ Some (effect.Zero image (extents_of parts))
zero_effect h image number context must parts laid are = ap (λ at. Some (effect.Zero image at)) (parts_extents h laid number parts are)

pub replace_effect : (h : HeaderView) (image number : ℕ) (context : SnapContext) (bytes : List ℕ) (parts : List Part) → IsLayout h.layout → AreWhole h number parts
    → effect_of_data image number h (data_op.WriteFull context bytes) ≡ Some (effect.Piece image (extents_of parts) bytes)
replace_effect h image number context bytes parts laid are = ap (λ at. Some (effect.Piece image at bytes)) (whole_extents h laid number parts are)

pub empty_effect : (h : HeaderView) (image number : ℕ) (context : SnapContext) (parts : List Part) → IsLayout h.layout → AreWhole h number parts
    → effect_of_data image number h (data_op.Empty context) ≡ Some (effect.Zero image (extents_of parts))
empty_effect h image number context parts laid are = ap (λ at. Some (effect.Zero image at)) (whole_extents h laid number parts are)

pub remove_effect : (h : HeaderView) (image number : ℕ) (context : SnapContext) (parts : List Part) → IsLayout h.layout → AreWhole h number parts
    → effect_of_data image number h (data_op.Remove context) ≡ Some (effect.Zero image (extents_of parts))
remove_effect h image number context parts laid are = ap (λ at. Some (effect.Zero image at)) (whole_extents h laid number parts are)

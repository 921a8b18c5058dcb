-- Bytes that were written into the parts of an object are those that are painted at the parts'
-- image places.
use Rattle.std.proofs.Common.{◌≡◌, ◌≢◌, ℕ, ◌+◌, ◌-◌, ◌<◌, ◌≤◌, Bool, true, false, cond, ltb, leb, ◌&&◌, ◌||◌, zero, suc, List, [], ◌∷◌, length, get_or, take, drop, refl, sym, ◌∙◌, ap, arith, length-take, length-drop}
use Rattle.std.specs.Prelude.{All}
use Rattle.std.proofs.lemmas.Bool.{and_parts, false_from_ne_true, or_right, ltb-true, leb-true, le-leb, lt-ltb}
use Rattle.std.proofs.lemmas.List.{get_or-take}
use Rattle.std.proofs.lemmas.List.Elements.{All-head, All-tail}
use Rattle.rbd_kinds.specs.declared.header.HeaderView.{HeaderView}
use Rattle.rbd_kinds.specs.declared.layout.Layout.{Layout}
use Rattle.rbd_kinds.specs.declared.layout.Part.{Part}
use Rattle.rbd_kinds.specs.Striping.{IsLayout, object_of, offset_of, byte_at}
use Rattle.rbd_layout.specs.Pieces.{IsPart}
use Rattle.rbd_layout.proofs.Places.{byte_of_place}
use Rattle.rbd_parts.specs.Contents.{is_within, overwritten, zeroed}
use Rattle.rbd_parts.proofs.ContentsLemmas.{get_or-overwritten_any, get_or-zeroed}
use Rattle.rbd_flat.specs.Laws.{covers, covered, painted_at}
use Rattle.rbd_kinds.specs.Parts.{parts_len}
use Rattle.rbd_parts.specs.Parts.{parts_written, parts_zeroed}
use Rattle.rbd_stands.specs.Condition.{ArePartsBelow, extent_of, extents_of}
use Rattle.rbd_flat.proofs.Painted.{zeroed_next}

-- ---- a part's place in the object, and in the image

same_test : (a b : Bool) → (a ≡ true → b ≡ true) → (b ≡ true → a ≡ true) → a ≡ b
same_test true b forth back = sym (forth refl)
same_test false true forth back = back refl
same_test false false forth back = refl

from_test : (a x b : ℕ) → (leb a x && ltb x b) ≡ true → (a ≤ x) × (x < b)
from_test a x b e = let t = and_parts (leb a x) (ltb x b) e in (leb-true a x t.0, ltb-true x b t.1)

to_test : (a x b : ℕ) → a ≤ x → x < b → (leb a x && ltb x b) ≡ true
to_test a x b low high = ap (λ c. c && ltb x b) (le-leb a x low) ∙ lt-ltb x b high

module _ (l : Layout) (laid : IsLayout l) (n : ℕ) (p : Part) (part : IsPart l n p) (x : ℕ) where
  -- a byte of the image's extent lies in the object, as far on in it
  pub place_covered : p.at ≤ x → x < p.at + p.len → (object_of l x ≡ n) × (offset_of l x + p.at ≡ p.offset + x)
  place_covered low high =
      let k : p.at + (x - p.at) ≡ x = omega arith in
      let lies = part.lies (x - p.at) (omega arith) in
      let offset : offset_of l x ≡ p.offset + (x - p.at) = ap (offset_of l) (sym k) ∙ lies.1 in
      (ap (object_of l) (sym k) ∙ lies.0, omega arith)

  pub place_within : object_of l x ≡ n → p.offset ≤ offset_of l x → offset_of l x < p.offset + p.len → (p.at ≤ x) × (x < p.at + p.len)
  place_within here low high =
      let k : ℕ = offset_of l x - p.offset in
      let lies = part.lies (offset_of l x - p.offset) (omega arith) in
      let back : p.offset + (offset_of l x - p.offset) ≡ offset_of l x = omega arith in
      let y : x ≡ p.at + (offset_of l x - p.offset) =
      sym (byte_of_place l laid x) ∙ ap (λ m. byte_at l m (offset_of l x)) (here ∙ sym lies.0)
      ∙ ap (byte_at l (object_of l (p.at + (offset_of l x - p.offset)))) (sym (lies.1 ∙ back))
      ∙ byte_of_place l laid (p.at + (offset_of l x - p.offset)) in
      (omega arith, omega arith)

  pub same_place : object_of l x ≡ n → is_within p.offset p.len (offset_of l x) ≡ covers (extent_of p) x
  same_place here = same_test _ _
      (λ e. let t = from_test p.offset (offset_of l x) (p.offset + p.len) e in
      let w = place_within here t.0 t.1 in to_test p.at x (p.at + p.len) w.0 w.1)
      (λ e. let t = from_test p.at x (p.at + p.len) e in
      let w = place_covered t.0 t.1 in to_test p.offset (offset_of l x) (p.offset + p.len) (omega (arith, w.1, t.0)) (omega (arith, w.1, t.1)))

  -- one part written, seen at one byte
  one_written : (bytes head : List ℕ) → p.len ≤ length bytes → object_of l x ≡ n
      → get_or (overwritten head p.offset (take p.len bytes)) (offset_of l x) 0 ≡ cond (covers (extent_of p) x) (get_or bytes (x - p.at) 0) (get_or head (offset_of l x) 0)
  one_written bytes head long here =
      let len : length (take p.len bytes) ≡ p.len = omega (arith, length-take p.len bytes) in
      get_or-overwritten_any head p.offset (take p.len bytes) (offset_of l x)
      ∙ ap (λ m. cond (is_within p.offset m (offset_of l x)) (get_or (take p.len bytes) (offset_of l x - p.offset) 0) (get_or head (offset_of l x) 0)) len
      ∙ ap (λ b. cond b (get_or (take p.len bytes) (offset_of l x - p.offset) 0) (get_or head (offset_of l x) 0)) (same_place here)
      ∙ go (covers (extent_of p) x) refl
    where
      go : (b : Bool) → covers (extent_of p) x ≡ b → cond b (get_or (take p.len bytes) (offset_of l x - p.offset) 0) (get_or head (offset_of l x) 0) ≡ cond b (get_or bytes (x - p.at) 0) (get_or head (offset_of l x) 0)
      go false e = refl
      go true e =
          let t = from_test p.at x (p.at + p.len) e in
          let w = place_covered t.0 t.1 in
          let k : offset_of l x - p.offset ≡ x - p.at = omega (arith, w.1, t.0, t.1) in
          ap (λ m. get_or (take p.len bytes) m 0) k ∙ get_or-take p.len bytes (x - p.at) 0 (omega (arith, t.0, t.1))

-- all parts written, at a byte of the object
pub parts_at : (l : Layout) → IsLayout l → (n : ℕ) (parts : List Part) → All (IsPart l n) parts → (bytes head : List ℕ) → length bytes ≡ parts_len parts
    → (x : ℕ) → object_of l x ≡ n
    → get_or (parts_written parts bytes head) (offset_of l x) 0 ≡ painted_at (extents_of parts) bytes (get_or head (offset_of l x) 0) x
parts_at l laid n [] lie bytes head long x here = refl
parts_at l laid n (p ∷ parts) lie bytes head long x here =
    parts_at l laid n parts (All-tail (IsPart l n) p parts lie) (drop p.len bytes) (overwritten head p.offset (take p.len bytes)) (omega (arith, length-drop p.len bytes)) x here
    ∙ ap (λ old. painted_at (extents_of parts) (drop p.len bytes) old x)
    (one_written l laid n p (All-head (IsPart l n) p parts lie) x bytes head (omega arith) here)

-- a byte that no part has stays
pub painted_beside : (parts : List Part) (bytes : List ℕ) (old x : ℕ) → All (λ p. covers (extent_of p) x ≡ false) parts → painted_at (extents_of parts) bytes old x ≡ old
painted_beside [] bytes old x beside = refl
painted_beside (p ∷ parts) bytes old x beside =
    ap (λ b. painted_at (extents_of parts) (drop p.len bytes) (cond b (get_or bytes (x - p.at) 0) old) x) (All-head (λ q. covers (extent_of q) x ≡ false) p parts beside)
    ∙ painted_beside parts (drop p.len bytes) old x (All-tail (λ q. covers (extent_of q) x ≡ false) p parts beside)

-- neither in another object, nor past the size
pub beside_elsewhere : (l : Layout) → IsLayout l → (n : ℕ) (parts : List Part) → All (IsPart l n) parts → (x : ℕ) → object_of l x ≢ n
    → All (λ p. covers (extent_of p) x ≡ false) parts
beside_elsewhere l laid n parts lie x other k d less =
    let p = get_or parts k d in
    false_from_ne_true (covers (extent_of p) x) (λ e.
    let t = from_test p.at x (p.at + p.len) e in
    other (place_covered l laid n p (lie k d less) x t.0 t.1).0)

pub beside_past : (h : HeaderView) (size n : ℕ) (parts : List Part) → ArePartsBelow h size n parts → (x : ℕ) → size ≤ x
    → All (λ p. covers (extent_of p) x ≡ false) parts
beside_past h size n parts lie x past k d less =
    let p = get_or parts k d in
    false_from_ne_true (covers (extent_of p) x) (λ e. let t = from_test p.at x (p.at + p.len) e in
    omega (arith, t.1, (lie k d less).below))

-- ---- zeros

pub zeros_at : (l : Layout) → IsLayout l → (n : ℕ) (parts : List Part) → All (IsPart l n) parts → (head : List ℕ) (x : ℕ) → object_of l x ≡ n
    → get_or (parts_zeroed parts head) (offset_of l x) 0 ≡ cond (covered (extents_of parts) x) 0 (get_or head (offset_of l x) 0)
zeros_at l laid n [] lie head x here = refl
zeros_at l laid n (p ∷ parts) lie head x here =
    zeros_at l laid n parts (All-tail (IsPart l n) p parts lie) (zeroed head p.offset p.len) x here
    ∙ ap (cond (covered (extents_of parts) x) 0) (get_or-zeroed head p.offset p.len (offset_of l x))
    ∙ ap (λ b. cond (covered (extents_of parts) x) 0 (cond b 0 (get_or head (offset_of l x) 0))) (same_place l laid n p (All-head (IsPart l n) p parts lie) x here)
    ∙ zeroed_next (covers (extent_of p) x) (covered (extents_of parts) x) (get_or head (offset_of l x) 0)

-- a place of one of the parts is covered
pub any_covered : (parts : List Part) (x k : ℕ) (p : Part) → k < length parts → get_or parts k p ≡ p → p.at ≤ x → x < p.at + p.len → covered (extents_of parts) x ≡ true
any_covered [] x k p less is low high = absurd (omega arith)
any_covered (q ∷ parts) x zero p less is low high =
    ap (λ (e : Part). covers (extent_of e) x || covered (extents_of parts) x) is
    ∙ ap (λ b. b || covered (extents_of parts) x) (to_test p.at x (p.at + p.len) low high)
any_covered (q ∷ parts) x (suc k) p less is low high =
    ap (λ b. covers (extent_of q) x || b) (any_covered parts x k p (omega arith) is low high) ∙ or_right (covers (extent_of q) x) true refl

-- The bytes of a view, put piece by piece where they lie in an extent.
use Rattle.std.proofs.Common.{◌≡◌, ℕ, ◌+◌, ◌-◌, ◌<◌, ◌≤◌, max, Bool, true, false, cond, leb, ltb, ◌&&◌, List, [], ◌∷◌, ◌++◌, length, map, take, drop, get_or, refl, sym, ap, ◌∙◌, subst, arith, leb-true, leb-false, ltb-true, ltb-false}
use Rattle.std.proofs.Math.Seq.{drop-append_seam, take-append_seam}
use Rattle.std.proofs.lemmas.Bool.Decides.{nat_tests}
use Rattle.std.proofs.lemmas.List.FromFn.{get_or-map-range_with_len, length-map-range_with_len}
use Rattle.rbd_kinds.specs.declared.layout.Part.{Part}
use Rattle.rbd_parts.specs.Contents.{window, overwritten, is_within}
use Rattle.rbd_parts.specs.Parts.{parts_written, shifted}
use Rattle.rbd_parts.proofs.ContentsLemmas.{length-window, get_or-window}
use Rattle.rbd_flat.specs.Laws.{covers}
use Rattle.rbd_stands.specs.Condition.{extent_of}
use Rattle.rbd_stands.specs.Reading.{bytes_at_parts}
use Rattle.rbd_stands.proofs.WritePieces.{Behind, hit, last_tells}

-- the parts end within so many bytes from `from` on
abbrev pub Before : (from len : ℕ) → List Part → Type 0
Before from len [] = Unit {0}
Before from len (p ∷ parts) = (p.at + p.len ≤ from + len) × Before from len parts

length_kept : (into : List ℕ) (at : ℕ) (new : List ℕ) → at + length new ≤ length into → length (overwritten into at new) ≡ length into
length_kept into at new within = length-map-range_with_len _ 0 _ ∙ (let h : max (length into) (at + length new) ≡ length into = omega arith in h)

-- one part's bytes in their place
byte_put : (p : Part) (from : ℕ) (flat into : List ℕ) (k : ℕ) → from ≤ p.at → p.at + p.len ≤ from + length into → k < length into
    → get_or (overwritten into (p.at - from) (window flat p.at p.len)) k 0 ≡ cond (covers (extent_of p) (from + k)) (get_or flat (from + k) 0) (get_or into k 0)
byte_put p from flat into k behind within below =
    get_or-map-range_with_len _ 0 _ k k 0 (let h : k < max (length into) (p.at - from + length w) = omega arith in h) (omega arith)
    ∙ go (leb p.at (from + k)) (ltb (from + k) (p.at + p.len)) refl refl
  where
    w : List ℕ
    w = window flat p.at p.len

    len : length w ≡ p.len
    len = length-window flat p.at p.len

    go : (a b : Bool) → leb p.at (from + k) ≡ a → ltb (from + k) (p.at + p.len) ≡ b
        → cond (is_within (p.at - from) (length w) k) (get_or w (k - (p.at - from)) 0) (get_or into k 0) ≡ cond (a && b) (get_or flat (from + k) 0) (get_or into k 0)
    go true true e g =
        let low : p.at ≤ from + k = leb-true _ _ e in
        let high : from + k < p.at + p.len = ltb-true _ _ g in
        let inside : is_within (p.at - from) (length w) k ≡ true = rw len (grind (arith, nat_tests)) in
        ap (λ b. cond b (get_or w (k - (p.at - from)) 0) (get_or into k 0)) inside
        ∙ get_or-window flat p.at p.len (k - (p.at - from)) (omega arith)
        ∙ ap (λ n. get_or flat n 0) (let h : p.at + (k - (p.at - from)) ≡ from + k = omega arith in h)
    go true false e g =
        let low : p.at ≤ from + k = leb-true _ _ e in
        let high : p.at + p.len ≤ from + k = ltb-false _ _ g in
        let outside : is_within (p.at - from) (length w) k ≡ false = rw len (grind (arith, nat_tests)) in
        ap (λ b. cond b (get_or w (k - (p.at - from)) 0) (get_or into k 0)) outside
    go false b e g =
        let low : from + k < p.at = leb-false _ _ e in
        let outside : is_within (p.at - from) (length w) k ≡ false = rw len (grind (arith, nat_tests)) in
        ap (λ b. cond b (get_or w (k - (p.at - from)) 0) (get_or into k 0)) outside

abbrev put_in : (from : ℕ) → List Part → (bytes into : List ℕ) → List ℕ
put_in from parts bytes into = parts_written (map (shifted from) parts) bytes into

front : (p : Part) (flat rest : List ℕ) → take p.len (window flat p.at p.len ++ rest) ≡ window flat p.at p.len
front p flat rest = ap (λ n. take n (window flat p.at p.len ++ rest)) (sym (length-window flat p.at p.len)) ∙ take-append_seam (window flat p.at p.len) rest

back : (p : Part) (flat rest : List ℕ) → drop p.len (window flat p.at p.len ++ rest) ≡ rest
back p flat rest = ap (λ n. drop n (window flat p.at p.len ++ rest)) (sym (length-window flat p.at p.len)) ∙ drop-append_seam (window flat p.at p.len) rest

step : (p : Part) (parts : List Part) (from : ℕ) (flat into : List ℕ)
    → put_in from (p ∷ parts) (bytes_at_parts (p ∷ parts) flat) into ≡ put_in from parts (bytes_at_parts parts flat) (overwritten into (p.at - from) (window flat p.at p.len))
step p parts from flat into =
    ap (λ (bs : List ℕ). put_in from parts bs (overwritten into (p.at - from) (take p.len (bytes_at_parts (p ∷ parts) flat)))) (back p flat (bytes_at_parts parts flat))
    ∙ ap (λ (bs : List ℕ). put_in from parts (bytes_at_parts parts flat) (overwritten into (p.at - from) bs)) (front p flat (bytes_at_parts parts flat))

put_within : (p : Part) (from : ℕ) (flat into : List ℕ) → from ≤ p.at → p.at + p.len ≤ from + length into → length (overwritten into (p.at - from) (window flat p.at p.len)) ≡ length into
put_within p from flat into behind within =
    length_kept into (p.at - from) (window flat p.at p.len) (let len : length (window flat p.at p.len) ≡ p.len = length-window flat p.at p.len in omega arith)

pub length_put : (parts : List Part) (from : ℕ) (flat into : List ℕ) → Behind from parts → Before from (length into) parts
    → length (put_in from parts (bytes_at_parts parts flat) into) ≡ length into
length_put [] from flat into behind within = refl
length_put (p ∷ parts) from flat into behind within =
    let same = put_within p from flat into behind.0 within.0 in
    ap length (step p parts from flat into)
    ∙ length_put parts from flat (overwritten into (p.at - from) (window flat p.at p.len)) behind.1 (subst (λ n. Before from n parts) (sym same) within.1)
    ∙ same

pub bytes_put : (parts : List Part) (from : ℕ) (flat into : List ℕ) (k : ℕ) → Behind from parts → Before from (length into) parts → k < length into
    → get_or (put_in from parts (bytes_at_parts parts flat) into) k 0 ≡ cond (hit parts (from + k)) (get_or flat (from + k) 0) (get_or into k 0)
bytes_put [] from flat into k behind within below = refl
bytes_put (p ∷ parts) from flat into k behind within below =
    let same = put_within p from flat into behind.0 within.0 in
    let next = overwritten into (p.at - from) (window flat p.at p.len) in
    ap (λ (bs : List ℕ). get_or bs k 0) (step p parts from flat into)
    ∙ bytes_put parts from flat next k behind.1 (subst (λ n. Before from n parts) (sym same) within.1) (subst (λ n. k < n) (sym same) below)
    ∙ ap (λ o. cond (hit parts (from + k)) (get_or flat (from + k) 0) o) (byte_put p from flat into k behind.0 within.0 below)
    ∙ last_tells (covers (extent_of p) (from + k)) (hit parts (from + k)) (get_or flat (from + k) 0) (get_or into k 0)

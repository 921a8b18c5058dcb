-- Parts that are written one after another, in a head that was lengthened first.
use Rattle.std.proofs.Common.{◌≡◌, ℕ, ◌+◌, ◌-◌, ◌<◌, ◌≤◌, cond, List, [], ◌∷◌, Some, length, get_or, take, drop, max, refl, sym, ap, ◌∙◌, arith, add-one, drop-cons, length-take, length-drop}
use Rattle.std.specs.Prelude.{zero, suc, slice_get}
use Rattle.std.proofs.lemmas.List.FromFn.{fill_by_all}
use Rattle.rbd_kinds.specs.declared.layout.Part.{Part}
use Rattle.rbd_parts.specs.Contents.{overwritten, is_within}
use Rattle.rbd_kinds.specs.Parts.{parts_len}
use Rattle.rbd_parts.specs.Parts.{parts_written, last_end, EndWithin}
use Rattle.rbd_parts.proofs.ContentsLemmas.{length_overwritten, get_or-overwritten_any, overwritten-same}

-- to lengthen before or after is one
overwritten_swapped : (old : List ℕ) (end start : ℕ) (new : List ℕ)
    → overwritten (overwritten old end []) start new ≡ overwritten (overwritten old start new) end []
overwritten_swapped old end start new =
    fill_by_all (λ i. cond (is_within end 0 i) (get_or [] (i - end) 0) (get_or (overwritten old start new) i 0)) _
    (max (length (overwritten old start new)) (end + 0)) 0
    (let a = length_overwritten (overwritten old end []) start new in
    let b = length_overwritten old end [] in
    let c = length_overwritten old start new in
    omega arith)
    (λ k h. let a = get_or-overwritten_any (overwritten old end []) start new k in
    let b = get_or-overwritten_any old end [] k in
    let c = get_or-overwritten_any old start new k in
    grind arith)

parts_lengthened : (parts : List Part) (bytes head : List ℕ) (end : ℕ)
    → parts_written parts bytes (overwritten head end []) ≡ overwritten (parts_written parts bytes head) end []
parts_lengthened [] bytes head end = refl
parts_lengthened (p ∷ parts) bytes head end =
    ap (parts_written parts (drop p.len bytes)) (overwritten_swapped head end p.offset (take p.len bytes))
    ∙ parts_lengthened parts (drop p.len bytes) (overwritten head p.offset (take p.len bytes)) end

long_enough : (parts : List Part) (bytes head : List ℕ) → length bytes ≡ parts_len parts
    → max (length head) (last_end parts) ≤ length (parts_written parts bytes head)
long_enough [] bytes head long = omega arith
long_enough (p ∷ parts) bytes head long =
    let rest = long_enough parts (drop p.len bytes) (overwritten head p.offset (take p.len bytes)) (length-drop p.len bytes ∙ omega arith) in
    let now = length_overwritten head p.offset (take p.len bytes) in
    let first : length (take p.len bytes) ≡ p.len = length-take p.len bytes ∙ omega arith in
    omega arith

-- to lengthen first up to the end of all parts changes nothing
pub parts_written-lengthened : (parts : List Part) (bytes head : List ℕ) → length bytes ≡ parts_len parts
    → parts_written parts bytes (overwritten head (last_end parts) []) ≡ parts_written parts bytes head
parts_written-lengthened parts bytes head long =
    parts_lengthened parts bytes head (last_end parts)
    ∙ sym (overwritten-same (parts_written parts bytes head) (last_end parts) (length (parts_written parts bytes head)) refl
    (let enough = long_enough parts bytes head long in omega arith))

-- each part ends by then
pub ends_within : (parts : List Part) (len : ℕ) → last_end parts ≤ len → EndWithin len parts
ends_within parts len within k p is = go parts k within is
  where
    go : (parts : List Part) (k : ℕ) → last_end parts ≤ len → slice_get parts k ≡ Some p → p.offset + p.len ≤ len
    go [] k within is = cc
    go (q ∷ parts) zero within is = let same : q ≡ p = cc in let end = ap (λ (x : Part). x.offset + x.len) same in omega arith
    go (q ∷ parts) (suc k) within is = go parts k (omega arith) is

next_of : (parts : List Part) (i : ℕ) (d : Part) → i < length parts → drop i parts ≡ get_or parts i d ∷ drop (i + 1) parts
next_of parts i d h = drop-cons parts i d h ∙ ap (λ n. get_or parts i d ∷ drop n parts) (sym (add-one i))

-- the next part of those that are left
pub next_written : (parts : List Part) (i : ℕ) (d : Part) (bytes head : List ℕ) → i < length parts
    → parts_written (drop (i + 1) parts) (drop (get_or parts i d).len bytes) (overwritten head (get_or parts i d).offset (take (get_or parts i d).len bytes))
    ≡ parts_written (drop i parts) bytes head
next_written parts i d bytes head h = sym (ap (λ ps. parts_written ps bytes head) (next_of parts i d h))

pub next_len : (parts : List Part) (i : ℕ) (d : Part) → i < length parts
    → parts_len (drop i parts) ≡ (get_or parts i d).len + parts_len (drop (i + 1) parts)
next_len parts i d h = ap parts_len (next_of parts i d h)

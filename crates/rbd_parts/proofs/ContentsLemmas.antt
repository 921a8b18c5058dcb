-- Bytes that were put together from parts are those that the definitions give place by place.
use Rattle.std.proofs.Common.{◌≡◌, ℕ, ◌+◌, ◌-◌, ◌<◌, ◌≤◌, cond, List, [], ◌++◌, length, get_or, take, drop, replicate, min, max, ap, ◌∙◌, inl, inr, arith}
use borrow.Rule.Slice.PartMut.{put_mid}
use Rattle.std.proofs.lemmas.Bool.{cases_lt}
use Rattle.std.proofs.lemmas.List.{places, get_or_past}
use Rattle.std.proofs.lemmas.List.FromFn.{fill_by_all, length-map-range_with_len, get_or-map-range_with_len}
use Rattle.rbd_parts.specs.Contents.{window, overwritten, zeroed, is_within}

pub window-parts : (bytes : List ℕ) (start total from count past : ℕ)
    → from ≡ min start (length bytes) → count ≡ min (length bytes - from) total → past + count ≡ total
    → take count (take (length bytes - from) (drop from bytes)) ++ replicate past 0 ≡ window bytes start total
window-parts bytes start total from count past f c p =
    fill_by_all (λ i. get_or bytes (start + i) 0) _ total 0 (grind (arith, places)) (λ k h. grind (arith, places))

pub overwritten-put : (old new : List ℕ) (start count : ℕ) → count ≡ length new → start + length new ≤ length old
    → put_mid start count old new ≡ overwritten old start new
overwritten-put old new start count e within =
    fill_by_all (λ i. cond (is_within start (length new) i) (get_or new (i - start) 0) (get_or old i 0)) _
    (max (length old) (start + length new)) 0
    (grind (arith, places)) (λ k h. grind (arith, places))

pub zeroed-put : (old : List ℕ) (start len from count : ℕ) (zeros : List ℕ)
    → from ≡ min start (length old) → count ≡ min len (length old - from) → zeros ≡ replicate count 0
    → put_mid from count old zeros ≡ zeroed old start len
zeroed-put old start len from count zeros f c z =
    fill_by_all (λ i. cond (is_within start len i) 0 (get_or old i 0)) _ (length old) 0
    (rw z (grind (arith, places))) (λ k h. rw z (grind (arith, places)))

pub overwritten-grown : (old : List ℕ) (len held : ℕ) → held ≡ length old → held < len
    → take len old ++ replicate (len - held) 0 ≡ overwritten old len []
overwritten-grown old len held e short =
    fill_by_all (λ i. cond (is_within len 0 i) (get_or [] (i - len) 0) (get_or old i 0)) _ (max (length old) (len + 0)) 0
    (grind (arith, places)) (λ k h. grind (arith, places))

pub overwritten-same : (old : List ℕ) (len held : ℕ) → held ≡ length old → len ≤ held → old ≡ overwritten old len []
overwritten-same old len held e long =
    fill_by_all (λ i. cond (is_within len 0 i) (get_or [] (i - len) 0) (get_or old i 0)) _ (max (length old) (len + 0)) 0
    (omega arith) (λ k h. grind (arith, places))

pub length_overwritten : (old : List ℕ) (start : ℕ) (new : List ℕ) → length (overwritten old start new) ≡ max (length old) (start + length new)
length_overwritten old start new = length-map-range_with_len _ 0 _

pub get_or-overwritten : (old : List ℕ) (start : ℕ) (new : List ℕ) (i : ℕ) → i < max (length old) (start + length new)
    → get_or (overwritten old start new) i 0 ≡ cond (is_within start (length new) i) (get_or new (i - start) 0) (get_or old i 0)
get_or-overwritten old start new i h = get_or-map-range_with_len _ 0 _ i i 0 h (omega arith)

-- to lengthen first changes nothing
pub overwritten-overwritten : (old : List ℕ) (start : ℕ) (new : List ℕ) (end : ℕ) → end ≡ start + length new
    → overwritten (overwritten old end []) start new ≡ overwritten old start new
overwritten-overwritten old start new end e =
    fill_by_all (λ i. cond (is_within start (length new) i) (get_or new (i - start) 0) (get_or old i 0)) _
    (max (length old) (start + length new)) 0
    (length_overwritten (overwritten old end []) start new ∙ (let l : length (overwritten old end []) ≡ max (length old) (end + 0) = length_overwritten old end [] in omega arith))
    (λ k h. let l : length (overwritten old end []) ≡ max (length old) (end + 0) = length_overwritten old end [] in
    get_or-overwritten (overwritten old end []) start new k (omega arith)
    ∙ ap (cond (is_within start (length new) k) (get_or new (k - start) 0))
    (get_or-overwritten old end [] k (omega arith) ∙ grind arith))

-- place by place, also past the end
pub get_or-overwritten_any : (old : List ℕ) (start : ℕ) (new : List ℕ) (i : ℕ)
    → get_or (overwritten old start new) i 0 ≡ cond (is_within start (length new) i) (get_or new (i - start) 0) (get_or old i 0)
get_or-overwritten_any old start new i = elim (cases_lt i (max (length old) (start + length new))) [
  | inl below ↦ get_or-overwritten old start new i below
  | inr past ↦
      get_or_past (overwritten old start new) i 0 (rw length_overwritten past)
      ∙ (let end : get_or old i 0 ≡ 0 = get_or_past old i 0 (omega arith) in grind arith)
]

pub length-zeroed : (old : List ℕ) (start count : ℕ) → length (zeroed old start count) ≡ length old
length-zeroed old start count = length-map-range_with_len _ 0 _

pub get_or-zeroed : (old : List ℕ) (start count i : ℕ)
    → get_or (zeroed old start count) i 0 ≡ cond (is_within start count i) 0 (get_or old i 0)
get_or-zeroed old start count i = elim (cases_lt i (length old)) [
  | inl below ↦ get_or-map-range_with_len _ 0 _ i i 0 below (omega arith)
  | inr past ↦
      get_or_past (zeroed old start count) i 0 (rw length-zeroed past)
      ∙ (let end : get_or old i 0 ≡ 0 = get_or_past old i 0 past in grind arith)
]

pub length-window : (bytes : List ℕ) (start count : ℕ) → length (window bytes start count) ≡ count
length-window bytes start count = length-map-range_with_len _ 0 _

pub get_or-window : (bytes : List ℕ) (start count i : ℕ) → i < count → get_or (window bytes start count) i 0 ≡ get_or bytes (start + i) 0
get_or-window bytes start count i below = get_or-map-range_with_len _ 0 _ i i 0 below (omega arith)

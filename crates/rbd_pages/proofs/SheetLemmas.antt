-- Changes of one page of an arena.
use Rattle.std.proofs.Common.{◌≡◌, ℕ, ◌+◌, ◌-◌, ◌<◌, ◌≤◌, cond, List, [], ◌∷◌, ◌++◌, length, get_or, set, take, drop, replicate, min, refl, sym, ap, ◌∙◌, subst, inl, inr, arith}
use Rattle.std.specs.Prelude.{zero, suc}
use Rattle.std.proofs.lemmas.Bool.{cases_lt}
use Rattle.std.proofs.lemmas.List.{get_or_past, get_or_append_left, get_or-set_same, get_or-set_other, get_or_push, length_push, get_or_read, take_at, get_or-replicate, length-replicate, places}
use Rattle.std.proofs.lemmas.List.FromFn.{fill_by_all}
use Rattle.rbd_parts.specs.Contents.{overwritten, zeroed, is_within, window}
use Rattle.rbd_parts.proofs.ContentsLemmas.{length_overwritten, get_or-overwritten_any, length-zeroed, get_or-zeroed}
use Rattle.rbd_pages.specs.Sheets.{Sheet, Changed, free_sheet, count_at, in_use}

-- what is named is there
pub within : (sheets : List Sheet) (i : ℕ) → 0 < count_at sheets i → i < length sheets
within sheets i named = elim (cases_lt i (length sheets)) [
  | inl below ↦ below
  | inr past ↦ let none : count_at sheets i ≡ 0 = ap (λ (s : Sheet). s.count) (get_or_past sheets i free_sheet past) in omega arith
]

pub in_use-set : (sheets : List Sheet) (i : ℕ) (s : Sheet) → i < length sheets
    → in_use (set sheets i s) + min (count_at sheets i) 1 ≡ in_use sheets + min s.count 1
in_use-set [] i s below = omega arith
in_use-set (t ∷ sheets) zero s below = omega arith
in_use-set (t ∷ sheets) (suc i) s below = let rest = in_use-set sheets i s (omega arith) in omega arith

pub in_use-push : (sheets : List Sheet) (s : Sheet) → in_use (sheets ++ s ∷ []) ≡ in_use sheets + min s.count 1
in_use-push [] s = omega arith
in_use-push (t ∷ sheets) s = let rest = in_use-push sheets s in omega arith

pub in_use-le-length : (sheets : List Sheet) → in_use sheets ≤ length sheets
in_use-le-length [] = omega arith
in_use-le-length (s ∷ sheets) = let rest = in_use-le-length sheets in omega arith

-- a page with another one in its place
pub changed_set : (sheets : List Sheet) (i : ℕ) (s : Sheet) → i < length sheets → Changed i sheets (set sheets i s)
changed_set sheets i s below = record {
  others = λ j apart. get_or-set_other sheets i j s free_sheet apart;
  used =
      in_use-set sheets i s below
      ∙ ap (λ (t : Sheet). in_use sheets + min t.count 1) (sym (get_or-set_same sheets i s free_sheet below));
}

-- one more page
pub changed_push : (sheets : List Sheet) (s : Sheet) → Changed (length sheets) sheets (sheets ++ s ∷ [])
changed_push sheets s = record {
  others = λ j apart. elim (cases_lt j (length sheets)) [
    | inl below ↦ get_or_append_left sheets (s ∷ []) free_sheet j below
    | inr past ↦
        get_or_past (sheets ++ s ∷ []) j free_sheet (let l = length_push sheets s in grind (arith, apart))
        ∙ sym (get_or_past sheets j free_sheet past)
  ];
  used =
      let old = get_or_past sheets (length sheets) free_sheet (omega arith) in
      let new = get_or_push sheets s free_sheet (length sheets) refl in
      let sum = in_use-push sheets s in
      let old_count : count_at sheets (length sheets) ≡ 0 = ap (λ (t : Sheet). t.count) old in
      let new_count : count_at (sheets ++ s ∷ []) (length sheets) ≡ s.count = ap (λ (t : Sheet). t.count) new in
      omega arith;
}

-- ---- in terms of the arena's fields: `items` are the pages, and `now` the arena's value

pub changed_at : (items now : List Sheet) (i : ℕ) (s : Sheet) → items ≡ now → i < length items → Changed i now (set items i s)
changed_at items now i s is below = subst (λ sheets. Changed i sheets (set items i s)) is (changed_set items i s below)

pub within_items : (items now : List Sheet) (i : ℕ) → items ≡ now → 0 < count_at now i → i < length items
within_items items now i is named = subst (λ sheets. i < length sheets) (sym is) (within now i named)

-- what was read of a page
pub count_read : (items : List Sheet) (i : ℕ) (s : Sheet) → i < length items → s ≡ get_or items i s → s.count ≡ count_at items i
count_read items i s below read = ap (λ (t : Sheet). t.count) (get_or_read items i s below read free_sheet)

pub changed_grown : (items now new : List Sheet) (s : Sheet) (i : ℕ) → items ≡ now → i ≡ length items → new ≡ items ++ s ∷ [] → Changed i now new
changed_grown items now new s i is at pushed = rw (at, pushed) (subst (λ sheets. Changed (length items) sheets (items ++ s ∷ [])) is (changed_push items s))

-- past the last page none is named, and there the next one comes
pub none_past : (items now : List Sheet) (i : ℕ) → items ≡ now → i ≡ length items → count_at now i ≡ 0
none_past items now i is at = subst (λ sheets. count_at sheets i ≡ 0) is (ap (λ (s : Sheet). s.count) (get_or_past items i free_sheet (omega (arith, at))))

pub sheet_grown : (items new : List Sheet) (s : Sheet) (i : ℕ) → i ≡ length items → new ≡ items ++ s ∷ [] → get_or new i free_sheet ≡ s
sheet_grown items new s i at pushed = ap (λ sheets. get_or sheets i free_sheet) pushed ∙ get_or_push items s free_sheet i (sym at)

-- ---- one page's bytes

pub put_byte : (old new bytes : List ℕ) (at len k : ℕ) → new ≡ overwritten old at bytes → len ≡ length old → at + length bytes ≤ length old
    → get_or (take len (new ++ drop (length new) old)) k 0 ≡ cond (is_within at (length bytes) k) (get_or bytes (k - at) 0) (get_or old k 0)
put_byte old new bytes at len k written l within =
    let long : length new ≡ len = ap length written ∙ length_overwritten old at bytes ∙ omega arith in
    ap (λ xs. get_or xs k 0) (take_at new (drop (length new) old) len long ∙ written) ∙ get_or-overwritten_any old at bytes k

pub clear_byte : (old new : List ℕ) (at count len k : ℕ) → new ≡ zeroed old at count → len ≡ length old
    → get_or (take len (new ++ drop (length new) old)) k 0 ≡ cond (is_within at count k) 0 (get_or old k 0)
clear_byte old new at count len k cleared l =
    let long : length new ≡ len = ap length cleared ∙ length-zeroed old at count ∙ sym l in
    ap (λ xs. get_or xs k 0) (take_at new (drop (length new) old) len long ∙ cleared) ∙ get_or-zeroed old at count k

-- ---- a read of one page

pub read_none : (bytes : List ℕ) (at count : ℕ) → length bytes ≡ 0 → replicate count 0 ≡ window bytes at count
read_none [] at count none =
    fill_by_all (λ i. get_or [] (at + i) 0) (replicate count 0) count 0 (length-replicate count 0) (λ k h. get_or-replicate count k 0 0 h)
read_none (b ∷ bytes) at count none = absurd (let f : ⊥ = omega arith in f)

pub read_whole : (bytes : List ℕ) (at count n : ℕ) → at + count ≤ length bytes → n ≡ count → take n (drop at bytes) ≡ window bytes at count
read_whole bytes at count n within e =
    fill_by_all (λ i. get_or bytes (at + i) 0) (take n (drop at bytes)) count 0 (grind (arith, places)) (λ k h. grind (arith, places))

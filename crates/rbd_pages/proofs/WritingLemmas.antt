-- The loops that write bytes on a list's pages, and make them zero.
use Rattle.std.proofs.Common.{◌≡◌, ◌≢◌, ℕ, ◌+◌, ◌-◌, ◌/◌, ◌%◌, ◌<◌, ◌≤◌, false, cond, List, length, get_or, take, drop, min, length-drop, length-take, refl, sym, ap, ◌∙◌, subst, inl, inr, arith}
use Rattle.std.proofs.lemmas.Bool.{cases_lt}
use Rattle.std.proofs.lemmas.List.{get_or_past, get_or-drop, get_or-take, places, take_all}
use Rattle.rbd_pages.specs.Sheets.{Sheet, Changed, sheet_at, count_at, bytes_at}
use Rattle.rbd_parts.specs.Contents.{is_within}
use Rattle.rbd_pages.specs.Paging.{byte_on_pages, AreCounted, IsPageReady, IsChanged, IsWritten, IsZeroed}
use Rattle.rbd_pages.proofs.PagingLemmas.{changed_byte, changed_refl, changed_trans, counted_changed, in_place}

-- what is left of a write: `rest` from byte `next` on
pub record IsWriting (pages : List ℕ) (at : ℕ) (bytes : List ℕ) (old : List Sheet) (next : ℕ) (rest : List ℕ) (new : List Sheet) : Type 0 where
  pub changed : IsChanged pages old new
  pub ready : (j : ℕ) → j < length rest → IsPageReady new pages ((next + j) / 4096) (get_or rest j 0)
  pub left : (i : ℕ) → cond (is_within next (length rest) i) (get_or rest (i - next) 0) (byte_on_pages new pages i)
      ≡ cond (is_within at (length bytes) i) (get_or bytes (i - at) 0) (byte_on_pages old pages i)
  pub within : next + length rest ≤ 33554432
  pub place : next + length rest ≡ at + length bytes
  pub behind : at ≤ next
  pub rest_is : (page : ℕ) → ((j : ℕ) → j < length bytes → get_or pages ((at + j) / 4096) 0 ≢ page) → sheet_at new page ≡ sheet_at old page

pub record IsZeroing (pages : List ℕ) (at len : ℕ) (old : List Sheet) (next left : ℕ) (new : List Sheet) : Type 0 where
  pub changed : IsChanged pages old new
  pub ready : (j : ℕ) → j < left → IsPageReady new pages ((next + j) / 4096) 0
  pub bytes : (i : ℕ) → cond (is_within next left i) 0 (byte_on_pages new pages i) ≡ cond (is_within at len i) 0 (byte_on_pages old pages i)
  pub within : next + left ≤ 33554432
  pub place : next + left ≡ at + len
  pub behind : at ≤ next
  pub rest_is : (page : ℕ) → ((j : ℕ) → j < len → get_or pages ((at + j) / 4096) 0 ≢ page) → sheet_at new page ≡ sheet_at old page

-- some of what is left, and the rest of it
split_write : (next count i v : ℕ) (rest : List ℕ) → count ≤ length rest
    → cond (is_within (next + count) (length (drop count rest)) i) (get_or (drop count rest) (i - (next + count)) 0)
    (cond (is_within next count i) (get_or (take count rest) (i - next) 0) v)
    ≡ cond (is_within next (length rest) i) (get_or rest (i - next) 0) v
split_write next count i v rest few = elim (cases_lt i next) [
  | inl before ↦ grind (arith, places)
  | inr from ↦ elim (cases_lt i (next + count)) [
    | inl first ↦ let is : get_or (take count rest) (i - next) 0 ≡ get_or rest (i - next) 0 = grind (arith, places) in grind (arith, is, length-drop count rest)
    | inr later ↦ let is : get_or (drop count rest) (i - (next + count)) 0 ≡ get_or rest (i - next) 0 = grind (arith, places) in grind (arith, is, length-drop count rest)
  ]
]

split_zero : (next count left i v : ℕ) → count ≤ left
    → cond (is_within (next + count) (left - count) i) 0 (cond (is_within next count i) 0 v) ≡ cond (is_within next left i) 0 v
split_zero next count left i v few = grind arith

pub writing_begun : (pages : List ℕ) (at : ℕ) (bytes : List ℕ) (a : List Sheet)
    → ((j : ℕ) → j < length bytes → IsPageReady a pages ((at + j) / 4096) (get_or bytes j 0)) → at + length bytes ≤ 33554432
    → IsWriting pages at bytes a at bytes a
writing_begun pages at bytes a ready within = record {
  changed = changed_refl a pages;
  ready = ready;
  left = λ i. refl;
  within = within;
  place = refl;
  behind = omega arith;
  rest_is = λ page apart. refl;
}

pub writing_done : (pages : List ℕ) (at : ℕ) (bytes : List ℕ) (old : List Sheet) (next : ℕ) (rest : List ℕ) (new : List Sheet)
    → IsWriting pages at bytes old next rest new → length rest ≡ 0 → IsWritten pages at bytes old new
writing_done pages at bytes old next rest new w none = record {
  changed = w.changed;
  bytes_are = λ i.
      sym (ap (λ t. cond t (get_or rest (i - next) 0) (byte_on_pages new pages i)) (let off : is_within next (length rest) i ≡ false = grind (arith, none) in off)) ∙ w.left i;
  rest = w.rest_is;
}

-- the page where the rest begins
pub begins : (pages : List ℕ) (a : List Sheet) (next byte : ℕ) → IsPageReady a pages ((next + 0) / 4096) byte → IsPageReady a pages (next / 4096) byte
begins pages a next byte ready = subst (λ n. IsPageReady a pages (n / 4096) byte) (let same : next + 0 ≡ next = omega arith in same) ready

pub stored_there : (pages : List ℕ) (at : ℕ) (bytes : List ℕ) (old : List Sheet) (next : ℕ) (rest : List ℕ) (new : List Sheet) (count k : ℕ)
    → IsWriting pages at bytes old next rest new → count ≡ min (length rest) (4096 - next % 4096)
    → get_or (take count rest) k 0 ≢ 0 → length (bytes_at new (get_or pages (next / 4096) 0)) ≡ 4096
stored_there pages at bytes old next rest new count k w c some = elim (cases_lt k count) [
  | inr past ↦ absurd (some (get_or_past (take count rest) k 0 (let l = length-take count rest in omega arith)))
  | inl below ↦
      let is : get_or (take count rest) k 0 ≡ get_or rest k 0 = get_or-take count rest k 0 below in
      let same : (next + k) / 4096 ≡ next / 4096 = omega arith in
      let ready = subst (λ m. IsPageReady new pages m (get_or rest k 0)) same (w.ready k (omega arith)) in
      ready.stored (λ zero. some (is ∙ zero))
]

-- a page at none of the places is not the one that was changed last
touched_last : (a b : List Sheet) (pages : List ℕ) (at next len page : ℕ) → Changed (get_or pages (next / 4096) 0) a b
    → at ≤ next → next < at + len → ((j : ℕ) → j < len → get_or pages ((at + j) / 4096) 0 ≢ page) → sheet_at b page ≡ sheet_at a page
touched_last a b pages at next len page change from below apart =
    change.others page (λ e. apart (next - at) (omega arith)
    (ap (λ n. get_or pages (n / 4096) 0) (let here : at + (next - at) ≡ next = omega arith in here) ∙ sym e))

pub writing_more : (pages : List ℕ) (at : ℕ) (bytes : List ℕ) (old : List Sheet) (next : ℕ) (rest : List ℕ) (a b : List Sheet) (count : ℕ) (front back : List ℕ)
    → IsWriting pages at bytes old next rest a → AreCounted old pages → 0 < length rest → count ≡ min (length rest) (4096 - next % 4096)
    → front ≡ take count rest → back ≡ drop count rest
    → Changed (get_or pages (next / 4096) 0) a b → count_at b (get_or pages (next / 4096) 0) ≡ count_at a (get_or pages (next / 4096) 0)
    → length (bytes_at b (get_or pages (next / 4096) 0)) ≡ length (bytes_at a (get_or pages (next / 4096) 0))
    → ((j : ℕ) → get_or (bytes_at b (get_or pages (next / 4096) 0)) j 0
    ≡ cond (is_within (next % 4096) (length front) j) (get_or front (j - next % 4096) 0) (get_or (bytes_at a (get_or pages (next / 4096) 0)) j 0))
    → length b ≡ length a → IsWriting pages at bytes old (next + count) back b
writing_more pages at bytes old next rest a b count front back w counted some c f r change counts lengths is places =
    let first = begins pages a next (get_or rest 0 0) (w.ready 0 some) in
    let counted_a = counted_changed old a pages w.changed counted in
    let long : length front ≡ count = ap length f ∙ length-take count rest ∙ omega arith in
    let step = in_place a b pages (next / 4096) (get_or rest 0 0) first change counts (λ full. lengths ∙ full) places in
    let left_long : length (drop count rest) ≡ length rest - count = length-drop count rest in
    record {
      changed = changed_trans old a b pages w.changed step;
      ready = λ j below.
          let down : j < length rest - count = subst (λ n. j < n) (ap length r ∙ left_long) below in
          let place : next + (count + j) ≡ next + count + j = omega arith in
          let byte : get_or rest (count + j) 0 ≡ get_or back j 0 = sym (ap (λ xs. get_or xs j 0) r ∙ get_or-drop count rest j 0) in
          subst (λ x. IsPageReady b pages ((next + count + j) / 4096) x) byte
          (subst (λ n. IsPageReady b pages (n / 4096) (get_or rest (count + j) 0)) place (step.ready ((next + (count + j)) / 4096) (get_or rest (count + j) 0) (w.ready (count + j) (omega arith))));
      left = λ i.
          let one = changed_byte a b pages next count i (λ n. get_or (take count rest) n 0) counted_a first.there (omega arith) first.alone change
          (λ j. is j ∙ ap (λ xs. cond (is_within (next % 4096) (length front) j) (get_or xs (j - next % 4096) 0) (get_or (bytes_at a (get_or pages (next / 4096) 0)) j 0)) f
          ∙ ap (λ n. cond (is_within (next % 4096) n j) (get_or (take count rest) (j - next % 4096) 0) (get_or (bytes_at a (get_or pages (next / 4096) 0)) j 0)) long) in
          ap (λ xs. cond (is_within (next + count) (length xs) i) (get_or xs (i - (next + count)) 0) (byte_on_pages b pages i)) r
          ∙ ap (cond (is_within (next + count) (length (drop count rest)) i) (get_or (drop count rest) (i - (next + count)) 0)) one
          ∙ split_write next count i (byte_on_pages a pages i) rest (omega arith)
          ∙ w.left i;
      within = let l = ap length r ∙ left_long in let before = w.within in omega arith;
      place = let l = ap length r ∙ left_long in let before = w.place in omega arith;
      behind = let before = w.behind in omega arith;
      rest_is = λ page apart. touched_last a b pages at next (length bytes) page change w.behind (let p = w.place in omega arith) apart ∙ w.rest_is page apart;
    }

-- the same in terms of the page that was looked up
pub writing_more_at : (pages : List ℕ) (at : ℕ) (bytes : List ℕ) (old : List Sheet) (next : ℕ) (rest : List ℕ) (a b : List Sheet) (count : ℕ) (front back : List ℕ) (p : ℕ)
    → p ≡ get_or pages (next / 4096) 0
    → IsWriting pages at bytes old next rest a → AreCounted old pages → 0 < length rest → count ≡ min (length rest) (4096 - next % 4096)
    → front ≡ take count rest → back ≡ drop count rest
    → Changed p a b → count_at b p ≡ count_at a p → length (bytes_at b p) ≡ length (bytes_at a p)
    → ((j : ℕ) → get_or (bytes_at b p) j 0
    ≡ cond (is_within (next % 4096) (length front) j) (get_or front (j - next % 4096) 0) (get_or (bytes_at a p) j 0))
    → length b ≡ length a → IsWriting pages at bytes old (next + count) back b
writing_more_at pages at bytes old next rest a b count front back p e w counted some c f r change counts lengths is places =
    writing_more pages at bytes old next rest a b count front back w counted some c f r
    (subst (λ x. Changed x a b) e change) (subst (λ x. count_at b x ≡ count_at a x) e counts)
    (subst (λ x. length (bytes_at b x) ≡ length (bytes_at a x)) e lengths)
    (λ j. subst (λ x. get_or (bytes_at b x) j 0 ≡ cond (is_within (next % 4096) (length front) j) (get_or front (j - next % 4096) 0) (get_or (bytes_at a x) j 0)) e (is j)) places

-- a write that one page takes whole
pub written_on_one : (pages : List ℕ) (at : ℕ) (bytes : List ℕ) (a b : List Sheet) (p : ℕ) → p ≡ get_or pages (at / 4096) 0
    → ((byte : ℕ) → IsPageReady a pages (at / 4096) byte) → AreCounted a pages → 0 < length bytes → length bytes ≤ 4096 - at % 4096
    → at + length bytes ≤ 33554432
    → Changed p a b → count_at b p ≡ count_at a p → length (bytes_at b p) ≡ length (bytes_at a p)
    → ((j : ℕ) → get_or (bytes_at b p) j 0
    ≡ cond (is_within (at % 4096) (length bytes) j) (get_or bytes (j - at % 4096) 0) (get_or (bytes_at a p) j 0))
    → length b ≡ length a → IsWritten pages at bytes a b
written_on_one pages at bytes a b p e ready counted some fits within change counts lengths is places =
    writing_done pages at bytes a (at + length bytes) (drop (length bytes) bytes) b
    (writing_more_at pages at bytes a at bytes a b (length bytes) bytes (drop (length bytes) bytes) p e
    (writing_begun pages at bytes a
    (λ j below. subst (λ k. IsPageReady a pages k (get_or bytes j 0)) (let same : at / 4096 ≡ (at + j) / 4096 = omega arith in same) (ready (get_or bytes j 0))) within)
    counted some (omega arith) (sym (take_all (length bytes) bytes (omega arith))) refl change counts lengths is places)
    (length-drop (length bytes) bytes ∙ omega arith)

pub zeroing_begun : (pages : List ℕ) (at len : ℕ) (a : List Sheet)
    → ((j : ℕ) → j < len → IsPageReady a pages ((at + j) / 4096) 0) → at + len ≤ 33554432 → IsZeroing pages at len a at len a
zeroing_begun pages at len a ready within = record {
  changed = changed_refl a pages;
  ready = ready;
  bytes = λ i. refl;
  within = within;
  place = refl;
  behind = omega arith;
  rest_is = λ page apart. refl;
}

pub zeroing_done : (pages : List ℕ) (at len : ℕ) (old : List Sheet) (next left : ℕ) (new : List Sheet)
    → IsZeroing pages at len old next left new → left ≡ 0 → IsZeroed pages at len old new
zeroing_done pages at len old next left new z none = record {
  changed = z.changed;
  bytes_are = λ i. sym (ap (λ t. cond t 0 (byte_on_pages new pages i)) (let off : is_within next left i ≡ false = grind (arith, none) in off)) ∙ z.bytes i;
  rest = z.rest_is;
}

pub zeroing_more : (pages : List ℕ) (at len : ℕ) (old : List Sheet) (next left : ℕ) (a b : List Sheet) (count : ℕ)
    → IsZeroing pages at len old next left a → AreCounted old pages → 0 < left → count ≡ min left (4096 - next % 4096)
    → Changed (get_or pages (next / 4096) 0) a b → count_at b (get_or pages (next / 4096) 0) ≡ count_at a (get_or pages (next / 4096) 0)
    → length (bytes_at b (get_or pages (next / 4096) 0)) ≡ length (bytes_at a (get_or pages (next / 4096) 0))
    → ((j : ℕ) → get_or (bytes_at b (get_or pages (next / 4096) 0)) j 0
    ≡ cond (is_within (next % 4096) count j) 0 (get_or (bytes_at a (get_or pages (next / 4096) 0)) j 0))
    → length b ≡ length a → IsZeroing pages at len old (next + count) (left - count) b
zeroing_more pages at len old next left a b count z counted some c change counts lengths is places =
    let first = begins pages a next 0 (z.ready 0 some) in
    let counted_a = counted_changed old a pages z.changed counted in
    let step = in_place a b pages (next / 4096) 0 first change counts (λ full. lengths ∙ full) places in
    record {
      changed = changed_trans old a b pages z.changed step;
      ready = λ j below.
          let place : next + (count + j) ≡ next + count + j = omega arith in
          subst (λ n. IsPageReady b pages (n / 4096) 0) place (step.ready ((next + (count + j)) / 4096) 0 (z.ready (count + j) (omega arith)));
      bytes = λ i.
          ap (cond (is_within (next + count) (left - count) i) 0)
          (changed_byte a b pages next count i (λ n. 0) counted_a first.there (omega arith) first.alone change is)
          ∙ split_zero next count left i (byte_on_pages a pages i) (omega arith)
          ∙ z.bytes i;
      within = let before = z.within in omega arith;
      place = let before = z.place in omega arith;
      behind = let before = z.behind in omega arith;
      rest_is = λ page apart. touched_last a b pages at next len page change z.behind (let p = z.place in omega arith) apart ∙ z.rest_is page apart;
    }

pub zeroing_more_at : (pages : List ℕ) (at len : ℕ) (old : List Sheet) (next left : ℕ) (a b : List Sheet) (count p : ℕ) → p ≡ get_or pages (next / 4096) 0
    → IsZeroing pages at len old next left a → AreCounted old pages → 0 < left → count ≡ min left (4096 - next % 4096)
    → Changed p a b → count_at b p ≡ count_at a p → length (bytes_at b p) ≡ length (bytes_at a p)
    → ((j : ℕ) → get_or (bytes_at b p) j 0 ≡ cond (is_within (next % 4096) count j) 0 (get_or (bytes_at a p) j 0))
    → length b ≡ length a → IsZeroing pages at len old (next + count) (left - count) b
zeroing_more_at pages at len old next left a b count p e z counted some c change counts lengths is places =
    zeroing_more pages at len old next left a b count z counted some c
    (subst (λ x. Changed x a b) e change) (subst (λ x. count_at b x ≡ count_at a x) e counts)
    (subst (λ x. length (bytes_at b x) ≡ length (bytes_at a x)) e lengths)
    (λ j. subst (λ x. get_or (bytes_at b x) j 0 ≡ cond (is_within (next % 4096) count j) 0 (get_or (bytes_at a x) j 0)) e (is j)) places

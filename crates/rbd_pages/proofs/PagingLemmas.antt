-- Steps of the changes of one list of pages.
use Rattle.std.proofs.Common.{◌≡◌, ◌≢◌, ℕ, ◌+◌, ◌-◌, ◌/◌, ◌%◌, ◌<◌, ◌≤◌, Bool, true, false, cond, eqb, ltb, List, [], ◌∷◌, ◌++◌, length, get_or, set, take, drop, replicate, min, ◌*◌, length-drop, length-take, refl, sym, ap, ◌∙◌, subst, inl, inr, arith}
use Rattle.std.specs.Prelude.{zero, suc}
use Rattle.std.proofs.lemmas.Bool.{cases_lt, cases_eq}
use Rattle.std.proofs.lemmas.List.{get_or_past, get_or_append_left, get_or-set_same, get_or-set_other, get_or_push, drop_more, get_or_read, get_or-drop, get_or-replicate, length_push, length-replicate, length-set, places}
use Rattle.std.proofs.lemmas.List.FromFn.{fill_by_all, length-map-range_with_len, get_or-map-range_with_len}
use Rattle.std.proofs.lemmas.List.Folds.{list_any_at}
use Rattle.std.specs.List.{list_any}
use borrow.Rule.Slice.PartMut.{put_mid}
use Rattle.rbd_pages.specs.Sheets.{Sheet, Changed, sheet_at, count_at, bytes_at, in_use, released}
use Rattle.rbd_parts.specs.Contents.{is_within, window}
use Rattle.rbd_pages.specs.Paging.{occurs, bytes_on, byte_on_pages, AreCounted, IsPageReady, IsChanged, Moved, Prepared}

-- ---- how often a list names a page

pub occurs-set : (pages : List ℕ) (k q page : ℕ) → k < length pages
    → occurs page (set pages k q) + cond (eqb (get_or pages k 0) page) 1 0 ≡ occurs page pages + cond (eqb q page) 1 0
occurs-set [] k q page below = omega arith
occurs-set (p ∷ pages) zero q page below = omega arith
occurs-set (p ∷ pages) (suc k) q page below = let rest = occurs-set pages k q page (omega arith) in omega arith

pub occurs-push : (pages : List ℕ) (q page : ℕ) → occurs page (pages ++ q ∷ []) ≡ occurs page pages + cond (eqb q page) 1 0
occurs-push [] q page = omega arith
occurs-push (p ∷ pages) q page = let rest = occurs-push pages q page in omega arith

pub occurs-at : (pages : List ℕ) (k : ℕ) → k < length pages → 0 < occurs (get_or pages k 0) pages
occurs-at [] k below = omega arith
occurs-at (p ∷ pages) zero below = grind arith
occurs-at (p ∷ pages) (suc k) below = let rest = occurs-at pages k (omega arith) in omega arith

occurs-twice : (pages : List ℕ) (k m : ℕ) → k < m → m < length pages → get_or pages k 0 ≡ get_or pages m 0
    → 1 < occurs (get_or pages k 0) pages
occurs-twice [] k m before below same = omega arith
occurs-twice (p ∷ pages) k zero before below same = omega arith
occurs-twice (p ∷ pages) zero (suc m) before below same =
    let there : 0 < occurs p pages = subst (λ x. 0 < occurs x pages) (sym same) (occurs-at pages m (omega arith)) in grind arith
occurs-twice (p ∷ pages) (suc k) (suc m) before below same =
    let rest = occurs-twice pages k m (omega arith) (omega arith) same in omega arith

-- what the list names is counted
pub counted_at : (sheets : List Sheet) (pages : List ℕ) (k : ℕ) → AreCounted sheets pages → k < length pages
    → 0 < count_at sheets (get_or pages k 0)
counted_at sheets pages k counted below =
    let there = occurs-at pages k below in let most = counted.each (get_or pages k 0) in omega arith

-- a page with count 1 stands at one place of the list
pub other_place : (sheets : List Sheet) (pages : List ℕ) (k m : ℕ) → AreCounted sheets pages → k < length pages → m < length pages
    → m ≢ k → count_at sheets (get_or pages k 0) ≡ 1 → get_or pages m 0 ≢ get_or pages k 0
other_place sheets pages k m counted below there apart alone same = elim (cases_lt k m) [
  | inl before ↦
      let twice = occurs-twice pages k m before there (sym same) in let most = counted.each (get_or pages k 0) in omega arith
  | inr after ↦
      let twice : 1 < occurs (get_or pages m 0) pages = occurs-twice pages m k (grind (arith, apart)) below same in
      let here : 1 < occurs (get_or pages k 0) pages = subst (λ x. 1 < occurs x pages) same twice in
      let most = counted.each (get_or pages k 0) in omega arith
]

-- whether k is a place of the list or not
pub bytes_on_within : (sheets : List Sheet) (pages : List ℕ) (k : ℕ) → k < length pages → bytes_on sheets pages k ≡ bytes_at sheets (get_or pages k 0)
bytes_on_within sheets pages k below = grind arith

pub bytes_on_past : (sheets : List Sheet) (pages : List ℕ) (k : ℕ) → length pages ≤ k → bytes_on sheets pages k ≡ []
bytes_on_past sheets pages k past = grind arith

-- a page that keeps its bytes, or one that isn't there
pub framed_byte : (a b : List Sheet) (pages : List ℕ) (k : ℕ) → ((page : ℕ) → 0 < occurs page pages → bytes_at b page ≡ bytes_at a page)
    → bytes_on b pages k ≡ bytes_on a pages k
framed_byte a b pages k same = elim (cases_lt k (length pages)) [
  | inl there ↦
      bytes_on_within b pages k there ∙ same (get_or pages k 0) (occurs-at pages k there) ∙ sym (bytes_on_within a pages k there)
  | inr past ↦ bytes_on_past b pages k past ∙ sym (bytes_on_past a pages k past)
]

-- ---- the relations are kept by doing nothing, and by one step after another

pub moved_refl : (sheets : List Sheet) (pages : List ℕ) → Moved sheets pages sheets pages
moved_refl sheets pages = record { counts = λ page. refl; others = λ page more. refl }

pub moved_trans : (a b c : List Sheet) (p q r : List ℕ) → Moved a p b q → Moved b q c r → Moved a p c r
moved_trans a b c p q r first second = record {
  counts = λ page. let x = first.counts page in let y = second.counts page in omega arith;
  others = λ page more. let x = first.counts page in second.others page (omega arith) ∙ first.others page more;
}

pub prepared_refl : (sheets : List Sheet) (pages : List ℕ) → Prepared sheets pages sheets pages
prepared_refl sheets pages = record {
  moved = moved_refl sheets pages;
  bytes = λ k j. refl;
  apart = λ page others counted once. once;
  longer = omega arith;
  ready = λ k byte ready. ready;
}

pub prepared_trans : (a b c : List Sheet) (p q r : List ℕ) → Prepared a p b q → Prepared b q c r → Prepared a p c r
prepared_trans a b c p q r first second = record {
  moved = moved_trans a b c p q r first.moved second.moved;
  bytes = λ k j. second.bytes k j ∙ first.bytes k j;
  apart = λ page others counted once.
      let x = first.moved.counts page in
      second.apart page others (omega arith) (first.apart page others counted once);
  longer = let x = first.longer in let y = second.longer in omega arith;
  ready = λ k byte ready. second.ready k byte (first.ready k byte ready);
}

pub counted_moved : (a b : List Sheet) (p q : List ℕ) → Moved a p b q → AreCounted a p → AreCounted b q
counted_moved a b p q moved counted =
    record { each = λ page. let x = moved.counts page in let y = counted.each page in omega arith }

-- ---- a page that others name too is copied

record Copied (old new : List Sheet) (p q : ℕ) : Type 0 where
  apart : p ≢ q
  less : count_at new p + 1 ≡ count_at old p
  bytes : bytes_at new p ≡ bytes_at old p
  free : count_at old q ≡ 0
  one : count_at new q ≡ 1
  same : bytes_at new q ≡ bytes_at old p
  others : (j : ℕ) → j ≢ p → j ≢ q → sheet_at new j ≡ sheet_at old j

copied : (a b c : List Sheet) (p q : ℕ) → 1 < count_at a p → count_at a q ≡ 0 → Changed q a b
    → sheet_at b q ≡ record { count = 1; bytes = bytes_at a p } → Changed p b c → sheet_at c p ≡ released (sheet_at b p) → Copied a c p q
copied a b c p q more free first new second less =
    let apart : p ≢ q = λ e. let same = ap (count_at a) e in omega arith in
    let before : sheet_at b p ≡ sheet_at a p = first.others p apart in
    let after : sheet_at c p ≡ released (sheet_at a p) = less ∙ ap released before in
    let copy : sheet_at c q ≡ record { count = 1; bytes = bytes_at a p } = second.others q (λ e. apart (sym e)) ∙ new in
    record {
      apart = apart;
      less = let n : count_at c p ≡ count_at a p - 1 = ap (λ (s : Sheet). s.count) after in omega arith;
      bytes = let n : bytes_at c p ≡ cond (ltb 1 (count_at a p)) (bytes_at a p) [] = ap (λ (s : Sheet). s.bytes) after in grind arith;
      free = free;
      one = ap (λ (s : Sheet). s.count) copy;
      same = ap (λ (s : Sheet). s.bytes) copy;
      others = λ j x y. second.others j x ∙ first.others j y;
    }

-- what the list doesn't name stands at no place of it
not_named : (sheets : List Sheet) (pages : List ℕ) (q k : ℕ) → AreCounted sheets pages → count_at sheets q ≡ 0 → k < length pages
    → get_or pages k 0 ≢ q
not_named sheets pages q k counted free below same =
    let named = counted_at sheets pages k counted below in let none = ap (count_at sheets) same in omega arith

apart_set : (a : List Sheet) (pages : List ℕ) (k q x others : ℕ) → k < length pages → count_at a q ≡ 0
    → occurs x pages + others ≤ count_at a x → occurs x pages + others ≤ 1 → occurs x (set pages k q) + others ≤ 1
apart_set a pages k q x others below free counted once =
    let names = occurs-set pages k q x below in
    elim (cases_eq x q) [
      | inl same ↦ let none : count_at a x ≡ 0 = ap (count_at a) same ∙ free in grind arith
      | inr other ↦ grind (arith, other)
    ]

copied_same : (a c : List Sheet) (p q x : ℕ) → Copied a c p q → x ≢ q → bytes_at c x ≡ bytes_at a x
copied_same a c p q x copied other = elim (cases_eq x p) [
  | inl same ↦ rw same copied.bytes
  | inr apart ↦ ap (λ (s : Sheet). s.bytes) (copied.others x apart other)
]

copied_count : (a c : List Sheet) (p q x : ℕ) → Copied a c p q
    → count_at c x + cond (eqb p x) 1 0 ≡ count_at a x + cond (eqb q x) 1 0
copied_count a c p q x copied =
    let less = copied.less in let free = copied.free in let one = copied.one in let apart = copied.apart in
    elim (cases_eq x p) [
      | inl same ↦ rw same (grind (arith, apart))
      | inr not_p ↦ elim (cases_eq x q) [
        | inl same ↦ rw same (grind (arith, apart))
        | inr not_q ↦ let others : count_at c x ≡ count_at a x = ap (λ (s : Sheet). s.count) (copied.others x not_p not_q) in grind (arith, not_p, not_q)
      ]
    ]

copied_place : (a c : List Sheet) (pages : List ℕ) (k q m : ℕ) → AreCounted a pages → k < length pages → m < length pages
    → Copied a c (get_or pages k 0) q → bytes_at c (get_or (set pages k q) m 0) ≡ bytes_at a (get_or pages m 0)
copied_place a c pages k q m counted below there copied = elim (cases_eq m k) [
  | inl same ↦ rw same (ap (bytes_at c) (get_or-set_same pages k q 0 below) ∙ copied.same)
  | inr other ↦
      ap (bytes_at c) (get_or-set_other pages k m q 0 other)
      ∙ copied_same a c (get_or pages k 0) q (get_or pages m 0) copied (not_named a pages q m counted copied.free there)
]

copied_bytes : (a c : List Sheet) (pages : List ℕ) (k q m : ℕ) → AreCounted a pages → k < length pages → Copied a c (get_or pages k 0) q
    → bytes_on c (set pages k q) m ≡ bytes_on a pages m
copied_bytes a c pages k q m counted below copied =
    let l = length-set pages k q in
    elim (cases_lt m (length pages)) [
      | inr past ↦ bytes_on_past c (set pages k q) m (omega arith) ∙ sym (bytes_on_past a pages m past)
      | inl there ↦
          bytes_on_within c (set pages k q) m (omega arith)
          ∙ copied_place a c pages k q m counted below there copied
          ∙ sym (bytes_on_within a pages m there)
    ]

-- each place of the list has the same bytes
pub copied_at : (a b c : List Sheet) (pages : List ℕ) (k q m : ℕ) → AreCounted a pages → k < length pages
    → 1 < count_at a (get_or pages k 0) → count_at a q ≡ 0 → Changed q a b
    → sheet_at b q ≡ record { count = 1; bytes = bytes_at a (get_or pages k 0) }
    → Changed (get_or pages k 0) b c → sheet_at c (get_or pages k 0) ≡ released (sheet_at b (get_or pages k 0)) → m < length pages
    → bytes_at c (get_or (set pages k q) m 0) ≡ bytes_at a (get_or pages m 0)
copied_at a b c pages k q m counted below more free first new second less there =
    copied_place a c pages k q m counted below there (copied a b c (get_or pages k 0) q more free first new second less)

pub copied_one : (a b c : List Sheet) (p q : ℕ) → 1 < count_at a p → count_at a q ≡ 0 → Changed q a b
    → sheet_at b q ≡ record { count = 1; bytes = bytes_at a p } → Changed p b c → sheet_at c p ≡ released (sheet_at b p) → count_at c q ≡ 1
copied_one a b c p q more free first new second less = (copied a b c p q more free first new second less).one

-- a ready page is ready where its page is the same
same_ready : (a c : List Sheet) (p q : List ℕ) (m byte x : ℕ) → m < length q → get_or q m 0 ≡ x → get_or p m 0 ≡ x
    → sheet_at c x ≡ sheet_at a x → IsPageReady a p m byte → IsPageReady c q m byte
same_ready a c p q m byte x there new old same ready = record {
  there = there;
  alone = ap (count_at c) new ∙ ap (λ (s : Sheet). s.count) same ∙ ap (count_at a) (sym old) ∙ ready.alone;
  stored = λ some.
      ap (λ y. length (bytes_at c y)) new ∙ ap (λ (s : Sheet). length s.bytes) same ∙ ap (λ y. length (bytes_at a y)) (sym old) ∙ ready.stored some;
}

copied_ready : (a c : List Sheet) (pages : List ℕ) (k q m byte : ℕ) → AreCounted a pages → k < length pages
    → 1 < count_at a (get_or pages k 0) → Copied a c (get_or pages k 0) q → IsPageReady a pages m byte → IsPageReady c (set pages k q) m byte
copied_ready a c pages k q m byte counted below more copied ready =
    let l = length-set pages k q in
    let there = ready.there in
    let alone = ready.alone in
    let elsewhere : get_or pages m 0 ≢ get_or pages k 0 = λ e. let same = ap (count_at a) e in omega arith in
    let other : m ≢ k = λ e. elsewhere (ap (λ i. get_or pages i 0) e) in
    same_ready a c pages (set pages k q) m byte (get_or pages m 0) (omega arith) (get_or-set_other pages k m q 0 other) refl
    (copied.others (get_or pages m 0) elsewhere (not_named a pages q m counted copied.free ready.there)) ready

pub prepared_copy : (a b c : List Sheet) (pages : List ℕ) (k q : ℕ) → AreCounted a pages → k < length pages
    → 1 < count_at a (get_or pages k 0) → count_at a q ≡ 0 → Changed q a b
    → sheet_at b q ≡ record { count = 1; bytes = bytes_at a (get_or pages k 0) }
    → Changed (get_or pages k 0) b c → sheet_at c (get_or pages k 0) ≡ released (sheet_at b (get_or pages k 0))
    → Prepared a pages c (set pages k q)
prepared_copy a b c pages k q counted below more free first new second less =
    let copied = copied a b c (get_or pages k 0) q more free first new second less in
    record {
      moved = record {
        counts = λ x.
            let names = occurs-set pages k q x below in
            let count = copied_count a c (get_or pages k 0) q x copied in
            omega arith;
        others = λ x held. copied_same a c (get_or pages k 0) q x copied (λ e. let none = ap (count_at a) e in omega arith);
      };
      bytes = λ m j. ap (λ bytes. get_or bytes j 0) (copied_bytes a c pages k q m counted below copied);
      apart = λ x others counted once. apart_set a pages k q x others below free counted once;
      longer = let l = length-set pages k q in omega arith;
      ready = λ m byte ready. copied_ready a c pages k q m byte counted below more copied ready;
    }

pub copied_alone : (a b c : List Sheet) (pages : List ℕ) (k q : ℕ) → k < length pages
    → 1 < count_at a (get_or pages k 0) → count_at a q ≡ 0 → Changed q a b
    → sheet_at b q ≡ record { count = 1; bytes = bytes_at a (get_or pages k 0) }
    → Changed (get_or pages k 0) b c → sheet_at c (get_or pages k 0) ≡ released (sheet_at b (get_or pages k 0))
    → IsPageReady c (set pages k q) k 0
copied_alone a b c pages k q below more free first new second less =
    let copied = copied a b c (get_or pages k 0) q more free first new second less in
    record {
      there = let l = length-set pages k q in omega arith;
      alone = ap (count_at c) (get_or-set_same pages k q 0 below) ∙ copied.one;
      stored = λ some. absurd (some refl);
    }

-- ---- a page of zeros is added

added_bytes : (a b : List Sheet) (pages : List ℕ) (q k : ℕ) → AreCounted a pages → count_at a q ≡ 0 → Changed q a b
    → sheet_at b q ≡ record { count = 1; bytes = [] } → bytes_on b (pages ++ q ∷ []) k ≡ bytes_on a pages k
added_bytes a b pages q k counted free change new =
    let l = length_push pages q in
    elim (cases_lt k (length pages)) [
      | inl there ↦
          bytes_on_within b (pages ++ q ∷ []) k (omega arith)
          ∙ ap (bytes_at b) (get_or_append_left pages (q ∷ []) 0 k there)
          ∙ ap (λ (s : Sheet). s.bytes) (change.others (get_or pages k 0) (not_named a pages q k counted free there))
          ∙ sym (bytes_on_within a pages k there)
      | inr past ↦ elim (cases_eq k (length pages)) [
        | inl same ↦
            bytes_on_within b (pages ++ q ∷ []) k (omega arith)
            ∙ ap (bytes_at b) (get_or_push pages q 0 k (sym same))
            ∙ ap (λ (s : Sheet). s.bytes) new
            ∙ sym (bytes_on_past a pages k past)
        | inr apart ↦ bytes_on_past b (pages ++ q ∷ []) k (grind (arith, apart)) ∙ sym (bytes_on_past a pages k past)
      ]
    ]

added_count : (a b : List Sheet) (q x : ℕ) → count_at a q ≡ 0 → Changed q a b → sheet_at b q ≡ record { count = 1; bytes = [] }
    → count_at b x ≡ count_at a x + cond (eqb q x) 1 0
added_count a b q x free change new = elim (cases_eq x q) [
  | inl same ↦ let one : count_at b q ≡ 1 = ap (λ (s : Sheet). s.count) new in rw same (grind arith)
  | inr apart ↦ let others : count_at b x ≡ count_at a x = ap (λ (s : Sheet). s.count) (change.others x apart) in grind (arith, apart)
]

pub prepared_add : (a b : List Sheet) (pages : List ℕ) (q : ℕ) → AreCounted a pages → count_at a q ≡ 0 → Changed q a b
    → sheet_at b q ≡ record { count = 1; bytes = [] } → Prepared a pages b (pages ++ q ∷ [])
prepared_add a b pages q counted free change new = record {
  moved = record {
    counts = λ x. let names = occurs-push pages q x in let count = added_count a b q x free change new in omega arith;
    others = λ x held. ap (λ (s : Sheet). s.bytes) (change.others x (λ e. let none = ap (count_at a) e in omega arith));
  };
  bytes = λ k j. ap (λ bytes. get_or bytes j 0) (added_bytes a b pages q k counted free change new);
  apart = λ x others counted once.
      let names = occurs-push pages q x in
      elim (cases_eq x q) [
        | inl same ↦ let none : count_at a x ≡ 0 = ap (count_at a) same ∙ free in grind arith
        | inr other ↦ grind (arith, other)
      ];
  longer = let l = length_push pages q in omega arith;
  ready = λ m byte ready.
      let l = length_push pages q in let there = ready.there in
      same_ready a b pages (pages ++ q ∷ []) m byte (get_or pages m 0) (omega arith) (get_or_append_left pages (q ∷ []) 0 m ready.there) refl
      (change.others (get_or pages m 0) (not_named a pages q m counted free ready.there)) ready;
}

-- ---- a page is changed in its place

pub count_kept : (a b : List Sheet) (p x : ℕ) → Changed p a b → count_at b p ≡ count_at a p → count_at b x ≡ count_at a x
count_kept a b p x change same = elim (cases_eq x p) [
  | inl here ↦ rw here same
  | inr apart ↦ ap (λ (s : Sheet). s.count) (change.others x apart)
]

ready_kept : (a b : List Sheet) (pages : List ℕ) (p m byte : ℕ) → Changed p a b → count_at b p ≡ count_at a p
    → (length (bytes_at a p) ≡ 4096 → length (bytes_at b p) ≡ 4096) → IsPageReady a pages m byte → IsPageReady b pages m byte
ready_kept a b pages p m byte change same stored ready = elim (cases_eq (get_or pages m 0) p) [
  | inl here ↦ record {
    there = ready.there;
    alone = count_kept a b p (get_or pages m 0) change same ∙ ready.alone;
    stored = λ some. rw here (stored (ap (λ x. length (bytes_at a x)) (sym here) ∙ ready.stored some));
  }
  | inr apart ↦ same_ready a b pages pages m byte (get_or pages m 0) ready.there refl refl (change.others (get_or pages m 0) apart) ready
]

pub in_place : (a b : List Sheet) (pages : List ℕ) (k byte : ℕ) → IsPageReady a pages k byte → Changed (get_or pages k 0) a b
    → count_at b (get_or pages k 0) ≡ count_at a (get_or pages k 0)
    → (length (bytes_at a (get_or pages k 0)) ≡ 4096 → length (bytes_at b (get_or pages k 0)) ≡ 4096) → length b ≡ length a → IsChanged pages a b
in_place a b pages k byte ready change same stored long = record {
  counts = λ x. count_kept a b (get_or pages k 0) x change same;
  others = λ x held.
      let named = occurs-at pages k ready.there in
      let alone = ready.alone in
      ap (λ (s : Sheet). s.bytes) (change.others x (λ e. let more : occurs (get_or pages k 0) pages < count_at a (get_or pages k 0) = subst (λ y. occurs y pages < count_at a y) e held in omega arith));
  used = let used = change.used in omega arith;
  places = long;
  ready = λ m byte was. ready_kept a b pages (get_or pages k 0) m byte change same stored was;
}

pub moved_changed : (a b : List Sheet) (pages : List ℕ) → IsChanged pages a b → Moved a pages b pages
moved_changed a b pages changed = record {
  counts = λ x. ap (λ n. n + occurs x pages) (changed.counts x);
  others = changed.others;
}

pub counted_changed : (a b : List Sheet) (pages : List ℕ) → IsChanged pages a b → AreCounted a pages → AreCounted b pages
counted_changed a b pages changed counted = counted_moved a b pages pages (moved_changed a b pages changed) counted

pub changed_refl : (a : List Sheet) (pages : List ℕ) → IsChanged pages a a
changed_refl a pages = record { counts = λ x. refl; others = λ x held. refl; used = refl; places = refl; ready = λ m byte was. was }

pub changed_trans : (a b c : List Sheet) (pages : List ℕ) → IsChanged pages a b → IsChanged pages b c → IsChanged pages a c
changed_trans a b c pages first second = record {
  counts = λ x. second.counts x ∙ first.counts x;
  others = λ x held. second.others x (let same = first.counts x in omega arith) ∙ first.others x held;
  used = second.used ∙ first.used;
  places = second.places ∙ first.places;
  ready = λ m byte was. second.ready m byte (first.ready m byte was);
}

-- a page at another place keeps its bytes
elsewhere : (a b : List Sheet) (pages : List ℕ) (k m : ℕ) → AreCounted a pages → k < length pages
    → count_at a (get_or pages k 0) ≡ 1 → Changed (get_or pages k 0) a b → m ≢ k → bytes_on b pages m ≡ bytes_on a pages m
elsewhere a b pages k m counted below alone change apart = elim (cases_lt m (length pages)) [
  | inl there ↦
      bytes_on_within b pages m there
      ∙ ap (λ (s : Sheet). s.bytes) (change.others (get_or pages m 0) (other_place a pages k m counted below there apart alone))
      ∙ sym (bytes_on_within a pages m there)
  | inr past ↦ bytes_on_past b pages m past ∙ sym (bytes_on_past a pages m past)
]

pub stored_bytes : (a b : List Sheet) (pages : List ℕ) (k m j : ℕ) → AreCounted a pages → k < length pages
    → count_at a (get_or pages k 0) ≡ 1 → Changed (get_or pages k 0) a b
    → ((j : ℕ) → get_or (bytes_at b (get_or pages k 0)) j 0 ≡ get_or (bytes_at a (get_or pages k 0)) j 0)
    → get_or (bytes_on b pages m) j 0 ≡ get_or (bytes_on a pages m) j 0
stored_bytes a b pages k m j counted below alone change same = elim (cases_eq m k) [
  | inl here ↦
      rw here
      (ap (λ bytes. get_or bytes j 0) (bytes_on_within b pages k below)
      ∙ same j
      ∙ ap (λ bytes. get_or bytes j 0) (sym (bytes_on_within a pages k below)))
  | inr apart ↦ ap (λ bytes. get_or bytes j 0) (elsewhere a b pages k m counted below alone change apart)
]

pub prepared_changed : (a b : List Sheet) (pages : List ℕ) → IsChanged pages a b
    → ((k j : ℕ) → get_or (bytes_on b pages k) j 0 ≡ get_or (bytes_on a pages k) j 0) → Prepared a pages b pages
prepared_changed a b pages changed same = record {
  moved = moved_changed a b pages changed;
  bytes = same;
  apart = λ page others counted once. once;
  longer = omega arith;
  ready = changed.ready;
}

same_cond : (t u : Bool) (x y v w : ℕ) → t ≡ u → x ≡ v → y ≡ w → cond t x y ≡ cond u v w
same_cond t u x y v w tu xv yw = rw (tu, xv, yw) refl

outside : (at count i : ℕ) → at % 4096 + count ≤ 4096 → i / 4096 ≢ at / 4096 → is_within at count i ≡ false
outside at count i fits apart = grind (arith, apart)

-- bytes on one page: `value` gives them from byte `at` on
pub changed_byte : (a b : List Sheet) (pages : List ℕ) (at count i : ℕ) (value : ℕ → ℕ) → AreCounted a pages → at / 4096 < length pages
    → at % 4096 + count ≤ 4096 → count_at a (get_or pages (at / 4096) 0) ≡ 1 → Changed (get_or pages (at / 4096) 0) a b
    → ((j : ℕ) → get_or (bytes_at b (get_or pages (at / 4096) 0)) j 0
    ≡ cond (is_within (at % 4096) count j) (value (j - at % 4096)) (get_or (bytes_at a (get_or pages (at / 4096) 0)) j 0))
    → byte_on_pages b pages i ≡ cond (is_within at count i) (value (i - at)) (byte_on_pages a pages i)
changed_byte a b pages at count i value counted below fits alone change is = elim (cases_eq (i / 4096) (at / 4096)) [
  | inl here ↦
      ap (λ bytes. get_or bytes (i % 4096) 0) (ap (bytes_on b pages) here ∙ bytes_on_within b pages (at / 4096) below)
      ∙ is (i % 4096)
      ∙ same_cond (is_within (at % 4096) count (i % 4096)) (is_within at count i) _ _ _ _ (grind arith)
      (ap value (omega arith))
      (ap (λ bytes. get_or bytes (i % 4096) 0) (sym (ap (bytes_on a pages) here ∙ bytes_on_within a pages (at / 4096) below)))
  | inr apart ↦
      ap (λ bytes. get_or bytes (i % 4096) 0) (elsewhere a b pages (at / 4096) (i / 4096) counted below alone change apart)
      ∙ sym (ap (λ t. cond t (value (i - at)) (byte_on_pages a pages i)) (outside at count i fits apart))
]

-- ---- in terms of the code: the page is the one that was read

pub prepared_copy_at : (a b c : List Sheet) (pages : List ℕ) (k p q : ℕ) → p ≡ get_or pages k 0 → AreCounted a pages → k < length pages
    → 1 < count_at a p → count_at a q ≡ 0 → Changed q a b → sheet_at b q ≡ record { count = 1; bytes = bytes_at a p }
    → Changed p b c → sheet_at c p ≡ released (sheet_at b p) → Prepared a pages c (set pages k q)
prepared_copy_at a b c pages k p q is counted below more free first new second less =
    prepared_copy a b c pages k q counted below (subst (λ x. 1 < count_at a x) is more) free first
    (subst (λ x. sheet_at b q ≡ record { count = 1; bytes = bytes_at a x }) is new)
    (subst (λ x. Changed x b c) is second) (subst (λ x. sheet_at c x ≡ released (sheet_at b x)) is less)

pub counted_read : (a : List Sheet) (pages : List ℕ) (k p : ℕ) → p ≡ get_or pages k p → AreCounted a pages → k < length pages → 0 < count_at a p
counted_read a pages k p read counted below = subst (λ x. 0 < count_at a x) (sym (get_or_read pages k p below read 0)) (counted_at a pages k counted below)

pub ready_alone : (a : List Sheet) (pages : List ℕ) (k p : ℕ) → p ≡ get_or pages k p → AreCounted a pages → k < length pages
    → count_at a p ≤ 1 → IsPageReady a pages k 0
ready_alone a pages k p read counted below few = record {
  there = below;
  alone =
      let is = get_or_read pages k p below read 0 in
      let some = counted_at a pages k counted below in
      let few : count_at a (get_or pages k 0) ≤ 1 = subst (λ x. count_at a x ≤ 1) is few in
      omega arith;
  stored = λ some. absurd (some refl);
}

pub value_in_part : (bytes : List ℕ) (at k j start end : ℕ) → start ≡ min (k * 4096 - at) (length bytes)
    → end ≡ min (k * 4096 + 4096 - at) (length bytes) → j < length bytes → (at + j) / 4096 ≡ k → get_or bytes j 0 ≢ 0
    → list_any (λ b. ltb 0 b) (drop start (take end bytes)) ≡ true
value_in_part bytes at k j start end s e below here some =
    list_any_at (λ b. ltb 0 b) (drop start (take end bytes)) (j - start) 0 (grind (arith, places))
    (let is : get_or (drop start (take end bytes)) (j - start) 0 ≡ get_or bytes j 0 = grind (arith, places) in rw is (grind (arith, some)))

pub zeros_window : (at count : ℕ) → replicate count 0 ≡ window [] at count
zeros_window at count = fill_by_all (λ i. get_or [] (at + i) 0) _ count 0 (length-replicate count 0) (λ k h. get_or-replicate count k 0 0 h)

-- ---- the last page is dropped

named_less : (a : List Sheet) (pages left : List ℕ) (p : ℕ) → ((x : ℕ) → occurs x pages ≡ occurs x left + cond (eqb p x) 1 0)
    → AreCounted a pages → 0 < count_at a p
named_less a pages left p is counted = let names = is p in let most = counted.each p in grind arith

pub counted_last : (a : List Sheet) (pages front : List ℕ) (p : ℕ) → pages ≡ front ++ p ∷ [] → AreCounted a pages → 0 < count_at a p
counted_last a pages front p is counted =
    let names : occurs p pages ≡ occurs p front + cond (eqb p p) 1 0 = ap (occurs p) is ∙ occurs-push front p p in
    let most = counted.each p in grind arith

pub moved_less : (a b : List Sheet) (pages left : List ℕ) (p : ℕ) → ((x : ℕ) → occurs x pages ≡ occurs x left + cond (eqb p x) 1 0)
    → AreCounted a pages → Changed p a b → sheet_at b p ≡ released (sheet_at a p) → Moved a pages b left
moved_less a b pages left p is counted change less = record {
  counts = λ x.
      let names = is x in
      elim (cases_eq x p) [
        | inl same ↦
            let some = named_less a pages left p is counted in
            let less_count : count_at b p ≡ count_at a p - 1 = ap (λ (s : Sheet). s.count) less in
            let here_b : count_at b x ≡ count_at b p = ap (count_at b) same in
            let here_a : count_at a x ≡ count_at a p = ap (count_at a) same in
            grind arith
        | inr apart ↦ let others : count_at b x ≡ count_at a x = ap (λ (s : Sheet). s.count) (change.others x apart) in grind (arith, apart)
      ];
  others = λ x held.
      elim (cases_eq x p) [
        | inl same ↦
            let names = is p in
            let held_p : occurs p pages < count_at a p = subst (λ y. occurs y pages < count_at a y) same held in
            let more : 1 < count_at a p = grind arith in
            let kept : bytes_at b p ≡ cond (ltb 1 (count_at a p)) (bytes_at a p) [] = ap (λ (s : Sheet). s.bytes) less in
            rw same (grind arith)
        | inr apart ↦ ap (λ (s : Sheet). s.bytes) (change.others x apart)
      ];
}

pub moved_pop : (a b : List Sheet) (pages front : List ℕ) (p : ℕ) → pages ≡ front ++ p ∷ [] → AreCounted a pages
    → Changed p a b → sheet_at b p ≡ released (sheet_at a p) → Moved a pages b front
moved_pop a b pages front p is counted change less =
    moved_less a b pages front p (λ x. ap (occurs x) is ∙ occurs-push front p x) counted change less

-- the first of those that are left
pub moved_first : (a b : List Sheet) (pages : List ℕ) (k : ℕ) → k < length pages → AreCounted a (drop k pages)
    → Changed (get_or pages k 0) a b → sheet_at b (get_or pages k 0) ≡ released (sheet_at a (get_or pages k 0))
    → Moved a (drop k pages) b (drop (k + 1) pages)
moved_first a b pages k below counted change less =
    moved_less a b (drop k pages) (drop (k + 1) pages) (get_or pages k 0)
    (λ x. ap (occurs x) (drop_more pages k 0 below) ∙ (let swap : cond (eqb (get_or pages k 0) x) 1 0 + occurs x (drop (k + 1) pages) ≡ occurs x (drop (k + 1) pages) + cond (eqb (get_or pages k 0) x) 1 0 = omega arith in swap))
    counted change less

pub counted_first : (a : List Sheet) (pages : List ℕ) (k : ℕ) → k < length pages → AreCounted a (drop k pages) → 0 < count_at a (get_or pages k 0)
counted_first a pages k below counted =
    let l = length-drop k pages in
    subst (λ p. 0 < count_at a p) (get_or-drop k pages 0 0 ∙ ap (λ i. get_or pages i 0) (let same : k + 0 ≡ k = omega arith in same))
    (counted_at a (drop k pages) 0 counted (omega arith))

pub used_pop : (a b : List Sheet) (p : ℕ) → Changed p a b → sheet_at b p ≡ released (sheet_at a p) → in_use b ≤ in_use a
used_pop a b p change less =
    let less_count : count_at b p ≡ count_at a p - 1 = ap (λ (s : Sheet). s.count) less in let used = change.used in omega arith

-- ---- one page more is counted once more

pub moved_hold : (a b : List Sheet) (pages : List ℕ) (p : ℕ) → Changed p a b → count_at b p ≡ count_at a p + 1
    → bytes_at b p ≡ bytes_at a p → Moved a pages b (pages ++ p ∷ [])
moved_hold a b pages p change more same = record {
  counts = λ x.
      let names = occurs-push pages p x in
      elim (cases_eq x p) [
        | inl here ↦
            let here_b : count_at b x ≡ count_at b p = ap (count_at b) here in
            let here_a : count_at a x ≡ count_at a p = ap (count_at a) here in
            grind arith
        | inr apart ↦ let others : count_at b x ≡ count_at a x = ap (λ (s : Sheet). s.count) (change.others x apart) in grind (arith, apart)
      ];
  others = λ x held. elim (cases_eq x p) [
    | inl here ↦ rw here same
    | inr apart ↦ ap (λ (s : Sheet). s.bytes) (change.others x apart)
  ];
}

pub zeros_read : (a : List Sheet) (pages : List ℕ) (k at count : ℕ) → length pages ≤ k → replicate count 0 ≡ window (bytes_on a pages k) at count
zeros_read a pages k at count past = zeros_window at count ∙ ap (λ bytes. window bytes at count) (sym (bytes_on_past a pages k past))

pub page_read : (a : List Sheet) (pages : List ℕ) (k at count : ℕ) → k < length pages
    → window (bytes_at a (get_or pages k 0)) at count ≡ window (bytes_on a pages k) at count
page_read a pages k at count there = ap (λ bytes. window bytes at count) (sym (bytes_on_within a pages k there))

-- ---- the loop that makes pages ready

pub past_first : (at j first : ℕ) → first ≤ at / 4096 → (at + j) / 4096 < first → ⊥
past_first at j first from early = omega arith

pub ready_more : (at k : ℕ) (bytes : List ℕ) (j : ℕ) (stored : Bool) (a b : List Sheet) (p q : List ℕ) → Prepared a p b q
    → ((byte : ℕ) → (byte ≢ 0 → stored ≡ true) → IsPageReady b q k byte)
    → (j < length bytes → (at + j) / 4096 ≡ k → get_or bytes j 0 ≢ 0 → stored ≡ true)
    → ((at + j) / 4096 < k → IsPageReady a p ((at + j) / 4096) (get_or bytes j 0))
    → (at + j) / 4096 < k + 1 → IsPageReady b q ((at + j) / 4096) (get_or bytes j 0)
ready_more at k bytes j stored a b p q prepared here needed before early = elim (cases_lt ((at + j) / 4096) k) [
  | inl below ↦ prepared.ready ((at + j) / 4096) (get_or bytes j 0) (before below)
  | inr above ↦
      let same : (at + j) / 4096 ≡ k = omega arith in
      subst (λ m. IsPageReady b q m (get_or bytes j 0)) (sym same)
      (here (get_or bytes j 0) (λ some. elim (cases_lt j (length bytes)) [
        | inl below ↦ needed below same some
        | inr past ↦ absurd (some (get_or_past bytes j 0 past))
      ]))
]

pub counted_shared : (a b : List Sheet) (pages copy : List ℕ) (k : ℕ) → Moved a [] b copy → AreCounted a pages → k < length pages
    → 0 < count_at b (get_or pages k 0)
counted_shared a b pages copy k moved counted below =
    let some = counted_at a pages k counted below in let more = moved.counts (get_or pages k 0) in omega arith

pub used_hold : (a b : List Sheet) (p : ℕ) → Changed p a b → 0 < count_at a p → count_at b p ≡ count_at a p + 1 → in_use b ≤ in_use a
used_hold a b p change some more = let used = change.used in omega arith

-- ---- the loop that reads

length-part : (done count : ℕ) (old part : List ℕ) → done + count ≤ length old → length part ≡ count
    → length (put_mid done (done + count - done) old part) ≡ length old
length-part done count old part fits long = let same : done + count - done ≡ count = omega arith in rw same (grind (arith, places, long))

pub length-read_more : (done count n : ℕ) (old part bytes : List ℕ) (start : ℕ) → done + count ≤ length old → n ≡ count
    → part ≡ window bytes start n → length (put_mid done (done + count - done) old part) ≡ length old
length-read_more done count n old part bytes start fits e is =
    length-part done count old part fits (ap length is ∙ length-map-range_with_len _ 0 n ∙ e)

pub read_more : (a : List Sheet) (pages : List ℕ) (at done count n : ℕ) (old part : List ℕ) (j : ℕ) → done + count ≤ length old
    → count ≤ 4096 - (at + done) % 4096 → n ≡ count
    → part ≡ window (bytes_on a pages ((at + done) / 4096)) ((at + done) % 4096) n
    → ((j : ℕ) → j < done → get_or old j 0 ≡ byte_on_pages a pages (at + j)) → j < done + count
    → get_or (put_mid done (done + count - done) old part) j 0 ≡ byte_on_pages a pages (at + j)
read_more a pages at done count n old part j fits few e is before below =
    let same : done + count - done ≡ count = omega arith in
    let long : length part ≡ count = ap length is ∙ length-map-range_with_len _ 0 n ∙ e in
    elim (cases_lt j done) [
      | inl early ↦ rw same (let there : get_or (put_mid done count old part) j 0 ≡ get_or old j 0 = grind (arith, places, long) in there) ∙ before j early
      | inr late ↦
          let there : get_or (put_mid done count old part) j 0 ≡ get_or part (j - done) 0 = grind (arith, places, long) in
          let byte = get_or-map-range_with_len (λ i. get_or (bytes_on a pages ((at + done) / 4096)) ((at + done) % 4096 + i) 0) 0 n (j - done) (j - done) 0 (omega arith) (omega arith) in
          let page : (at + j) / 4096 ≡ (at + done) / 4096 = omega arith in
          let offset : (at + j) % 4096 ≡ (at + done) % 4096 + (j - done) = omega arith in
          rw same there ∙ ap (λ xs. get_or xs (j - done) 0) is ∙ byte
          ∙ sym (ap (λ m. get_or (bytes_on a pages m) ((at + j) % 4096) 0) page
          ∙ ap (λ x. get_or (bytes_on a pages ((at + done) / 4096)) x 0) offset)
    ]

pub length-slot : (done count : ℕ) (old : List ℕ) → done + count ≤ length old → length (take (done + count - done) (drop done old)) ≡ count
length-slot done count old fits = length-take (done + count - done) (drop done old) ∙ (let l = length-drop done old in omega arith)

pub kept_pop : (a b : List Sheet) (p x : ℕ) → Changed p a b → sheet_at b p ≡ released (sheet_at a p) → 0 < count_at b x
    → (bytes_at b x ≡ bytes_at a x) × (0 < count_at a x)
kept_pop a b p x change less some = elim (cases_eq x p) [
  | inl same ↦
      let count : count_at b p ≡ count_at a p - 1 = ap (λ (s : Sheet). s.count) less in
      let bytes : bytes_at b p ≡ cond (ltb 1 (count_at a p)) (bytes_at a p) [] = ap (λ (s : Sheet). s.bytes) less in
      let there : 0 < count_at b p = subst (λ y. 0 < count_at b y) same some in
      rw same (grind arith, omega arith)
  | inr apart ↦
      let others = change.others x apart in
      let count : count_at b x ≡ count_at a x = ap (λ (s : Sheet). s.count) others in
      (ap (λ (s : Sheet). s.bytes) others, omega arith)
]

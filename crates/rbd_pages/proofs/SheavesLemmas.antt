-- Lists of sheaves, and the pages that these name.
use Rattle.std.proofs.Common.{◌≡◌, ◌≢◌, ℕ, ◌+◌, ◌*◌, ◌/◌, ◌%◌, ◌<◌, ◌≤◌, List, [], ◌∷◌, ◌++◌, length, get_or, set, refl, sym, ap, ◌∙◌, subst, inl, inr, arith}
use Rattle.std.specs.Prelude.{zero, suc}
use Rattle.std.proofs.lemmas.Bool.{cases_lt, cases_eq}
use Rattle.std.proofs.lemmas.List.{get_or_past, get_or_append_left, get_or-set_same, get_or-set_other, get_or_read}
use Rattle.rbd_pages.specs.Sheets.{Sheet, Changed, free_sheet, sheet_at, count_at, bytes_at}
use Rattle.rbd_pages.specs.Paging.{occurs, bytes_on, AreApart, AreCounted, Moved, Prepared}
use Rattle.rbd_pages.specs.Sheaves.{AreFull, AreStocked, IsSame, Stock, named_in, pages_in}
use Rattle.rbd_pages.proofs.SheetLemmas.{changed_set, within}
use Rattle.rbd_pages.proofs.PagingLemmas.{bytes_on_within, bytes_on_past, counted_at}

pub occurs-append : (xs ys : List ℕ) (page : ℕ) → occurs page (xs ++ ys) ≡ occurs page xs + occurs page ys
occurs-append [] ys page = omega arith
occurs-append (x ∷ xs) ys page = let rest = occurs-append xs ys page in omega arith

pub length-both : (xs ys : List ℕ) → length (xs ++ ys) ≡ length xs + length ys
length-both [] ys = omega arith
length-both (x ∷ xs) ys = let rest = length-both xs ys in omega arith

-- ---- the page at a place

full_rest : (sheaves : List Sheet) (s : ℕ) (list : List ℕ) → AreFull sheaves (s ∷ list) → AreFull sheaves list
full_rest sheaves s list full = record {
  full = λ m below. full.full (suc m) (omega arith);
  last = λ m below. full.last (suc m) (omega arith);
}

get_or-behind : (xs ys : List ℕ) (k : ℕ) → get_or (xs ++ ys) (length xs + k) 0 ≡ get_or ys k 0
get_or-behind [] ys k = ap (λ n. get_or ys n 0) (let same : 0 + k ≡ k = omega arith in same)
get_or-behind (x ∷ xs) ys k = ap (λ n. get_or (x ∷ (xs ++ ys)) n 0) (let same : suc (length xs) + k ≡ suc (length xs + k) = omega arith in same) ∙ get_or-behind xs ys k

-- place j of the sheaf at place m is place m * 128 + j of all
pub at_place : (sheaves : List Sheet) (list : List ℕ) (m j : ℕ) → AreFull sheaves list → m < length list
    → j < length (bytes_at sheaves (get_or list m 0))
    → (m * 128 + j < length (pages_in sheaves list))
    × (get_or (pages_in sheaves list) (m * 128 + j) 0 ≡ get_or (bytes_at sheaves (get_or list m 0)) j 0)
at_place sheaves [] m j full below there = absurd (let f : ⊥ = omega arith in f)
at_place sheaves (s ∷ list) zero j full below there = (
  let l = length-both (bytes_at sheaves s) (pages_in sheaves list) in omega arith,
  ap (λ n. get_or (pages_in sheaves (s ∷ list)) n 0) (let same : 0 * 128 + j ≡ j = omega arith in same)
      ∙ get_or_append_left (bytes_at sheaves s) (pages_in sheaves list) 0 j there,
)
at_place sheaves (s ∷ list) (suc m) j full below there =
    let rest = at_place sheaves list m j (full_rest sheaves s list full) (omega arith) there in
    let whole : length (bytes_at sheaves s) ≡ 128 = full.full 0 (omega arith) in (
      let l = length-both (bytes_at sheaves s) (pages_in sheaves list) in let r = rest.0 in omega arith,
      ap (λ n. get_or (pages_in sheaves (s ∷ list)) n 0) (let same : suc m * 128 + j ≡ length (bytes_at sheaves s) + (m * 128 + j) = omega arith in same)
          ∙ get_or-behind (bytes_at sheaves s) (pages_in sheaves list) (m * 128 + j)
          ∙ rest.1,
    )

-- how many pages there are
pub flat_length : (sheaves : List Sheet) (list : List ℕ) (m : ℕ) → AreFull sheaves list → m + 1 ≡ length list
    → length (pages_in sheaves list) ≡ m * 128 + length (bytes_at sheaves (get_or list m 0))
flat_length sheaves [] m full last = absurd (let f : ⊥ = omega arith in f)
flat_length sheaves (s ∷ []) zero full last = length-both (bytes_at sheaves s) [] ∙ omega arith
flat_length sheaves (s ∷ []) (suc m) full last = absurd (let f : ⊥ = omega arith in f)
flat_length sheaves (s ∷ t ∷ list) zero full last = absurd (let f : ⊥ = omega arith in f)
flat_length sheaves (s ∷ t ∷ list) (suc m) full last =
    let rest = flat_length sheaves (t ∷ list) m (full_rest sheaves s (t ∷ list) full) (omega arith) in
    let whole : length (bytes_at sheaves s) ≡ 128 = full.full 0 (omega arith) in
    length-both (bytes_at sheaves s) (pages_in sheaves (t ∷ list)) ∙ omega arith

pub flat_most : (sheaves : List Sheet) (list : List ℕ) → AreFull sheaves list → length (pages_in sheaves list) ≤ length list * 128
flat_most sheaves [] full = omega arith
flat_most sheaves (s ∷ list) full =
    let rest = flat_most sheaves list (full_rest sheaves s list full) in
    let one = full.last 0 (omega arith) in
    let l = length-both (bytes_at sheaves s) (pages_in sheaves list) in
    omega arith

last_of : (list : List ℕ) (m : ℕ) → m < length list → (m + 1 < length list → ⊥) → m + 1 ≡ length list
last_of list m below most = elim (cases_lt (m + 1) (length list)) [
  | inl more ↦ absurd (most more)
  | inr past ↦ omega arith
]

-- where page k stands
pub place_of : (sheaves : List Sheet) (list : List ℕ) (k : ℕ) → AreFull sheaves list → k < length (pages_in sheaves list)
    → (k / 128 < length list) × (k % 128 < length (bytes_at sheaves (get_or list (k / 128) 0)))
place_of sheaves list k full below =
    let most = flat_most sheaves list full in
    let there : k / 128 < length list = omega arith in (
      there,
      elim (cases_lt (k / 128 + 1) (length list)) [
        | inl more ↦ let whole : length (bytes_at sheaves (get_or list (k / 128) 0)) ≡ 128 = full.full (k / 128) more in omega arith
        | inr past ↦ let l = flat_length sheaves list (k / 128) full (omega arith) in omega arith
      ],
    )

pub page_found : (sheaves : List Sheet) (list : List ℕ) (k : ℕ) → AreFull sheaves list → k < length (pages_in sheaves list)
    → get_or (pages_in sheaves list) k 0 ≡ get_or (bytes_at sheaves (get_or list (k / 128) 0)) (k % 128) 0
page_found sheaves list k full below =
    let place = place_of sheaves list k full below in
    ap (λ n. get_or (pages_in sheaves list) n 0) (let same : k ≡ k / 128 * 128 + k % 128 = omega arith in same)
    ∙ (at_place sheaves list (k / 128) (k % 128) full place.0 place.1).1

pub page_there : (sheaves : List Sheet) (list : List ℕ) (k : ℕ) → AreFull sheaves list → k / 128 < length list
    → k % 128 < length (bytes_at sheaves (get_or list (k / 128) 0)) → k < length (pages_in sheaves list)
page_there sheaves list k full there within =
    let at = (at_place sheaves list (k / 128) (k % 128) full there within).0 in omega arith

-- what was read of a sheaf, and of its pages
pub sheaf_read : (sheaves : List Sheet) (i : ℕ) (s : Sheet) → i < length sheaves → s ≡ get_or sheaves i s → s ≡ sheet_at sheaves i
sheaf_read sheaves i s below read = get_or_read sheaves i s below read free_sheet

pub listed_there : (sheaves : List Sheet) (list : List ℕ) (m : ℕ) → AreCounted sheaves list → m < length list → get_or list m 0 < length sheaves
listed_there sheaves list m counted below = within sheaves (get_or list m 0) (counted_at sheaves list m counted below)

pub past_list : (sheaves : List Sheet) (list : List ℕ) (k : ℕ) → AreFull sheaves list → length list ≤ k / 128 → length (pages_in sheaves list) ≤ k
past_list sheaves list k full past = let most = flat_most sheaves list full in omega arith

pub past_sheaf : (sheaves : List Sheet) (list : List ℕ) (k : ℕ) → AreFull sheaves list
    → length (bytes_at sheaves (get_or list (k / 128) 0)) ≤ k % 128 → length (pages_in sheaves list) ≤ k
past_sheaf sheaves list k full past = elim (cases_lt k (length (pages_in sheaves list))) [
  | inl there ↦ let place = (place_of sheaves list k full there).1 in omega arith
  | inr out ↦ out
]

pub page_at_found : (sheaves : List Sheet) (list : List ℕ) (k : ℕ) → AreFull sheaves list → k / 128 < length list
    → k % 128 < length (bytes_at sheaves (get_or list (k / 128) 0)) → (s : Sheet) → s ≡ sheet_at sheaves (get_or list (k / 128) 0)
    → (p : ℕ) → p ≡ get_or s.bytes (k % 128) 0 → p ≡ get_or (pages_in sheaves list) k 0
page_at_found sheaves list k full there within s is p read =
    read ∙ ap (λ (t : Sheet). get_or t.bytes (k % 128) 0) is
    ∙ sym (page_found sheaves list k full (page_there sheaves list k full there within))

-- the next page has its place in the sheaf, if that is there
pub near_place : (sheaves : List Sheet) (list : List ℕ) (k : ℕ) → AreFull sheaves list → k ≤ length (pages_in sheaves list)
    → k / 128 < length list → k % 128 ≤ length (bytes_at sheaves (get_or list (k / 128) 0))
near_place sheaves list k full near there = elim (cases_lt (k / 128 + 1) (length list)) [
  | inl more ↦ let whole : length (bytes_at sheaves (get_or list (k / 128) 0)) ≡ 128 = full.full (k / 128) more in omega arith
  | inr past ↦ let l = flat_length sheaves list (k / 128) full (omega arith) in omega arith
]

-- the bytes of the page at place k, whether it is there or not
pub flat_bytes : (sheaves sheets : List Sheet) (list : List ℕ) (k : ℕ) → AreFull sheaves list
    → bytes_on sheets (pages_in sheaves list) k ≡ bytes_on sheets (bytes_on sheaves list (k / 128)) (k % 128)
flat_bytes sheaves sheets list k full = elim (cases_lt k (length (pages_in sheaves list))) [
  | inl there ↦
      let place = place_of sheaves list k full there in
      bytes_on_within sheets (pages_in sheaves list) k there
      ∙ ap (bytes_at sheets) (page_found sheaves list k full there)
      ∙ sym (bytes_on_within sheets (bytes_at sheaves (get_or list (k / 128) 0)) (k % 128) place.1)
      ∙ ap (λ pages. bytes_on sheets pages (k % 128)) (sym (bytes_on_within sheaves list (k / 128) place.0))
  | inr past ↦
      bytes_on_past sheets (pages_in sheaves list) k past
      ∙ (elim (cases_lt (k / 128) (length list)) [
        | inl there ↦
            sym (bytes_on_past sheets (bytes_at sheaves (get_or list (k / 128) 0)) (k % 128)
            (elim (cases_lt (k % 128) (length (bytes_at sheaves (get_or list (k / 128) 0)))) [
              | inl within ↦ let at = page_there sheaves list k full there within in omega arith
              | inr out ↦ out
            ]))
            ∙ ap (λ pages. bytes_on sheets pages (k % 128)) (sym (bytes_on_within sheaves list (k / 128) there))
        | inr out ↦
            sym (bytes_on_past sheets [] (k % 128) (omega arith))
            ∙ ap (λ pages. bytes_on sheets pages (k % 128)) (sym (bytes_on_past sheaves list (k / 128) out))
      ])
]

-- ---- sheaves that have the same pages

pub pages_same : (a b : List Sheet) (p q : List ℕ) → length q ≡ length p
    → ((m : ℕ) → m < length p → bytes_at b (get_or q m 0) ≡ bytes_at a (get_or p m 0)) → pages_in b q ≡ pages_in a p
pages_same a b [] [] long same = refl
pages_same a b [] (t ∷ q) long same = absurd (let f : ⊥ = omega arith in f)
pages_same a b (s ∷ p) [] long same = absurd (let f : ⊥ = omega arith in f)
pages_same a b (s ∷ p) (t ∷ q) long same =
    ap (λ pages. pages ++ pages_in b q) (same 0 (omega arith))
    ∙ ap (λ pages. bytes_at a s ++ pages) (pages_same a b p q (omega arith) (λ m below. same (suc m) (omega arith)))

pub full_same : (a b : List Sheet) (p q : List ℕ) → length q ≡ length p
    → ((m : ℕ) → m < length p → bytes_at b (get_or q m 0) ≡ bytes_at a (get_or p m 0)) → AreFull a p → AreFull b q
full_same a b p q long same full = record {
  full = λ m below. ap length (same m (omega arith)) ∙ full.full m (omega arith);
  last = λ m below. let l = ap length (same m (omega arith)) in let most = full.last m (omega arith) in omega arith;
}

-- one sheaf has other pages: the pages that come and go are its own
pub pages_changed : (a b : List Sheet) (list : List ℕ) (m x : ℕ) → m < length list
    → ((n : ℕ) → n < length list → n ≢ m → bytes_at b (get_or list n 0) ≡ bytes_at a (get_or list n 0))
    → (occurs x (pages_in b list) + occurs x (bytes_at a (get_or list m 0)) ≡ occurs x (pages_in a list) + occurs x (bytes_at b (get_or list m 0)))
    × (length (pages_in b list) + length (bytes_at a (get_or list m 0)) ≡ length (pages_in a list) + length (bytes_at b (get_or list m 0)))
pages_changed a b [] m x below same = absurd (let f : ⊥ = omega arith in f)
pages_changed a b (s ∷ list) zero x below same =
    let rest = pages_same a b list list refl (λ n there. same (suc n) (omega arith) (λ e. let f : ⊥ = omega arith in f)) in
    let names = ap (occurs x) rest in
    let long = ap length rest in
    let oa = occurs-append (bytes_at a s) (pages_in a list) x in
    let ob = occurs-append (bytes_at b s) (pages_in b list) x in
    let la = length-both (bytes_at a s) (pages_in a list) in
    let lb = length-both (bytes_at b s) (pages_in b list) in
    (omega arith, omega arith)
pages_changed a b (s ∷ list) (suc m) x below same =
    let rest = pages_changed a b list m x (omega arith) (λ n there apart. same (suc n) (omega arith) (λ e. apart (let down : n ≡ m = omega arith in down))) in
    let names = rest.0 in
    let long = rest.1 in
    let first = same 0 (omega arith) (λ e. let f : ⊥ = omega arith in f) in
    let fo = ap (occurs x) first in
    let fl = ap length first in
    let oa = occurs-append (bytes_at a s) (pages_in a list) x in
    let ob = occurs-append (bytes_at b s) (pages_in b list) x in
    let la = length-both (bytes_at a s) (pages_in a list) in
    let lb = length-both (bytes_at b s) (pages_in b list) in
    (omega arith, omega arith)

-- ---- how often sheaves name a page

pub named_in-set : (sheaves : List Sheet) (i : ℕ) (s : Sheet) (x : ℕ) → i < length sheaves
    → named_in x (set sheaves i s) + occurs x (bytes_at sheaves i) ≡ named_in x sheaves + occurs x s.bytes
named_in-set [] i s x below = omega arith
named_in-set (t ∷ sheaves) zero s x below = omega arith
named_in-set (t ∷ sheaves) (suc i) s x below = let rest = named_in-set sheaves i s x (omega arith) in omega arith

pub named_in-push : (sheaves : List Sheet) (s : Sheet) (x : ℕ) → named_in x (sheaves ++ s ∷ []) ≡ named_in x sheaves + occurs x s.bytes
named_in-push [] s x = omega arith
named_in-push (t ∷ sheaves) s x = let rest = named_in-push sheaves s x in omega arith

pub named_pushed : (sheaves after : List Sheet) (s : Sheet) (i x : ℕ) → i ≡ length sheaves → after ≡ sheaves ++ s ∷ []
    → named_in x after + occurs x (bytes_at sheaves i) ≡ named_in x sheaves + occurs x s.bytes
named_pushed sheaves after s i x at is =
    let sum = ap (named_in x) is ∙ named_in-push sheaves s x in
    let none : occurs x (bytes_at sheaves i) ≡ 0 = ap (λ (t : Sheet). occurs x t.bytes) (get_or_past sheaves i free_sheet (omega arith)) in
    omega arith

pub named_one : (sheaves : List Sheet) (i x : ℕ) → occurs x (bytes_at sheaves i) ≤ named_in x sheaves
named_one [] i x = let none : occurs x (bytes_at [] i) ≡ 0 = ap (λ (s : Sheet). occurs x s.bytes) (get_or_past [] i free_sheet (omega arith)) in omega arith
named_one (t ∷ sheaves) zero x = omega arith
named_one (t ∷ sheaves) (suc i) x = let rest = named_one sheaves i x in omega arith

pub named_two : (sheaves : List Sheet) (i j x : ℕ) → i ≢ j → occurs x (bytes_at sheaves i) + occurs x (bytes_at sheaves j) ≤ named_in x sheaves
named_two [] i j x apart =
    let none : occurs x (bytes_at [] i) ≡ 0 = ap (λ (s : Sheet). occurs x s.bytes) (get_or_past [] i free_sheet (omega arith)) in
    let nil : occurs x (bytes_at [] j) ≡ 0 = ap (λ (s : Sheet). occurs x s.bytes) (get_or_past [] j free_sheet (omega arith)) in omega arith
named_two (t ∷ sheaves) zero zero x apart = absurd (apart refl)
named_two (t ∷ sheaves) zero (suc j) x apart = let rest = named_one sheaves j x in omega arith
named_two (t ∷ sheaves) (suc i) zero x apart = let rest = named_one sheaves i x in omega arith
named_two (t ∷ sheaves) (suc i) (suc j) x apart = let rest = named_two sheaves i j x (λ e. apart (ap suc e)) in omega arith

named_list : (sheaves : List Sheet) (list : List ℕ) (x : ℕ) → 0 < occurs x (pages_in sheaves list) → 0 < named_in x sheaves
named_list sheaves [] x some = absurd (let f : ⊥ = omega arith in f)
named_list sheaves (s ∷ list) x some =
    let sum = occurs-append (bytes_at sheaves s) (pages_in sheaves list) x in
    elim (cases_lt 0 (occurs x (bytes_at sheaves s))) [
      | inl here ↦ let one = named_one sheaves s x in omega arith
      | inr none ↦ named_list sheaves list x (omega arith)
    ]

-- the pages of a list that names none twice are counted
pub counted_pages : (a : Stock) (list : List ℕ) → AreStocked a → AreApart (pages_in a.sheaves list) → AreCounted a.sheets (pages_in a.sheaves list)
counted_pages a list stocked apart = record {
  each = λ x.
      let once = apart.each x in
      let count = stocked.counts x in
      elim (cases_lt 0 (occurs x (pages_in a.sheaves list))) [
        | inl some ↦ let named = named_list a.sheaves list x some in omega arith
        | inr none ↦ omega arith
      ];
}

-- the pages of one sheaf are counted
pub counted_sheaf : (a : Stock) (s : ℕ) → AreStocked a → AreCounted a.sheets (bytes_at a.sheaves s)
counted_sheaf a s stocked = record { each = λ x. let count = stocked.counts x in let one = named_one a.sheaves s x in omega arith }

-- one sheaf was changed, and the counts of pages follow it
pub stocked_step : (a b : Stock) (i : ℕ) → AreStocked a → Changed i a.sheaves b.sheaves
    → ((x : ℕ) → named_in x b.sheaves + occurs x (bytes_at a.sheaves i) ≡ named_in x a.sheaves + occurs x (bytes_at b.sheaves i))
    → ((x : ℕ) → count_at b.sheets x + occurs x (bytes_at a.sheaves i) ≡ count_at a.sheets x + occurs x (bytes_at b.sheaves i))
    → (count_at b.sheaves i ≡ 0 → bytes_at b.sheaves i ≡ []) → AreStocked b
stocked_step a b i stocked change named counts free = record {
  counts = λ x. let was = stocked.counts x in let n = named x in let c = counts x in omega arith;
  free = λ s none. elim (cases_eq s i) [
    | inl here ↦ rw here (free (ap (count_at b.sheaves) (sym here) ∙ none))
    | inr apart ↦
        let same = change.others s apart in
        ap (λ (t : Sheet). t.bytes) same ∙ stocked.free s (sym (ap (λ (t : Sheet). t.count) same) ∙ none)
  ];
}

-- ---- in terms of the fields: `items` are the sheaves and `sheets` the pages

pub stocked_set : (items sheets after : List Sheet) (i : ℕ) (s : Sheet)
    → AreStocked (record { sheaves = items; sheets = sheets }) → i < length items
    → ((x : ℕ) → count_at after x + occurs x (bytes_at items i) ≡ count_at sheets x + occurs x s.bytes) → (s.count ≡ 0 → s.bytes ≡ [])
    → AreStocked (record { sheaves = set items i s; sheets = after })
stocked_set items sheets after i s stocked below counts free =
    let here : sheet_at (set items i s) i ≡ s = get_or-set_same items i s free_sheet below in
    let bytes : bytes_at (set items i s) i ≡ s.bytes = ap (λ (t : Sheet). t.bytes) here in
    stocked_step (record { sheaves = items; sheets = sheets }) (record { sheaves = set items i s; sheets = after }) i stocked
    (changed_set items i s below)
    (λ x. let named = named_in-set items i s x below in let same = ap (occurs x) bytes in omega arith)
    (λ x. let count = counts x in let same = ap (occurs x) bytes in omega arith)
    (λ none. bytes ∙ free (sym (ap (λ (t : Sheet). t.count) here) ∙ none))

-- the pages that were read of a sheaf
pub pages_read : (items : List Sheet) (i : ℕ) (r s : Sheet) → i < length items → r ≡ get_or items i r → s.bytes ≡ r.bytes → s.bytes ≡ bytes_at items i
pages_read items i r s below read same = same ∙ ap (λ (t : Sheet). t.bytes) (sheaf_read items i r below read)

-- another count alone
pub stocked_count : (items sheets : List Sheet) (i : ℕ) (s : Sheet)
    → AreStocked (record { sheaves = items; sheets = sheets }) → i < length items
    → s.bytes ≡ bytes_at items i → 0 < s.count
    → AreStocked (record { sheaves = set items i s; sheets = sheets })
stocked_count items sheets i s stocked below same some =
    stocked_set items sheets sheets i s stocked below (λ x. let e = ap (occurs x) same in omega arith) (λ none. absurd (let f : ⊥ = omega arith in f))

-- a sheaf's pages are counted
pub counted_read : (items sheets : List Sheet) (i : ℕ) (r : Sheet) → AreStocked (record { sheaves = items; sheets = sheets })
    → i < length items → r ≡ get_or items i r → AreCounted sheets r.bytes
counted_read items sheets i r stocked below read =
    subst (λ (t : Sheet). AreCounted sheets t.bytes) (sym (sheaf_read items i r below read))
    (counted_sheaf (record { sheaves = items; sheets = sheets }) i stocked)

pub moved_read : (items sheets after : List Sheet) (i : ℕ) (r s : Sheet) → i < length items → r ≡ get_or items i r
    → Moved sheets r.bytes after s.bytes → (x : ℕ) → count_at after x + occurs x (bytes_at items i) ≡ count_at sheets x + occurs x s.bytes
moved_read items sheets after i r s below read moved x =
    let count = moved.counts x in
    let same = ap (λ (t : Sheet). occurs x t.bytes) (sheaf_read items i r below read) in
    omega arith

-- a sheaf that is let go leaves the others
pub kept_freed : (items sheets after : List Sheet) (i : ℕ) (t : Sheet)
    → AreStocked (record { sheaves = set items i t; sheets = after }) → i < length items → t.count ≡ 0
    → ((x : ℕ) → 0 < count_at after x → bytes_at after x ≡ bytes_at sheets x) → (s : ℕ) → 0 < count_at (set items i t) s
    → IsSame (record { sheaves = items; sheets = sheets }) (record { sheaves = set items i t; sheets = after }) s
kept_freed items sheets after i t stocked below none kept s some =
    let apart : s ≢ i = λ e.
    let here : count_at (set items i t) s ≡ t.count = ap (count_at (set items i t)) e ∙ ap (λ (u : Sheet). u.count) (get_or-set_same items i t free_sheet below) in
    omega arith in
    let same : bytes_at (set items i t) s ≡ bytes_at items s = ap (λ (u : Sheet). u.bytes) (get_or-set_other items i s t free_sheet apart) in
    record {
      pages = same;
      bytes = λ x named.
          let one = named_one (set items i t) s x in let count = stocked.counts x in let names = ap (occurs x) same in
          kept x (omega arith);
    }

pub same_refl : (a : Stock) (s : ℕ) → IsSame a a s
same_refl a s = record { pages = refl; bytes = λ x named. refl }

pub same_trans : (a b c : Stock) (s : ℕ) → IsSame a b s → IsSame b c s → IsSame a c s
same_trans a b c s first second = record {
  pages = second.pages ∙ first.pages;
  bytes = λ x named. second.bytes x (let names = ap (occurs x) first.pages in omega arith) ∙ first.bytes x named;
}

-- another count alone
pub kept_counted : (items sheets : List Sheet) (i : ℕ) (t : Sheet) → i < length items → t.bytes ≡ bytes_at items i → (s : ℕ)
    → IsSame (record { sheaves = items; sheets = sheets }) (record { sheaves = set items i t; sheets = sheets }) s
kept_counted items sheets i t below same s = record {
  pages = elim (cases_eq s i) [
    | inl here ↦
        ap (bytes_at (set items i t)) here ∙ ap (λ (u : Sheet). u.bytes) (get_or-set_same items i t free_sheet below) ∙ same
        ∙ ap (bytes_at items) (sym here)
    | inr apart ↦ ap (λ (u : Sheet). u.bytes) (get_or-set_other items i s t free_sheet apart)
  ];
  bytes = λ x named. refl;
}

-- a sheaf whose pages were made ready leaves the others
pub kept_prepared : (items sheets after : List Sheet) (i : ℕ) (r t : Sheet) → AreStocked (record { sheaves = items; sheets = sheets })
    → i < length items → r ≡ get_or items i r → Prepared sheets r.bytes after t.bytes → (s : ℕ) → s ≢ i
    → IsSame (record { sheaves = items; sheets = sheets }) (record { sheaves = set items i t; sheets = after }) s
kept_prepared items sheets after i r t stocked below read prepared s apart = record {
  pages = ap (λ (u : Sheet). u.bytes) (get_or-set_other items i s t free_sheet apart);
  bytes = λ x named.
      let two = named_two items s i x apart in
      let count = stocked.counts x in
      let here = ap (λ (u : Sheet). occurs x u.bytes) (sheaf_read items i r below read) in
      prepared.moved.others x (omega arith);
}

pub prepared_set : (items sheets after : List Sheet) (i : ℕ) (r t : Sheet) → i < length items → r ≡ get_or items i r
    → Prepared sheets r.bytes after t.bytes → Prepared sheets (bytes_at items i) after (bytes_at (set items i t) i)
prepared_set items sheets after i r t below read prepared =
    subst (λ (u : Sheet). Prepared sheets (bytes_at items i) after u.bytes) (sym (get_or-set_same items i t free_sheet below))
    (subst (λ (u : Sheet). Prepared sheets u.bytes after t.bytes) (sheaf_read items i r below read) prepared)

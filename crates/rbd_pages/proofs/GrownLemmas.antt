-- How many places there are behind one change and another.
use Rattle.std.proofs.Common.{◌≡◌, ◌≢◌, ℕ, ◌+◌, ◌-◌, ◌/◌, ◌%◌, ◌<◌, ◌≤◌, ◌⊎◌, ltb, true, false, List, [], ◌∷◌, ◌++◌, length, get_or, set, min, max, refl, sym, ap, ◌∙◌, subst, inl, inr, arith}
use Rattle.std.proofs.lemmas.Bool.{cases_lt}
use Rattle.std.proofs.lemmas.List.{length-set, length_push}
use Rattle.rbd_pages.specs.Listed.{sheaves_touched, touched}
use Rattle.rbd_pages.specs.Paging.{pages_for}
use Rattle.rbd_pages.specs.Most.{AreStates, most_named}
use Rattle.rbd_pages.specs.Places.{Grown, KeepsMost, NoneTaken, taken_at}
use Rattle.rbd_pages.specs.Sheaves.{Stock, sheaves_between, sheaves_for}
use Rattle.rbd_pages.specs.Sheets.{Sheet, Changed, count_at, in_use}
use Rattle.rbd_pages.proofs.SheetLemmas.{in_use-le-length, in_use-push, in_use-set}

-- ---- the places of one list

pub most_same : (sheets : List Sheet) → KeepsMost sheets sheets
most_same sheets = let most = in_use-le-length sheets in omega arith

pub most_set : (items : List Sheet) (i : ℕ) (s : Sheet) → KeepsMost items (set items i s)
most_set items i s =
    let long = length-set items i s in
    let most = in_use-le-length (set items i s) in
    omega arith

pub most_push : (items new : List Sheet) (s : Sheet) → new ≡ items ++ s ∷ [] → s.count ≡ 1 → in_use items ≡ length items → KeepsMost items new
most_push items new s is one full =
    let long : length new ≡ length items + 1 = ap length is ∙ length_push items s in
    let used : in_use new ≡ in_use items + min s.count 1 = ap in_use is ∙ in_use-push items s in
    omega arith

-- ---- none taken

pub none_refl : (a : Stock) → NoneTaken a a
none_refl a = record { page_places = refl; sheaf_places = refl; pages_used = omega arith; sheaves_used = omega arith }

pub none_trans : (a b c : Stock) → NoneTaken a b → NoneTaken b c → NoneTaken a c
none_trans a b c first second = record {
  page_places = second.page_places ∙ first.page_places;
  sheaf_places = second.sheaf_places ∙ first.sheaf_places;
  pages_used = let x = first.pages_used in let y = second.pages_used in omega arith;
  sheaves_used = let x = first.sheaves_used in let y = second.sheaves_used in omega arith;
}

-- the sheaves are the same
pub none_of : (a b : Stock) → b.sheaves ≡ a.sheaves → length b.sheets ≡ length a.sheets → in_use b.sheets ≤ in_use a.sheets → NoneTaken a b
none_of a b same long used = record {
  page_places = long;
  sheaf_places = ap length same;
  pages_used = used;
  sheaves_used = let is = ap in_use same in omega arith;
}

-- a sheaf is named by one place more, or by one less
pub none_set : (items sheets after : List Sheet) (i : ℕ) (s : Sheet) → i < length items → min s.count 1 ≤ min (count_at items i) 1
    → length after ≡ length sheets → in_use after ≤ in_use sheets
    → NoneTaken (record { sheaves = items; sheets = sheets }) (record { sheaves = set items i s; sheets = after })
none_set items sheets after i s below fewer long used = record {
  page_places = long;
  sheaf_places = length-set items i s;
  pages_used = used;
  sheaves_used = let is = in_use-set items i s below in omega arith;
}

-- ---- some taken

pub none_grown : (pages sheaves : ℕ) (a b : Stock) → NoneTaken a b → Grown pages sheaves a b
none_grown pages sheaves a b none = record {
  page_places = let long = none.page_places in omega arith;
  sheaf_places = let long = none.sheaf_places in omega arith;
  pages_used = let used = none.pages_used in omega arith;
  sheaves_used = let used = none.sheaves_used in omega arith;
}

pub grown_refl : (pages sheaves : ℕ) (a : Stock) → Grown pages sheaves a a
grown_refl pages sheaves a = none_grown pages sheaves a a (none_refl a)

pub grown_same : (pages sheaves : ℕ) (a b : Stock) → b ≡ a → Grown pages sheaves a b
grown_same pages sheaves a b same = subst (Grown pages sheaves a) (sym same) (grown_refl pages sheaves a)

pub grown_more : (p s q t : ℕ) (a b : Stock) → Grown p s a b → p ≤ q → s ≤ t → Grown q t a b
grown_more p s q t a b was pages sheaves = record {
  page_places = let long = was.page_places in omega arith;
  sheaf_places = let long = was.sheaf_places in omega arith;
  pages_used = let used = was.pages_used in omega arith;
  sheaves_used = let used = was.sheaves_used in omega arith;
}

-- one change, and then another
pub grown_trans : (p s q t : ℕ) (a b c : Stock) → Grown p s a b → Grown q t b c → Grown (p + q) (s + t) a c
grown_trans p s q t a b c first second = record {
  page_places = let x = first.page_places in let y = second.page_places in let u = first.pages_used in omega arith;
  sheaf_places = let x = first.sheaf_places in let y = second.sheaf_places in let u = first.sheaves_used in omega arith;
  pages_used = let x = first.pages_used in let y = second.pages_used in omega arith;
  sheaves_used = let x = first.sheaves_used in let y = second.sheaves_used in omega arith;
}

pub grown_then_none : (p s : ℕ) (a b c : Stock) → Grown p s a b → NoneTaken b c → Grown p s a c
grown_then_none p s a b c grown none = record {
  page_places = let x = grown.page_places in let y = none.page_places in omega arith;
  sheaf_places = let x = grown.sheaf_places in let y = none.sheaf_places in omega arith;
  pages_used = let x = grown.pages_used in let y = none.pages_used in omega arith;
  sheaves_used = let x = grown.sheaves_used in let y = none.sheaves_used in omega arith;
}

pub none_then_grown : (p s : ℕ) (a b c : Stock) → NoneTaken a b → Grown p s b c → Grown p s a c
none_then_grown p s a b c none grown = record {
  page_places = let x = grown.page_places in let y = none.page_places in let u = none.pages_used in omega arith;
  sheaf_places = let x = grown.sheaf_places in let y = none.sheaf_places in let u = none.sheaves_used in omega arith;
  pages_used = let x = grown.pages_used in let y = none.pages_used in omega arith;
  sheaves_used = let x = grown.sheaves_used in let y = none.sheaves_used in omega arith;
}

-- bytes of pages were changed
pub grown_then_changed : (p s : ℕ) (a b c : Stock) → Grown p s a b → c.sheaves ≡ b.sheaves → length c.sheets ≡ length b.sheets
    → in_use c.sheets ≡ in_use b.sheets → Grown p s a c
grown_then_changed p s a b c grown same long used = grown_then_none p s a b c grown (none_of b c same long (omega arith))

-- ---- one sheaf, and one page

-- a sheaf was added, or copied and the old one left to others
pub sheaf_grown : (a b : Stock) (i : ℕ) → count_at a.sheaves i ≡ 0 → count_at b.sheaves i ≡ 1 → Changed i a.sheaves b.sheaves
    → KeepsMost a.sheaves b.sheaves → length b.sheets ≡ length a.sheets → in_use b.sheets ≤ in_use a.sheets → Grown 0 1 a b
sheaf_grown a b i free one change most long used = record {
  page_places = omega arith;
  sheaf_places = let more = change.used in omega arith;
  pages_used = omega arith;
  sheaves_used = let more = change.used in omega arith;
}

-- the page of a sheaf that one place names was made ready
pub page_grown : (a b : Stock) (i : ℕ) → count_at a.sheaves i ≡ 1 → count_at b.sheaves i ≡ 1 → Changed i a.sheaves b.sheaves
    → length b.sheaves ≡ length a.sheaves → KeepsMost a.sheets b.sheets → in_use b.sheets ≤ in_use a.sheets + 1 → Grown 1 0 a b
page_grown a b i was one change long most used = record {
  page_places = omega arith;
  sheaf_places = omega arith;
  pages_used = used;
  sheaves_used = let more = change.used in omega arith;
}

-- ---- which sheaf a list takes

pub within_is : (m n : ℕ) → m < n → ltb m n ≡ true
within_is m n below = grind arith

pub past_is : (m n : ℕ) → n ≤ m → ltb m n ≡ false
past_is m n past = grind arith

pub taken_none : (sheaves : List Sheet) (list : List ℕ) (m : ℕ) → m < length list → count_at sheaves (get_or list m 0) ≡ 1 → taken_at sheaves list m ≡ 0
taken_none sheaves list m below alone = rw (within_is m (length list) below) (omega arith)

pub taken_copy : (sheaves : List Sheet) (list : List ℕ) (m : ℕ) → m < length list → 1 < count_at sheaves (get_or list m 0) → taken_at sheaves list m ≡ 1
taken_copy sheaves list m below shared = rw (within_is m (length list) below) (omega arith)

pub taken_past : (sheaves : List Sheet) (list : List ℕ) (m : ℕ) → length list ≤ m → taken_at sheaves list m ≡ 1
taken_past sheaves list m past = rw (past_is m (length list) past) refl

pub taken_most : (sheaves : List Sheet) (list : List ℕ) (m : ℕ) → taken_at sheaves list m ≤ 1
taken_most sheaves list m = elim (cases_lt m (length list)) [
  | inl below ↦ rw (within_is m (length list) below) (omega arith)
  | inr past ↦ rw (past_is m (length list) past) (omega arith)
]

-- ---- one page after another

between_some : (first k : ℕ) → first < k → sheaves_between first k ≡ sheaves_for k - first / 128
between_some first k some = rw (within_is first k some) refl

between_none : (first k : ℕ) → k ≤ first → sheaves_between first k ≡ 0
between_none first k none = rw (past_is first k none) refl

pub between_more : (first k end : ℕ) → k ≤ max first end → sheaves_between first k ≤ sheaves_between first end
between_more first k end most = elim (cases_lt first k) [
  | inl some ↦ let now = between_some first k some in let all = between_some first end (omega arith) in omega arith
  | inr none ↦ let now = between_none first k none in omega arith
]

between_wider : (first from end : ℕ) → first ≤ from → sheaves_between from end ≤ sheaves_between first end
between_wider first from end le = elim (cases_lt from end) [
  | inl some ↦ let less = between_some from end some in let all = between_some first end (omega arith) in omega arith
  | inr none ↦ let less = between_none from end none in omega arith
]

-- the next page takes a sheaf only where it is the first of one, or of all
pub between_next : (first k taken : ℕ) → first ≤ k → taken ≤ 1 → (first < k → k % 128 ≢ 0 → taken ≡ 0)
    → sheaves_between first k + taken ≤ sheaves_between first (k + 1)
between_next first k taken from most own = elim (cases_lt first k) [
  | inr none ↦
      let now = between_none first k none in
      let next = between_some first (k + 1) (omega arith) in
      omega arith
  | inl some ↦
      let now = between_some first k some in
      let next = between_some first (k + 1) (omega arith) in
      elim (cases_lt 0 (k % 128)) [
        | inl inner ↦ let none = own some (λ zero. let f : ⊥ = omega arith in f) in omega arith
        | inr edge ↦ omega arith
      ]
]

pub pages_grown : (first end k f e : ℕ) (a b : Stock) → first ≡ f → end ≡ e → first ≤ k → k ≤ max first end
    → Grown (k - first) (sheaves_between first k) a b → Grown (e - f) (sheaves_between f e) a b
pages_grown first end k f e a b is ends from up_to grown =
    subst (λ x. Grown (e - x) (sheaves_between x e) a b) is
    (subst (λ y. Grown (y - first) (sheaves_between first y) a b) ends
    (grown_more (k - first) (sheaves_between first k) (end - first) (sheaves_between first end) a b grown (omega arith) (between_more first k end up_to)))

pub page_after : (first k taken : ℕ) (a b c : Stock) → Grown (k - first) (sheaves_between first k) a b → Grown 1 taken b c → first ≤ k
    → sheaves_between first k + taken ≤ sheaves_between first (k + 1) → Grown (k + 1 - first) (sheaves_between first (k + 1)) a c
page_after first k taken a b c grown step from more =
    grown_more (k - first + 1) (sheaves_between first k + taken) (k + 1 - first) (sheaves_between first (k + 1)) a c
    (grown_trans (k - first) (sheaves_between first k) 1 taken a b c grown step) (omega arith) more

-- the sheaf of the page before is the list's alone
pub taken_again : (sheaves : List Sheet) (list : List ℕ) (first k : ℕ) → sheaves_for k ≤ length list → first < k → k % 128 ≢ 0
    → ((j : ℕ) → first ≤ j → j + 1 ≡ k → count_at sheaves (get_or list (j / 128) 0) ≡ 1) → taken_at sheaves list (k / 128) ≡ 0
taken_again sheaves list first k many some inner alone =
    let off : 0 < k % 128 = elim (cases_lt 0 (k % 128)) [ inl more ↦ more | inr none ↦ absurd (inner (omega arith)) ] in
    let same : (k - 1) / 128 ≡ k / 128 = omega arith in
    taken_none sheaves list (k / 128) (omega arith)
    (subst (λ m. count_at sheaves (get_or list m 0) ≡ 1) same (alone (k - 1) (omega arith) (omega arith)))

-- a sheaf that others name too was copied, and the old one left to them
pub copy_grown : (a b c : Stock) (list : List ℕ) (m s i : ℕ) → s ≡ get_or list m 0 → m < length list → 1 < count_at a.sheaves s
    → count_at a.sheaves i ≡ 0 → count_at b.sheaves i ≡ 1 → Changed i a.sheaves b.sheaves → KeepsMost a.sheaves b.sheaves
    → length b.sheets ≡ length a.sheets → in_use b.sheets ≤ in_use a.sheets → NoneTaken b c → Grown 0 (taken_at a.sheaves list m) a c
copy_grown a b c list m s i is below shared free one change most long used none =
    let all : taken_at a.sheaves list m ≡ 1 = taken_copy a.sheaves list m below (subst (λ x. 1 < count_at a.sheaves x) is shared) in
    grown_then_none 0 (taken_at a.sheaves list m) a b c
    (grown_more 0 1 0 (taken_at a.sheaves list m) a b (sheaf_grown a b i free one change most long used) (omega arith) (omega arith)) none

-- ---- the bytes that a change touches

pub written_grown : (a b : Stock) (len at n : ℕ) → (0 < n) ⊎ (len < at)
    → Grown (pages_for (at + n) - min (pages_for len) (at / 4096)) (sheaves_between (min (pages_for len) (at / 4096)) (pages_for (at + n))) a b
    → Grown (touched (min len at) (at + n)) (sheaves_touched (min len at) (at + n)) a b
written_grown a b len at n some grown =
    let apart : min len at < at + n = elim some [ inl more ↦ omega arith | inr past ↦ omega arith ] in
    let test = within_is (min len at) (at + n) apart in
    let from : min len at / 4096 ≤ min (pages_for len) (at / 4096) = omega arith in
    let pages : touched (min len at) (at + n) ≡ pages_for (at + n) - min len at / 4096 = rw test refl in
    let sheaves : sheaves_touched (min len at) (at + n) ≡ sheaves_between (min len at / 4096) (pages_for (at + n)) = rw test refl in
    grown_more _ _ _ _ a b grown (omega arith)
    (let wider = between_wider (min len at / 4096) (min (pages_for len) (at / 4096)) (pages_for (at + n)) from in omega arith)

pub zeroed_grown : (a b : Stock) (end at len from count : ℕ) → from ≡ min at end → count ≡ min len (end - from) → 0 < count
    → Grown (pages_for (from + count) - min (pages_for end) (from / 4096)) (sheaves_between (min (pages_for end) (from / 4096)) (pages_for (from + count))) a b
    → Grown (touched at (at + len)) (sheaves_touched at (at + len)) a b
zeroed_grown a b end at len from count f n some grown =
    let same : from ≡ at = omega arith in
    let test = within_is at (at + len) (omega arith) in
    let pages : touched at (at + len) ≡ pages_for (at + len) - at / 4096 = rw test refl in
    let sheaves : sheaves_touched at (at + len) ≡ sheaves_between (at / 4096) (pages_for (at + len)) = rw test refl in
    grown_more _ _ _ _ a b grown (omega arith)
    (let wider = between_wider (at / 4096) (min (pages_for end) (from / 4096)) (pages_for (from + count)) (omega arith) in
    let more = between_more (at / 4096) (pages_for (from + count)) (pages_for (at + len)) (omega arith) in omega arith)

pub between_all : (end : ℕ) → sheaves_between 0 end ≤ sheaves_for end
between_all end = elim (cases_lt 0 end) [
  | inl some ↦ let all = between_some 0 end some in omega arith
  | inr none ↦ let all = between_none 0 end none in omega arith
]

pub held_grown : (held pages at end : ℕ) (a b : Stock) → held ≡ pages
    → Grown (pages_for end - min held (at / 4096)) (sheaves_between (min held (at / 4096)) (pages_for end)) a b
    → Grown (pages_for end - min pages (at / 4096)) (sheaves_between (min pages (at / 4096)) (pages_for end)) a b
held_grown held pages at end a b same grown =
    subst (λ n. Grown (pages_for end - min n (at / 4096)) (sheaves_between (min n (at / 4096)) (pages_for end)) a b) same grown

pub most_is : (a b : List Sheet) → b ≡ a → KeepsMost a b
most_is a b same = subst (KeepsMost a) (sym same) (most_same a)

-- ---- any run of calls

pub most_left : (old new : List Sheet) → length new ≡ length old → KeepsMost old new
most_left old new same = let most = in_use-le-length new in omega arith

pub most_of_all : (earlier : List (List Sheet)) (now : List Sheet) → AreStates earlier now → length now ≡ most_named earlier now
most_of_all [] now none = let most = in_use-le-length now in omega arith
most_of_all (before ∷ earlier) now (step, rest) = let all = most_of_all earlier before rest in omega arith

-- Steps of the changes of one list of sheaves.
use Rattle.std.proofs.Common.{◌≡◌, ◌≢◌, ℕ, Bool, true, ◌+◌, ◌-◌, ◌*◌, ◌/◌, ◌%◌, ◌<◌, ◌≤◌, List, [], ◌∷◌, ◌++◌, Result, Ok, Err, length, get_or, set, take, drop, length-take, max, refl, sym, ap, ◌∙◌, subst, inl, inr, arith}
use Rattle.std.specs.Prelude.{zero, suc, OnOk}
use Rattle.std.proofs.lemmas.Bool.{cases_lt, cases_eq}
use Rattle.std.proofs.lemmas.List.{get_or_past, get_or_append_left, get_or-set_same, get_or-set_other, get_or_push, get_or_read, get_or-take, length_push, length-set, take_all, take-append-drop, append_assoc}
use Rattle.rbd_pages.specs.Sheets.{Sheet, Changed, sheet_at, count_at, bytes_at, released}
use Rattle.rbd_pages.specs.Paging.{occurs, bytes_on, AreApart, AreCounted, IsPageReady, Moved, Prepared}
use Rattle.rbd_pages.specs.Sheaves.{AreFull, AreStocked, Exchanged, IsOwnPage, ArePagesPrepared, IsSame, Stock, pages_in}
use Rattle.rbd_pages.proofs.PagingLemmas.{bytes_on_within, bytes_on_past, copied_at, copied_one, count_kept, counted_at, framed_byte, occurs-at, other_place, prepared_add, prepared_copy}
use Rattle.rbd_pages.proofs.SheavesLemmas.{counted_pages, flat_bytes, flat_length, flat_most, full_same, named_one, named_two, occurs-append, page_found, page_there, pages_changed, pages_same, place_of, same_refl, same_trans}

-- ---- the relations are kept by doing nothing, and by one step after another

pub exchanged_refl : (a : Stock) (list : List ℕ) → Exchanged a list a list
exchanged_refl a list = record { counts = λ s. refl; others = λ s more. same_refl a s }

pub exchanged_trans : (a b c : Stock) (p q r : List ℕ) → Exchanged a p b q → Exchanged b q c r → Exchanged a p c r
exchanged_trans a b c p q r first second = record {
  counts = λ s. let x = first.counts s in let y = second.counts s in omega arith;
  others = λ s more. let x = first.counts s in same_trans a b c s (first.others s more) (second.others s (omega arith));
}

pub exchanged_kept : (a b : Stock) (p q : List ℕ) → Moved a.sheaves p b.sheaves q → ((s : ℕ) → 0 < count_at b.sheaves s → IsSame a b s)
    → Exchanged a p b q
exchanged_kept a b p q moved kept = record { counts = moved.counts; others = λ s held. kept s (let x = moved.counts s in omega arith) }

pub counted_exchanged : (a b : Stock) (p q : List ℕ) → Exchanged a p b q → AreCounted a.sheaves p → AreCounted b.sheaves q
counted_exchanged a b p q exchanged counted =
    record { each = λ s. let x = exchanged.counts s in let y = counted.each s in omega arith }

pub list_prepared_refl : (a : Stock) (list : List ℕ) → AreApart (pages_in a.sheaves list) → AreFull a.sheaves list → ArePagesPrepared a list a list
list_prepared_refl a list apart full = record {
  exchanged = exchanged_refl a list;
  bytes = λ k j. refl;
  apart = apart;
  full = full;
  more = omega arith;
  longer = omega arith;
  own = λ k byte own. own;
}

pub list_prepared_trans : (a b c : Stock) (p q r : List ℕ) → ArePagesPrepared a p b q → ArePagesPrepared b q c r → ArePagesPrepared a p c r
list_prepared_trans a b c p q r first second = record {
  exchanged = exchanged_trans a b c p q r first.exchanged second.exchanged;
  bytes = λ k j. second.bytes k j ∙ first.bytes k j;
  apart = second.apart;
  full = second.full;
  more = let x = first.more in let y = second.more in omega arith;
  longer = let x = first.longer in let y = second.longer in omega arith;
  own = λ k byte own. second.own k byte (first.own k byte own);
}

-- a page with count 1 is not named by another sheaf than its own
pub elsewhere_named : (a : Stock) (list : List ℕ) (n s : ℕ) → AreStocked a → AreFull a.sheaves list → n < length (pages_in a.sheaves list)
    → count_at a.sheets (get_or (pages_in a.sheaves list) n 0) ≡ 1 → s ≢ get_or list (n / 128) 0
    → occurs (get_or (pages_in a.sheaves list) n 0) (bytes_at a.sheaves s) ≡ 0
elsewhere_named a list n s stocked full there alone apart =
    let x = get_or (pages_in a.sheaves list) n 0 in
    let is = page_found a.sheaves list n full there in
    let here : 0 < occurs x (bytes_at a.sheaves (get_or list (n / 128) 0)) =
    subst (λ y. 0 < occurs y (bytes_at a.sheaves (get_or list (n / 128) 0))) (sym is)
    (occurs-at (bytes_at a.sheaves (get_or list (n / 128) 0)) (n % 128) (place_of a.sheaves list n full there).1) in
    let two = named_two a.sheaves s (get_or list (n / 128) 0) x apart in
    let count = stocked.counts x in
    omega arith

-- ---- a sheaf that others name too is copied

pub record Copies (a b c : Stock) (p q : ℕ) : Type 0 where
  pub more : 1 < count_at a.sheaves p
  pub free : count_at a.sheaves q ≡ 0
  pub first : Changed q a.sheaves b.sheaves
  pub sheaf : sheet_at b.sheaves q ≡ record { count = 1; bytes = bytes_at a.sheaves p }
  pub counts : (x : ℕ) → count_at b.sheets x ≡ count_at a.sheets x + occurs x (bytes_at a.sheaves p)
  pub bytes : (x : ℕ) → 0 < count_at a.sheets x → bytes_at b.sheets x ≡ bytes_at a.sheets x
  pub second : Changed p b.sheaves c.sheaves
  pub less : sheet_at c.sheaves p ≡ released (sheet_at b.sheaves p)
  pub sheets : c.sheets ≡ b.sheets

-- a page of a sheaf that is this list's alone stays ready
copy_own : (a b c : Stock) (list : List ℕ) (m q n byte : ℕ) → AreStocked a → AreFull a.sheaves list → m < length list
    → Copies a b c (get_or list m 0) q → pages_in c.sheaves (set list m q) ≡ pages_in a.sheaves list
    → IsOwnPage a list n byte → IsOwnPage c (set list m q) n byte
copy_own a b c list m q n byte stocked full below k same was =
    let s = get_or list (n / 128) 0 in
    let x = get_or (pages_in a.sheaves list) n 0 in
    let not_p : s ≢ get_or list m 0 = λ e. let count = ap (count_at a.sheaves) e in let one = was.sheaf in let more = k.more in omega arith in
    let not_q : s ≢ q = λ e. let count = ap (count_at a.sheaves) e in let one = was.sheaf in let none = k.free in omega arith in
    let other : n / 128 ≢ m = λ e. not_p (ap (λ i. get_or list i 0) e) in
    let none = elsewhere_named a list n (get_or list m 0) stocked full was.page.there was.page.alone (λ e. not_p (sym e)) in
    let alone : count_at c.sheets x ≡ 1 =
    ap (λ sheets. count_at sheets x) k.sheets ∙ (let count = k.counts x in let one = was.page.alone in omega arith) in
    let kept : bytes_at c.sheets x ≡ bytes_at a.sheets x =
    ap (λ sheets. bytes_at sheets x) k.sheets ∙ k.bytes x (let one = was.page.alone in omega arith) in
    record {
      sheaf =
          ap (count_at c.sheaves) (get_or-set_other list m (n / 128) q 0 other)
          ∙ ap (λ (t : Sheet). t.count) (k.second.others s not_p ∙ k.first.others s not_q) ∙ was.sheaf;
      page = subst (λ pages. IsPageReady c.sheets pages n byte) (sym same) (record {
        there = was.page.there;
        alone = alone;
        stored = λ some. ap length kept ∙ was.page.stored some;
      });
    }

pub own_prepared : (a b c : Stock) (list : List ℕ) (m q : ℕ) → AreStocked a → AreCounted a.sheaves list → AreApart (pages_in a.sheaves list)
    → AreFull a.sheaves list → m < length list → Copies a b c (get_or list m 0) q
    → ArePagesPrepared a list c (set list m q) × (pages_in c.sheaves (set list m q) ≡ pages_in a.sheaves list)
own_prepared a b c list m q stocked counted apart full below k =
    let lists = prepared_copy a.sheaves b.sheaves c.sheaves list m q counted below k.more k.free k.first k.sheaf k.second k.less in
    let place : (n : ℕ) → n < length list → bytes_at c.sheaves (get_or (set list m q) n 0) ≡ bytes_at a.sheaves (get_or list n 0) =
    λ n there. copied_at a.sheaves b.sheaves c.sheaves list m q n counted below k.more k.free k.first k.sheaf k.second k.less there in
    let long = length-set list m q in
    let same = pages_same a.sheaves c.sheaves list (set list m q) long place in
    let pages = counted_pages a list stocked apart in
    let bytes : (x : ℕ) → 0 < count_at a.sheets x → bytes_at c.sheets x ≡ bytes_at a.sheets x =
    λ x some. ap (λ sheets. bytes_at sheets x) k.sheets ∙ k.bytes x some in (
      record {
        exchanged = record {
          counts = lists.moved.counts;
          others = λ s held. record {
            pages = lists.moved.others s held;
            bytes = λ x named. bytes x (let one = named_one a.sheaves s x in let count = stocked.counts x in omega arith);
          };
        };
        bytes = λ n j.
            ap (λ ps. get_or (bytes_on c.sheets ps n) j 0) same
            ∙ ap (λ xs. get_or xs j 0)
            (framed_byte a.sheets c.sheets (pages_in a.sheaves list) n (λ x named. bytes x (let most = pages.each x in omega arith)));
        apart = subst AreApart (sym same) apart;
        full = full_same a.sheaves c.sheaves list (set list m q) long place full;
        more = omega arith;
        longer = let l = ap length same in omega arith;
        own = λ n byte was. copy_own a b c list m q n byte stocked full below k same was;
      },
      same,
    )

pub own_alone : (a b c : Stock) (list : List ℕ) (m q : ℕ) → m < length list → Copies a b c (get_or list m 0) q
    → count_at c.sheaves (get_or (set list m q) m 0) ≡ 1
own_alone a b c list m q below k =
    ap (count_at c.sheaves) (get_or-set_same list m q 0 below)
    ∙ copied_one a.sheaves b.sheaves c.sheaves (get_or list m 0) q k.more k.free k.first k.sheaf k.second k.less

-- in terms of the code: p is the sheaf that was read
pub copies_made : (a b c : Stock) (p r q : ℕ) → p ≡ r → 1 < count_at a.sheaves p → count_at a.sheaves q ≡ 0 → Changed q a.sheaves b.sheaves
    → sheet_at b.sheaves q ≡ record { count = 1; bytes = bytes_at a.sheaves p }
    → ((x : ℕ) → count_at b.sheets x ≡ count_at a.sheets x + occurs x (bytes_at a.sheaves p))
    → ((x : ℕ) → 0 < count_at a.sheets x → bytes_at b.sheets x ≡ bytes_at a.sheets x)
    → Changed p b.sheaves c.sheaves → sheet_at c.sheaves p ≡ released (sheet_at b.sheaves p)
    → (1 < count_at b.sheaves p → c.sheets ≡ b.sheets) → Copies a b c r q
copies_made a b c p r q e more free first sheaf counts bytes second less shared =
    subst (λ x. Copies a b c x q) e (record {
      more = more;
      free = free;
      first = first;
      sheaf = sheaf;
      counts = counts;
      bytes = bytes;
      second = second;
      less = less;
      sheets =
          let apart : p ≢ q = λ same. let count = ap (count_at a.sheaves) same in omega arith in
          let count : count_at b.sheaves p ≡ count_at a.sheaves p = ap (λ (s : Sheet). s.count) (first.others p apart) in
          shared (omega arith);
    })

pub sheaf_alone : (sheaves : List Sheet) (list : List ℕ) (m p : ℕ) → p ≡ get_or list m p → AreCounted sheaves list → m < length list
    → count_at sheaves p ≤ 1 → count_at sheaves (get_or list m 0) ≡ 1
sheaf_alone sheaves list m p read counted below few =
    let some = counted_at sheaves list m counted below in
    let most : count_at sheaves (get_or list m 0) ≤ 1 = subst (λ x. count_at sheaves x ≤ 1) (get_or_read list m p below read 0) few in
    omega arith

-- a copy that was refused
pub own_refused : (a b : Stock) (list : List ℕ) → AreStocked a → AreApart (pages_in a.sheaves list) → AreFull a.sheaves list
    → b.sheaves ≡ a.sheaves → ((x : ℕ) → count_at b.sheets x ≡ count_at a.sheets x)
    → ((x : ℕ) → 0 < count_at a.sheets x → bytes_at b.sheets x ≡ bytes_at a.sheets x) → ArePagesPrepared a list b list
own_refused a b list stocked apart full same counts bytes =
    let pages = counted_pages a list stocked apart in
    record {
      exchanged = record {
        counts = λ s. ap (λ sheaves. count_at sheaves s + occurs s list) same;
        others = λ s held. record {
          pages = ap (λ sheaves. bytes_at sheaves s) same;
          bytes = λ x named. bytes x (let one = named_one a.sheaves s x in let count = stocked.counts x in omega arith);
        };
      };
      bytes = λ n j.
          ap (λ sheaves. get_or (bytes_on b.sheets (pages_in sheaves list) n) j 0) same
          ∙ ap (λ xs. get_or xs j 0)
          (framed_byte a.sheets b.sheets (pages_in a.sheaves list) n (λ x named. bytes x (let most = pages.each x in omega arith)));
      apart = subst (λ sheaves. AreApart (pages_in sheaves list)) (sym same) apart;
      full = subst (λ sheaves. AreFull sheaves list) (sym same) full;
      more = omega arith;
      longer = let l = ap (λ sheaves. length (pages_in sheaves list)) same in omega arith;
      own = λ n byte was. record {
        sheaf = ap (λ sheaves. count_at sheaves (get_or list (n / 128) 0)) same ∙ was.sheaf;
        page = subst (λ sheaves. IsPageReady b.sheets (pages_in sheaves list) n byte) (sym same) (record {
          there = was.page.there;
          alone = counts (get_or (pages_in a.sheaves list) n 0) ∙ was.page.alone;
          stored = λ some. ap length (bytes (get_or (pages_in a.sheaves list) n 0) (let one = was.page.alone in omega arith)) ∙ was.page.stored some;
        });
      };
    }

-- ---- a sheaf without pages is added

pub all_full : (sheaves : List Sheet) (list : List ℕ) (n : ℕ) → AreFull sheaves list → length list * 128 ≤ length (pages_in sheaves list)
    → n < length list → length (bytes_at sheaves (get_or list n 0)) ≡ 128
all_full sheaves list n full long there = elim (cases_lt (n + 1) (length list)) [
  | inl more ↦ full.full n more
  | inr past ↦ let l = flat_length sheaves list n full (omega arith) in let most = full.last n there in omega arith
]

pages_pushed : (a b : List Sheet) (list : List ℕ) (q : ℕ)
    → ((n : ℕ) → n < length list → bytes_at b (get_or list n 0) ≡ bytes_at a (get_or list n 0)) → bytes_at b q ≡ []
    → pages_in b (list ++ q ∷ []) ≡ pages_in a list
pages_pushed a b [] q same none = ap (λ pages. pages ++ []) none
pages_pushed a b (s ∷ list) q same none =
    ap (λ pages. pages ++ pages_in b (list ++ q ∷ [])) (same 0 (omega arith))
    ∙ ap (λ pages. bytes_at a s ++ pages) (pages_pushed a b list q (λ n there. same (suc n) (omega arith)) none)

pub extend_prepared : (a c : Stock) (list : List ℕ) (q : ℕ) → AreCounted a.sheaves list → AreApart (pages_in a.sheaves list)
    → AreFull a.sheaves list → length list * 128 ≤ length (pages_in a.sheaves list) → count_at a.sheaves q ≡ 0
    → Changed q a.sheaves c.sheaves → sheet_at c.sheaves q ≡ record { count = 1; bytes = [] } → c.sheets ≡ a.sheets
    → ArePagesPrepared a list c (list ++ q ∷ []) × (pages_in c.sheaves (list ++ q ∷ []) ≡ pages_in a.sheaves list)
extend_prepared a c list q counted apart full long free change new sheets =
    let lists = prepared_add a.sheaves c.sheaves list q counted free change new in
    let l = length_push list q in
    let not_q : (n : ℕ) → n < length list → get_or list n 0 ≢ q =
    λ n there e. let some = counted_at a.sheaves list n counted there in let none = ap (count_at a.sheaves) e in omega arith in
    let place : (n : ℕ) → n < length list → bytes_at c.sheaves (get_or list n 0) ≡ bytes_at a.sheaves (get_or list n 0) =
    λ n there. ap (λ (s : Sheet). s.bytes) (change.others (get_or list n 0) (not_q n there)) in
    let empty : bytes_at c.sheaves q ≡ [] = ap (λ (s : Sheet). s.bytes) new in
    let same = pages_pushed a.sheaves c.sheaves list q place empty in
    let at : (n : ℕ) → n < length list → bytes_at c.sheaves (get_or (list ++ q ∷ []) n 0) ≡ bytes_at a.sheaves (get_or list n 0) =
    λ n there. ap (bytes_at c.sheaves) (get_or_append_left list (q ∷ []) 0 n there) ∙ place n there in (
      record {
        exchanged = record {
          counts = lists.moved.counts;
          others = λ s held. record { pages = lists.moved.others s held; bytes = λ x named. ap (λ xs. bytes_at xs x) sheets };
        };
        bytes = λ n j. ap (λ ps. get_or (bytes_on c.sheets ps n) j 0) same ∙ ap (λ xs. get_or (bytes_on xs (pages_in a.sheaves list) n) j 0) sheets;
        apart = subst AreApart (sym same) apart;
        full = record {
          full = λ n below. ap length (at n (omega arith)) ∙ all_full a.sheaves list n full long (omega arith);
          last = λ n below. elim (cases_lt n (length list)) [
            | inl there ↦ let e = ap length (at n there) in let most = full.last n there in omega arith
            | inr past ↦
                let e : length (bytes_at c.sheaves (get_or (list ++ q ∷ []) n 0)) ≡ 0 =
                ap (λ s. length (bytes_at c.sheaves s)) (get_or_push list q 0 n (omega arith)) ∙ ap length empty in
                omega arith
          ];
        };
        more = omega arith;
        longer = let e = ap length same in omega arith;
        own = λ n byte was.
            let there = (place_of a.sheaves list n full was.page.there).0 in record {
              sheaf =
                  ap (count_at c.sheaves) (get_or_append_left list (q ∷ []) 0 (n / 128) there)
                  ∙ ap (λ (s : Sheet). s.count) (change.others (get_or list (n / 128) 0) (not_q (n / 128) there)) ∙ was.sheaf;
              page =
                  subst (λ pages. IsPageReady c.sheets pages n byte) (sym same)
                  (subst (λ xs. IsPageReady xs (pages_in a.sheaves list) n byte) (sym sheets) was.page);
            };
      },
      same,
    )

-- ---- one page of a sheaf is made ready

pub ready_flat : (sheaves sheets : List Sheet) (list : List ℕ) (n byte : ℕ) → AreFull sheaves list → n / 128 < length list
    → IsPageReady sheets (bytes_at sheaves (get_or list (n / 128) 0)) (n % 128) byte → IsPageReady sheets (pages_in sheaves list) n byte
ready_flat sheaves sheets list n byte full there ready =
    let within = page_there sheaves list n full there ready.there in
    let is = page_found sheaves list n full within in
    record {
      there = within;
      alone = ap (count_at sheets) is ∙ ready.alone;
      stored = λ some. ap (λ x. length (bytes_at sheets x)) is ∙ ready.stored some;
    }

ready_sheaf : (sheaves sheets : List Sheet) (list : List ℕ) (n byte : ℕ) → AreFull sheaves list
    → IsPageReady sheets (pages_in sheaves list) n byte → IsPageReady sheets (bytes_at sheaves (get_or list (n / 128) 0)) (n % 128) byte
ready_sheaf sheaves sheets list n byte full ready =
    let place = place_of sheaves list n full ready.there in
    let is = page_found sheaves list n full ready.there in
    record {
      there = place.1;
      alone = ap (count_at sheets) (sym is) ∙ ready.alone;
      stored = λ some. ap (λ x. length (bytes_at sheets x)) (sym is) ∙ ready.stored some;
    }

part_named : (sheaves : List Sheet) (list : List ℕ) (m x : ℕ) → m < length list
    → occurs x (bytes_at sheaves (get_or list m 0)) ≤ occurs x (pages_in sheaves list)
part_named sheaves [] m x below = absurd (let f : ⊥ = omega arith in f)
part_named sheaves (s ∷ list) zero x below = let sum = occurs-append (bytes_at sheaves s) (pages_in sheaves list) x in omega arith
part_named sheaves (s ∷ list) (suc m) x below =
    let rest = part_named sheaves list m x (omega arith) in
    let sum = occurs-append (bytes_at sheaves s) (pages_in sheaves list) x in omega arith

-- what was done to the sheaf at place m, which is this list's alone
pub record Steps (a c : Stock) (list : List ℕ) (m j : ℕ) : Type 0 where
  pub alone : count_at a.sheaves (get_or list m 0) ≡ 1
  pub change : Changed (get_or list m 0) a.sheaves c.sheaves
  pub count : count_at c.sheaves (get_or list m 0) ≡ 1
  pub prepared : Prepared a.sheets (bytes_at a.sheaves (get_or list m 0)) c.sheets (bytes_at c.sheaves (get_or list m 0))
  pub most : length (bytes_at c.sheaves (get_or list m 0)) ≤ max (length (bytes_at a.sheaves (get_or list m 0))) (j + 1)
  pub others : (s : ℕ) → s ≢ get_or list m 0 → IsSame a c s

step_counts : (a c : Stock) (list : List ℕ) (m j s : ℕ) → Steps a c list m j → count_at c.sheaves s ≡ count_at a.sheaves s
step_counts a c list m j s k = count_kept a.sheaves c.sheaves (get_or list m 0) s k.change (k.count ∙ sym k.alone)

step_place : (a c : Stock) (list : List ℕ) (m j n : ℕ) → AreCounted a.sheaves list → m < length list → Steps a c list m j
    → n < length list → n ≢ m → bytes_at c.sheaves (get_or list n 0) ≡ bytes_at a.sheaves (get_or list n 0)
step_place a c list m j n counted below k there apart =
    (k.others (get_or list n 0) (other_place a.sheaves list m n counted below there apart k.alone)).pages

pub step_full : (a c : Stock) (list : List ℕ) (m j : ℕ) → AreCounted a.sheaves list → AreFull a.sheaves list → m < length list → j < 128
    → Steps a c list m j → AreFull c.sheaves list
step_full a c list m j counted full below small k = record {
  full = λ n more. elim (cases_eq n m) [
    | inl here ↦
        let whole : length (bytes_at a.sheaves (get_or list m 0)) ≡ 128 = full.full m (subst (λ x. x + 1 < length list) here more) in
        let longer = k.prepared.longer in
        let most = k.most in
        rw here (omega arith)
    | inr apart ↦ ap length (step_place a c list m j n counted below k (omega arith) apart) ∙ full.full n more
  ];
  last = λ n there. elim (cases_eq n m) [
    | inl here ↦
        let before : length (bytes_at a.sheaves (get_or list m 0)) ≤ 128 = full.last m below in
        let most = k.most in
        rw here (omega arith)
    | inr apart ↦ let e = ap length (step_place a c list m j n counted below k there apart) in let before = full.last n there in omega arith
  ];
}

step_bytes : (a c : Stock) (list : List ℕ) (m j n i : ℕ) → AreCounted a.sheaves list → m < length list → Steps a c list m j
    → get_or (bytes_on c.sheets (bytes_on c.sheaves list (n / 128)) (n % 128)) i 0
    ≡ get_or (bytes_on a.sheets (bytes_on a.sheaves list (n / 128)) (n % 128)) i 0
step_bytes a c list m j n i counted below k = elim (cases_lt (n / 128) (length list)) [
  | inr past ↦
      ap (λ pages. get_or (bytes_on c.sheets pages (n % 128)) i 0) (bytes_on_past c.sheaves list (n / 128) past)
      ∙ ap (λ xs. get_or xs i 0) (bytes_on_past c.sheets [] (n % 128) (omega arith) ∙ sym (bytes_on_past a.sheets [] (n % 128) (omega arith)))
      ∙ ap (λ pages. get_or (bytes_on a.sheets pages (n % 128)) i 0) (sym (bytes_on_past a.sheaves list (n / 128) past))
  | inl there ↦
      ap (λ pages. get_or (bytes_on c.sheets pages (n % 128)) i 0) (bytes_on_within c.sheaves list (n / 128) there)
      ∙ (elim (cases_eq (n / 128) m) [
        | inl here ↦
            ap (λ x. get_or (bytes_on c.sheets (bytes_at c.sheaves (get_or list x 0)) (n % 128)) i 0) here
            ∙ k.prepared.bytes (n % 128) i
            ∙ ap (λ x. get_or (bytes_on a.sheets (bytes_at a.sheaves (get_or list x 0)) (n % 128)) i 0) (sym here)
        | inr apart ↦
            let same = k.others (get_or list (n / 128) 0) (other_place a.sheaves list m (n / 128) counted below there apart k.alone) in
            ap (λ pages. get_or (bytes_on c.sheets pages (n % 128)) i 0) same.pages
            ∙ ap (λ xs. get_or xs i 0) (framed_byte a.sheets c.sheets (bytes_at a.sheaves (get_or list (n / 128) 0)) (n % 128) same.bytes)
      ])
      ∙ ap (λ pages. get_or (bytes_on a.sheets pages (n % 128)) i 0) (sym (bytes_on_within a.sheaves list (n / 128) there))
]

step_apart : (a c : Stock) (list : List ℕ) (m j : ℕ) → AreStocked a → AreCounted a.sheaves list → AreApart (pages_in a.sheaves list)
    → m < length list → Steps a c list m j → AreApart (pages_in c.sheaves list)
step_apart a c list m j stocked counted apart below k =
    let pages = counted_pages a list stocked apart in
    record {
      each = λ x.
          let sums = (pages_changed a.sheaves c.sheaves list m x below (λ n there other. step_place a c list m j n counted below k there other)).0 in
          let part = part_named a.sheaves list m x below in
          let most = pages.each x in
          let once = apart.each x in
          let after = k.prepared.apart x (occurs x (pages_in a.sheaves list) - occurs x (bytes_at a.sheaves (get_or list m 0))) (omega arith) (omega arith) in
          omega arith;
    }

-- a page of another sheaf stays ready
step_other : (a c : Stock) (list : List ℕ) (m j n byte : ℕ) → AreStocked a → AreCounted a.sheaves list → AreFull a.sheaves list
    → AreFull c.sheaves list → m < length list → Steps a c list m j → n / 128 ≢ m → IsPageReady a.sheets (pages_in a.sheaves list) n byte
    → IsPageReady c.sheets (pages_in c.sheaves list) n byte
step_other a c list m j n byte stocked counted full after below k apart ready =
    let place = place_of a.sheaves list n full ready.there in
    let not_s : get_or list m 0 ≢ get_or list (n / 128) 0 = λ e. other_place a.sheaves list m (n / 128) counted below place.0 apart k.alone (sym e) in
    let x = get_or (bytes_at a.sheaves (get_or list (n / 128) 0)) (n % 128) 0 in
    let is = page_found a.sheaves list n full ready.there in
    let gone : occurs x (bytes_at a.sheaves (get_or list m 0)) ≡ 0 =
    subst (λ y. occurs y (bytes_at a.sheaves (get_or list m 0)) ≡ 0) is (elsewhere_named a list n (get_or list m 0) stocked full ready.there ready.alone not_s) in
    let one : count_at a.sheets x ≡ 1 = ap (count_at a.sheets) (sym is) ∙ ready.alone in
    let none = k.prepared.apart x 1 (omega arith) (omega arith) in
    let count = k.prepared.moved.counts x in
    let kept : bytes_at c.sheets x ≡ bytes_at a.sheets x = k.prepared.moved.others x (omega arith) in
    let same = step_place a c list m j (n / 128) counted below k place.0 apart in
    let there : n % 128 < length (bytes_at c.sheaves (get_or list (n / 128) 0)) = let l = ap length same in let w = place.1 in omega arith in
    ready_flat c.sheaves c.sheets list n byte after place.0
    (subst (λ pages. IsPageReady c.sheets pages (n % 128) byte) (sym same) (record {
      there = place.1;
      alone = omega arith;
      stored = λ some. ap length kept ∙ ap (λ y. length (bytes_at a.sheets y)) (sym is) ∙ ready.stored some;
    }))

step_own : (a c : Stock) (list : List ℕ) (m j n byte : ℕ) → AreStocked a → AreCounted a.sheaves list → AreFull a.sheaves list
    → AreFull c.sheaves list → m < length list → Steps a c list m j → IsOwnPage a list n byte → IsOwnPage c list n byte
step_own a c list m j n byte stocked counted full after below k was = record {
  sheaf = step_counts a c list m j (get_or list (n / 128) 0) k ∙ was.sheaf;
  page = elim (cases_eq (n / 128) m) [
    | inl here ↦
        let place = place_of a.sheaves list n full was.page.there in
        ready_flat c.sheaves c.sheets list n byte after place.0
        (subst (λ x. IsPageReady c.sheets (bytes_at c.sheaves (get_or list x 0)) (n % 128) byte) (sym here)
        (k.prepared.ready (n % 128) byte
        (subst (λ x. IsPageReady a.sheets (bytes_at a.sheaves (get_or list x 0)) (n % 128) byte) here (ready_sheaf a.sheaves a.sheets list n byte full was.page))))
    | inr apart ↦ step_other a c list m j n byte stocked counted full after below k apart was.page
  ];
}

pub step_prepared : (a c : Stock) (list : List ℕ) (m j : ℕ) → AreStocked a → AreCounted a.sheaves list → AreApart (pages_in a.sheaves list)
    → AreFull a.sheaves list → m < length list → j < 128 → Steps a c list m j → ArePagesPrepared a list c list
step_prepared a c list m j stocked counted apart full below small k =
    let after = step_full a c list m j counted full below small k in
    record {
      exchanged = record {
        counts = λ s. ap (λ n. n + occurs s list) (step_counts a c list m j s k);
        others = λ s held.
            k.others s (λ e.
            let more = subst (λ x. occurs x list < count_at a.sheaves x) e held in
            let here = occurs-at list m below in let one = k.alone in omega arith);
      };
      bytes = λ n i.
          ap (λ xs. get_or xs i 0) (flat_bytes c.sheaves c.sheets list n after)
          ∙ step_bytes a c list m j n i counted below k
          ∙ ap (λ xs. get_or xs i 0) (sym (flat_bytes a.sheaves a.sheets list n full));
      apart = step_apart a c list m j stocked counted apart below k;
      full = after;
      more = omega arith;
      longer =
          let sums = (pages_changed a.sheaves c.sheaves list m 0 below (λ n there other. step_place a c list m j n counted below k there other)).1 in
          let longer = k.prepared.longer in omega arith;
      own = λ n byte was. step_own a c list m j n byte stocked counted full after below k was;
    }

-- ---- in terms of the code

pub on_ok : {T E P Q : Type 0} (r : Result T E) → (P → Q) → OnOk r P → OnOk r Q
on_ok (Ok x) f p = f p
on_ok (Err e) f p = tt

-- the next page begins a sheaf where its sheaf isn't there
pub next_sheaf : (sheaves : List Sheet) (list : List ℕ) (k : ℕ) → AreFull sheaves list → k ≤ length (pages_in sheaves list)
    → length list ≤ k / 128 → length list ≡ k / 128
next_sheaf sheaves list k full near past = let most = flat_most sheaves list full in omega arith

pub there_after : (list after : List ℕ) (k : ℕ) → length after ≡ max (length list) (k / 128 + 1) → k / 128 < length after
there_after list after k long = omega arith

-- i is the sheaf that was read
pub steps_made : (a c : Stock) (list : List ℕ) (m j i : ℕ) → i ≡ get_or list m 0 → count_at a.sheaves (get_or list m 0) ≡ 1
    → Changed i a.sheaves c.sheaves → count_at c.sheaves i ≡ 1 → Prepared a.sheets (bytes_at a.sheaves i) c.sheets (bytes_at c.sheaves i)
    → length (bytes_at c.sheaves i) ≤ max (length (bytes_at a.sheaves i)) (j + 1) → ((s : ℕ) → s ≢ i → IsSame a c s) → Steps a c list m j
steps_made a c list m j i e alone change count prepared most others = record {
  alone = alone;
  change = subst (λ x. Changed x a.sheaves c.sheaves) e change;
  count = subst (λ x. count_at c.sheaves x ≡ 1) e count;
  prepared = subst (λ x. Prepared a.sheets (bytes_at a.sheaves x) c.sheets (bytes_at c.sheaves x)) e prepared;
  most = subst (λ x. length (bytes_at c.sheaves x) ≤ max (length (bytes_at a.sheaves x)) (j + 1)) e most;
  others = λ s apart. others s (λ same. apart (same ∙ e));
}

pub page_longer : (sheaves : List Sheet) (list : List ℕ) (k before : ℕ)
    → length (bytes_at sheaves (get_or list (k / 128) 0)) ≡ max before (k % 128 + 1) → AreFull sheaves list → k / 128 < length list
    → k + 1 ≤ length (pages_in sheaves list)
page_longer sheaves list k before long full there = let below = page_there sheaves list k full there (omega arith) in omega arith

pub ready_own : (a : Stock) (list : List ℕ) (k byte i : ℕ) → i ≡ get_or list (k / 128) 0 → AreFull a.sheaves list → k / 128 < length list
    → count_at a.sheaves i ≡ 1 → IsPageReady a.sheets (bytes_at a.sheaves i) (k % 128) byte → IsOwnPage a list k byte
ready_own a list k byte i e full there count ready = record {
  sheaf = subst (λ x. count_at a.sheaves x ≡ 1) e count;
  page = ready_flat a.sheaves a.sheets list k byte full there (subst (λ x. IsPageReady a.sheets (bytes_at a.sheaves x) (k % 128) byte) e ready);
}

-- a sheaf that one place more names
pub held_same : (a b : Stock) (i s : ℕ) → Changed i a.sheaves b.sheaves → bytes_at b.sheaves i ≡ bytes_at a.sheaves i → b.sheets ≡ a.sheets → IsSame a b s
held_same a b i s change pages sheets = record {
  pages = elim (cases_eq s i) [
    | inl here ↦ rw here pages
    | inr apart ↦ ap (λ (t : Sheet). t.bytes) (change.others s apart)
  ];
  bytes = λ x named. ap (λ xs. bytes_at xs x) sheets;
}

pub counted_held : (a b : Stock) (list : List ℕ) → Moved a.sheaves [] b.sheaves list → AreCounted b.sheaves list
counted_held a b list moved = record { each = λ s. let x = moved.counts s in omega arith }

pub own_more : (at k : ℕ) (bytes : List ℕ) (j : ℕ) (stored : Bool) (a b : Stock) (p q : List ℕ) → ArePagesPrepared a p b q
    → ((byte : ℕ) → (byte ≢ 0 → stored ≡ true) → IsOwnPage b q k byte)
    → (j < length bytes → (at + j) / 4096 ≡ k → get_or bytes j 0 ≢ 0 → stored ≡ true)
    → ((at + j) / 4096 < k → IsOwnPage a p ((at + j) / 4096) (get_or bytes j 0))
    → (at + j) / 4096 < k + 1 → IsOwnPage b q ((at + j) / 4096) (get_or bytes j 0)
own_more at k bytes j stored a b p q prepared here needed before early = elim (cases_lt ((at + j) / 4096) k) [
  | inl below ↦ prepared.own ((at + j) / 4096) (get_or bytes j 0) (before below)
  | inr above ↦
      let same : (at + j) / 4096 ≡ k = omega arith in
      subst (λ m. IsOwnPage b q m (get_or bytes j 0)) (sym same)
      (here (get_or bytes j 0) (λ some. elim (cases_lt j (length bytes)) [
        | inl below ↦ needed below same some
        | inr past ↦ absurd (some (get_or_past bytes j 0 past))
      ]))
]

-- ---- sheaves that stay the same

pub framed_list : (a b : Stock) (list : List ℕ) → ((s : ℕ) → 0 < occurs s list → IsSame a b s)
    → (pages_in b.sheaves list ≡ pages_in a.sheaves list)
    × ((x : ℕ) → 0 < occurs x (pages_in a.sheaves list) → bytes_at b.sheets x ≡ bytes_at a.sheets x)
framed_list a b [] same = (refl, λ x named. absurd (let f : ⊥ = omega arith in f))
framed_list a b (t ∷ list) same =
    let first = same t (grind arith) in
    let rest = framed_list a b list (λ s named. same s (omega arith)) in (
      ap (λ pages. pages ++ pages_in b.sheaves list) first.pages ∙ ap (λ pages. bytes_at a.sheaves t ++ pages) rest.0,
      λ x named.
          let sum = occurs-append (bytes_at a.sheaves t) (pages_in a.sheaves list) x in
          elim (cases_lt 0 (occurs x (bytes_at a.sheaves t))) [
            | inl here ↦ first.bytes x here
            | inr none ↦ rest.1 x (omega arith)
          ],
    )

pub framed_full : (a b : Stock) (list : List ℕ) → ((s : ℕ) → 0 < occurs s list → IsSame a b s) → AreFull a.sheaves list → AreFull b.sheaves list
framed_full a b list same full =
    full_same a.sheaves b.sheaves list list refl (λ m below. (same (get_or list m 0) (occurs-at list m below)).pages) full

-- pages of a list's own sheaves were changed: sheaves that others name too are the same
pub changed_exchanged : (b : Stock) (after : List Sheet) (list : List ℕ) (at n : ℕ) (value : ℕ → ℕ) → AreStocked b → AreFull b.sheaves list
    → ((j : ℕ) → j < n → IsOwnPage b list ((at + j) / 4096) (value j))
    → ((x : ℕ) → ((j : ℕ) → j < n → get_or (pages_in b.sheaves list) ((at + j) / 4096) 0 ≢ x) → sheet_at after x ≡ sheet_at b.sheets x)
    → Exchanged b list (record { sheaves = b.sheaves; sheets = after }) list
changed_exchanged b after list at n value stocked full own rest = record {
  counts = λ s. refl;
  others = λ s held. record {
    pages = refl;
    bytes = λ x named.
        ap (λ (t : Sheet). t.bytes)
        (rest x (λ j below e.
        let mine = own j below in
        let k = (at + j) / 4096 in
        let place = place_of b.sheaves list k full mine.page.there in
        let apart : s ≢ get_or list (k / 128) 0 = λ same.
        let here = occurs-at list (k / 128) place.0 in
        let one = mine.sheaf in
        let more = subst (λ t. occurs t list < count_at b.sheaves t) same held in
        omega arith in
        let none = elsewhere_named b list k s stocked full mine.page.there mine.page.alone apart in
        let gone : occurs x (bytes_at b.sheaves s) ≡ 0 = subst (λ y. occurs y (bytes_at b.sheaves s) ≡ 0) e none in
        omega arith));
  };
}

-- ---- the first sheaves of a list

pub pages_in-append : (sheaves : List Sheet) (p q : List ℕ) → pages_in sheaves (p ++ q) ≡ pages_in sheaves p ++ pages_in sheaves q
pages_in-append sheaves [] q = refl
pages_in-append sheaves (s ∷ p) q =
    ap (λ pages. bytes_at sheaves s ++ pages) (pages_in-append sheaves p q)
    ∙ sym (append_assoc (bytes_at sheaves s) (pages_in sheaves p) (pages_in sheaves q))

pub pages_in-take : (sheaves : List Sheet) (n : ℕ) (q : List ℕ)
    → pages_in sheaves q ≡ pages_in sheaves (take n q) ++ pages_in sheaves (drop n q)
pages_in-take sheaves n q = ap (pages_in sheaves) (sym (take-append-drop n q)) ∙ pages_in-append sheaves (take n q) (drop n q)

pub full_take : (sheaves : List Sheet) (n : ℕ) (q : List ℕ) → AreFull sheaves q → AreFull sheaves (take n q)
full_take sheaves n q full =
    let l = length-take n q in
    let at : (m : ℕ) → m < length (take n q) → length (bytes_at sheaves (get_or (take n q) m 0)) ≡ length (bytes_at sheaves (get_or q m 0)) =
    λ m below. ap (λ s. length (bytes_at sheaves s)) (get_or-take n q m 0 (omega arith)) in
    record {
      full = λ m below. at m (omega arith) ∙ full.full m (omega arith);
      last = λ m below. let e = at m below in let most = full.last m (omega arith) in omega arith;
    }

pub long_take : (sheaves : List Sheet) (n wanted : ℕ) (q : List ℕ) → AreFull sheaves q → n ≤ length q → n ≡ (wanted + 127) / 128
    → wanted ≤ length (pages_in sheaves q) → wanted ≤ length (pages_in sheaves (take n q))
long_take sheaves n wanted q full few e long = elim (cases_lt n (length q)) [
  | inr past ↦ subst (λ p. wanted ≤ length (pages_in sheaves p)) (sym (take_all n q past)) long
  | inl more ↦ elim (cases_lt 0 n) [
    | inr none ↦ omega arith
    | inl some ↦
        let l = length-take n q in
        let all = flat_length sheaves (take n q) (n - 1) (full_take sheaves n q full) (omega arith) in
        let last : length (bytes_at sheaves (get_or (take n q) (n - 1) 0)) ≡ 128 =
        ap (λ s. length (bytes_at sheaves s)) (get_or-take n q (n - 1) 0 (omega arith)) ∙ full.full (n - 1) (omega arith) in
        omega arith
  ]
]

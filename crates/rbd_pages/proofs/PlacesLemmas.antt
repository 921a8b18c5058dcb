-- Which places are free, when one is changed, taken, left or added.
use Rattle.std.proofs.Common.{◌≡◌, ◌≢◌, ℕ, ◌+◌, ◌<◌, ◌≤◌, ◌⊎◌, inl, inr, cond, eqb, true, false, List, [], ◌∷◌, ◌++◌, length, set, min, refl, sym, ap, ◌∙◌, subst, arith}
use Rattle.std.proofs.lemmas.Bool.{cases_lt}
use Rattle.std.proofs.lemmas.Bool.Decides.{eqb_tells}
use Rattle.std.proofs.lemmas.List.{get_or_append_left, get_or-set_same, get_or-set_other, get_or_push, length_push, length-set}
use Rattle.rbd_pages.specs.Paging.{occurs}
use Rattle.rbd_pages.specs.Places.{KnowsFree}
use Rattle.rbd_pages.specs.Sheets.{Sheet, count_at, free_sheet, in_use}
use Rattle.rbd_pages.proofs.PagingLemmas.{occurs-push}
use Rattle.rbd_pages.proofs.SheetLemmas.{in_use-push, in_use-set}

-- ---- counts

count_here : (items : List Sheet) (i : ℕ) (s : Sheet) → i < length items → count_at (set items i s) i ≡ s.count
count_here items i s below = ap (λ (t : Sheet). t.count) (get_or-set_same items i s free_sheet below)

count_there : (items : List Sheet) (i j : ℕ) (s : Sheet) → j ≢ i → count_at (set items i s) j ≡ count_at items j
count_there items i j s apart = ap (λ (t : Sheet). t.count) (get_or-set_other items i j s free_sheet apart)

one_more : (free : List ℕ) (i : ℕ) → occurs i (free ++ i ∷ []) ≡ occurs i free + 1
one_more free i = go (eqb_tells i i)
  where
    go : ((eqb i i ≡ true) × (i ≡ i)) ⊎ ((eqb i i ≡ false) × (i ≢ i)) → occurs i (free ++ i ∷ []) ≡ occurs i free + 1
    go (inl (is, _)) = occurs-push free i i ∙ ap (λ b. occurs i free + cond b 1 0) is
    go (inr (_, apart)) = absurd (apart refl)

no_more : (free : List ℕ) (i place : ℕ) → place ≢ i → occurs place (free ++ i ∷ []) ≡ occurs place free
no_more free i place apart = go (eqb_tells i place)
  where
    go : ((eqb i place ≡ true) × (i ≡ place)) ⊎ ((eqb i place ≡ false) × (i ≢ place)) → occurs place (free ++ i ∷ []) ≡ occurs place free
    go (inl (_, same)) = absurd (apart (sym same))
    go (inr (is, _)) = occurs-push free i place ∙ ap (λ b. occurs place free + cond b 1 0) is ∙ omega arith

by_place : (place i : ℕ) → (place ≡ i) ⊎ (place ≢ i)
by_place place i = go (eqb_tells place i)
  where
    go : ((eqb place i ≡ true) × (place ≡ i)) ⊎ ((eqb place i ≡ false) × (place ≢ i)) → (place ≡ i) ⊎ (place ≢ i)
    go (inl (_, same)) = inl same
    go (inr (_, apart)) = inr apart

-- ---- what is known

pub knows_nothing : (room : ℕ) → KnowsFree [] [] room
knows_nothing room = record {
  each = λ place inside. absurd (omega arith);
  there = λ place named. absurd (omega arith);
  all = refl;
  room = omega arith;
  few = omega arith;
}

pub knows_room : (items : List Sheet) (free : List ℕ) (room more : ℕ) → KnowsFree items free room → room ≤ more → KnowsFree items free more
knows_room items free room more k le = record {
  each = k.each;
  there = k.there;
  all = k.all;
  room = omega (arith, k.room);
  few = k.few;
}

-- a page that is named stays so
pub knows_changed : (items : List Sheet) (free : List ℕ) (room i : ℕ) (s : Sheet) → KnowsFree items free room
    → i < length items → 0 < count_at items i → 0 < s.count → KnowsFree (set items i s) free room
knows_changed items free room i s k below named some = record {
  each = λ place inside. go place (omega (arith, long)) (by_place place i);
  there = λ place listed. omega (arith, long, k.there place listed);
  all = omega (arith, long, k.all, in_use-set items i s below);
  room = omega (arith, long, k.room);
  few = omega (arith, long, k.few);
}
  where
    long : length (set items i s) ≡ length items
    long = length-set items i s

    go : (place : ℕ) → place < length items → (place ≡ i) ⊎ (place ≢ i) → occurs place free + min (count_at (set items i s) place) 1 ≡ 1
    go place inside (inl same) =
        subst (λ p. occurs p free + min (count_at (set items i s) p) 1 ≡ 1) (sym same)
        (omega (arith, k.each i below, count_here items i s below))
    go place inside (inr apart) = ap (λ n. occurs place free + min n 1) (count_there items i place s apart) ∙ k.each place inside

-- a free place, and what is known where it is taken
pub place_taken : (items : List Sheet) (all free : List ℕ) (room i : ℕ) → KnowsFree items all room → all ≡ free ++ i ∷ []
    → (i < length items) × (count_at items i ≡ 0)
place_taken items all free room i k is = (below, omega (arith, k.each i below, listed))
  where
    listed : occurs i all ≡ occurs i free + 1
    listed = ap (occurs i) is ∙ one_more free i

    below : i < length items
    below = k.there i (omega (arith, listed))

pub knows_taken : (items : List Sheet) (all free : List ℕ) (room i : ℕ) (s : Sheet) → KnowsFree items all room → all ≡ free ++ i ∷ []
    → s.count ≡ 1 → KnowsFree (set items i s) free room
knows_taken items all free room i s k is one = record {
  each = λ place inside. go place (omega (arith, long)) (by_place place i);
  there = λ place named. omega (arith, long, k.there place (more place named));
  all = omega (arith, long, k.all, in_use-set items i s below, fact.1, ap length is, length_push free i);
  room = omega (arith, long, k.room);
  few = omega (arith, long, k.few);
}
  where
    long : length (set items i s) ≡ length items
    long = length-set items i s

    fact : (i < length items) × (count_at items i ≡ 0)
    fact = place_taken items all free room i k is

    below : i < length items
    below = fact.0

    listed : (place : ℕ) → place ≢ i → occurs place all ≡ occurs place free
    listed place apart = ap (occurs place) is ∙ no_more free i place apart

    more : (place : ℕ) → 0 < occurs place free → 0 < occurs place all
    more place named = by (by_place place i)
      where
        by : (place ≡ i) ⊎ (place ≢ i) → 0 < occurs place all
        by (inl same) = subst (λ p. 0 < occurs p all) (sym same) (omega (arith, ap (occurs i) is, one_more free i))
        by (inr apart) = omega (arith, listed place apart)

    go : (place : ℕ) → place < length items → (place ≡ i) ⊎ (place ≢ i) → occurs place free + min (count_at (set items i s) place) 1 ≡ 1
    go place inside (inl same) =
        subst (λ p. occurs p free + min (count_at (set items i s) p) 1 ≡ 1) (sym same)
        (omega (arith, k.each i below, count_here items i s below, ap (occurs i) is, one_more free i))
    go place inside (inr apart) = omega (arith, k.each place inside, count_there items i place s apart, listed place apart)

-- a page that no place names any more leaves its place free
pub knows_left : (items : List Sheet) (free all : List ℕ) (room i : ℕ) (s : Sheet) → KnowsFree items free room
    → i < length items → 0 < count_at items i → s.count ≡ 0 → all ≡ free ++ i ∷ [] → KnowsFree (set items i s) all room
knows_left items free all room i s k below named none is = record {
  each = λ place inside. go place (omega (arith, long)) (by_place place i);
  there = λ place listed. subst (λ n. place < n) (sym long) (there place listed (by_place place i));
  all = omega (arith, long, k.all, in_use-set items i s below, ap length is, length_push free i);
  room = omega (arith, long, k.room);
  few = omega (arith, long, k.few);
}
  where
    long : length (set items i s) ≡ length items
    long = length-set items i s

    other : (place : ℕ) → place ≢ i → occurs place all ≡ occurs place free
    other place apart = ap (occurs place) is ∙ no_more free i place apart

    there : (place : ℕ) → 0 < occurs place all → (place ≡ i) ⊎ (place ≢ i) → place < length items
    there place listed (inl same) = subst (λ p. p < length items) (sym same) below
    there place listed (inr apart) = k.there place (omega (arith, other place apart))

    go : (place : ℕ) → place < length items → (place ≡ i) ⊎ (place ≢ i) → occurs place all + min (count_at (set items i s) place) 1 ≡ 1
    go place inside (inl same) =
        subst (λ p. occurs p all + min (count_at (set items i s) p) 1 ≡ 1) (sym same)
        (omega (arith, k.each i below, count_here items i s below, ap (occurs i) is, one_more free i))
    go place inside (inr apart) = omega (arith, k.each place inside, count_there items i place s apart, other place apart)

-- all are named, where none is on the list
pub all_named : (items : List Sheet) (free : List ℕ) (room : ℕ) → KnowsFree items free room → length free ≡ 0 → in_use items ≡ length items
all_named items free room k none = omega (arith, k.all)

-- the list has room for one more, where a page is named
pub room_for_one : (items : List Sheet) (free : List ℕ) (room i : ℕ) → KnowsFree items free room → i < length items → 0 < count_at items i
    → length free < room
room_for_one items free room i k below named =
    let change = in_use-set items i free_sheet below in
    omega (arith, k.all, k.room)

-- one more place
pub knows_more : (items new : List Sheet) (free : List ℕ) (room more : ℕ) (s : Sheet) → KnowsFree items free room → new ≡ items ++ s ∷ []
    → s.count ≡ 1 → length items + 1 < 4294967296 → length items < more → KnowsFree new free more
knows_more items new free room more s k is one few fits = record {
  each = λ place inside. subst (λ sheets. occurs place free + min (count_at sheets place) 1 ≡ 1) (sym is) (go place (cases_lt place (length items)) (omega (arith, long)));
  there = λ place listed. omega (arith, long, k.there place listed);
  all = omega (arith, long, k.all, ap in_use is, in_use-push items s);
  room = omega (arith, long);
  few = omega (arith, long);
}
  where
    long : length new ≡ length items + 1
    long = ap length is ∙ length_push items s

    unlisted : (place : ℕ) → length items ≤ place → occurs place free ≡ 0
    unlisted place past = by (cases_lt 0 (occurs place free))
      where
        by : (0 < occurs place free) ⊎ (occurs place free ≤ 0) → occurs place free ≡ 0
        by (inl some) = absurd (omega (arith, k.there place some))
        by (inr none) = omega arith

    go : (place : ℕ) → (place < length items) ⊎ (length items ≤ place) → place < length items + 1 → occurs place free + min (count_at (items ++ s ∷ []) place) 1 ≡ 1
    go place (inl below) inside =
        ap (λ (t : Sheet). occurs place free + min t.count 1) (get_or_append_left items (s ∷ []) free_sheet place below) ∙ k.each place below
    go place (inr past) inside =
        let last : place ≡ length items = omega arith in
        let here : count_at (items ++ s ∷ []) place ≡ 1 = ap (λ (t : Sheet). t.count) (get_or_push items s free_sheet place (sym last)) ∙ one in
        let none : occurs place free ≡ 0 = unlisted place past in
        omega arith

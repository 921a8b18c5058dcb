-- Numbers that ascend, and the children of a snapshot as such.
use Rattle.std.proofs.Common.{◌≡◌, ℕ, ◌<◌, ◌⊎◌, Bool, true, false, cond, eqb, ltb, ◌&&◌, ◌||◌, List, [], ◌∷◌, map, refl, sym, ◌∙◌, ap, arith, inl, inr}
use Rattle.std.specs.declared.cmp.Ordering.TheVariants.{Less, Equal, Greater}
use Rattle.std.specs.List.{list_any, filter, AllByRecursion}
use Rattle.std.specs.BTreeMap.{is_at}
use Rattle.std.specs.Ordering.{nat_cmp}
use Rattle.std.specs.Cmp.{Equal-is}
use Rattle.std.specs.List.Sorted.{IsStrictlySortedBy}
use Rattle.std.proofs.lemmas.Bool.{true≢false, eqb-true, eqb-false, eq-eqb, ltb-true, ltb-false, lt-ltb, ne_eqb, cases_order}
use Rattle.std.proofs.lemmas.Cmp.{ranked}
use Rattle.std.proofs.lemmas.Map.Keys.{sorted_from_strictly_increasing, IsStrictlyIncreasing-from_sorted}
use Rattle.std.specs.FinSet as finset
use Rattle.rbd_kinds.proofs.Plain.{or_swapped}
use Rattle.rbd_registry.specs.Children.{ChildEntry, entry_cmp, AreChildren, is_child_of, placed, ascending, children_in}
use Rattle.rbd_registry.proofs.Entries.{at, entry_exact, tied_child}

-- ---- ascending numbers

abbrev AllAbove : ℕ → List ℕ → Type 0
AllAbove b [] = Unit {0}
AllAbove b (x ∷ xs) = (b < x) × AllAbove b xs

abbrev Ascend : List ℕ → Type 0
Ascend [] = Unit {0}
Ascend (x ∷ xs) = AllAbove x xs × Ascend xs

abbrev has : (c : ℕ) → List ℕ → Bool
has c xs = list_any (λ id. eqb id c) xs

all_above : (a b : ℕ) (xs : List ℕ) → a < b → AllAbove b xs → AllAbove a xs
all_above a b [] less above = tt
all_above a b (x ∷ xs) less above = let first = above.0 in (omega arith, all_above a b xs less above.1)

above_placed : (b x : ℕ) (ys : List ℕ) → b < x → AllAbove b ys → AllAbove b (placed x ys)
above_placed b x [] less above = (less, tt)
above_placed b x (y ∷ ys) less above = go (ltb x y) (eqb x y) (above_placed b x ys less above.1)
  where
    go : (l e : Bool) → AllAbove b (placed x ys) → AllAbove b (cond l (x ∷ y ∷ ys) (cond e (y ∷ ys) (y ∷ placed x ys)))
    go true e rest = (less, above)
    go false true rest = above
    go false false rest = (above.0, rest)

ascend_placed : (x : ℕ) (ys : List ℕ) → Ascend ys → Ascend (placed x ys)
ascend_placed x [] ordered = (tt, tt)
ascend_placed x (y ∷ ys) ordered = go (ltb x y) refl (eqb x y) refl (ascend_placed x ys ordered.1)
  where
    go : (l : Bool) → ltb x y ≡ l → (e : Bool) → eqb x y ≡ e → Ascend (placed x ys) → Ascend (cond l (x ∷ y ∷ ys) (cond e (y ∷ ys) (y ∷ placed x ys)))
    go true l e q rest = let less = ltb-true x y l in ((less, all_above x y ys less ordered.0), ordered)
    go false l true q rest = ordered
    go false l false q rest = let least = ltb-false x y l in let apart = eqb-false x y q in (above_placed y x ys (omega arith) ordered.0, rest)

ascend : (xs : List ℕ) → Ascend (ascending xs)
ascend [] = tt
ascend (x ∷ xs) = ascend_placed x (ascending xs) (ascend xs)

twice : (a b : Bool) → (a || b) ≡ (a || (a || b))
twice true b = refl
twice false b = refl

has_placed : (c x : ℕ) (ys : List ℕ) → has c (placed x ys) ≡ (eqb x c || has c ys)
has_placed c x [] = refl
has_placed c x (y ∷ ys) = go (ltb x y) (eqb x y) refl (has_placed c x ys)
  where
    go : (l e : Bool) → eqb x y ≡ e → has c (placed x ys) ≡ (eqb x c || has c ys)
        → has c (cond l (x ∷ y ∷ ys) (cond e (y ∷ ys) (y ∷ placed x ys))) ≡ (eqb x c || (eqb y c || has c ys))
    go true e q rest = refl
    go false true q rest = twice (eqb y c) (has c ys) ∙ ap (λ n. eqb n c || (eqb y c || has c ys)) (sym (eqb-true x y q))
    go false false q rest = ap (λ b. eqb y c || b) rest ∙ or_swapped (eqb y c) (eqb x c) (has c ys)

has_ascending : (c : ℕ) (xs : List ℕ) → has c (ascending xs) ≡ has c xs
has_ascending c [] = refl
has_ascending c (x ∷ xs) = has_placed c x (ascending xs) ∙ ap (λ b. eqb x c || b) (has_ascending c xs)

none_above : (c b : ℕ) (xs : List ℕ) → AllAbove b xs → (c < b) ⊎ (c ≡ b) → has c xs ≡ false
none_above c b [] above low = refl
none_above c b (x ∷ xs) above low =
    let first = above.0 in
    ap (λ v. v || has c xs) (ne_eqb x c (λ same. elim low [ inl less ↦ omega arith | inr is ↦ omega arith ])) ∙ none_above c b xs above.1 low

-- lists that ascend and have the same numbers are one
same_numbers : (xs ys : List ℕ) → Ascend xs → Ascend ys → ((c : ℕ) → has c xs ≡ has c ys) → xs ≡ ys
same_numbers [] [] p q same = refl
same_numbers [] (y ∷ ys) p q same = absurd (true≢false (sym (same y ∙ ap (λ b. b || has y ys) (eq-eqb y y refl))))
same_numbers (x ∷ xs) [] p q same = absurd (true≢false (sym (ap (λ b. b || has x xs) (eq-eqb x x refl)) ∙ same x))
same_numbers (x ∷ xs) (y ∷ ys) p q same = elim (cases_order x y) [
  | inl is ↦ (λ i. is i ∷ same_numbers xs ys p.1 q.1 (λ c. rest c is (eqb x c) refl) i)
  | inr apart ↦ elim apart [
    | inl less ↦ absurd (true≢false (sym (ap (λ b. b || has x xs) (eq-eqb x x refl)) ∙ same x
        ∙ ap (λ b. b || has x ys) (ne_eqb y x (λ e. omega arith)) ∙ none_above x y ys q.0 (inl less)))
    | inr more ↦ absurd (true≢false (sym (ap (λ b. b || has y ys) (eq-eqb y y refl)) ∙ sym (same y)
        ∙ ap (λ b. b || has y xs) (ne_eqb x y (λ e. omega arith)) ∙ none_above y x xs p.0 (inl more)))
  ]
]
  where
    rest : (c : ℕ) → x ≡ y → (b : Bool) → eqb x c ≡ b → has c xs ≡ has c ys
    rest c is true e =
        let at : x ≡ c = eqb-true x c e in
        none_above c x xs p.0 (inr (sym at)) ∙ sym (none_above c y ys q.0 (inr (sym at ∙ is)))
    rest c is false e =
        ap (λ b. b || has c xs) (sym e) ∙ same c ∙ ap (λ b. b || has c ys) (ap (λ n. eqb n c) (sym is) ∙ e)

-- ---- children

ascend_sorted : (xs : List ℕ) → IsStrictlySortedBy nat_cmp xs → Ascend xs
unfolding IsStrictlySortedBy
ascend_sorted [] sorted = tt
ascend_sorted (x ∷ xs) sorted = (above xs sorted.0, ascend_sorted xs sorted.1)
  where
    above : (ys : List ℕ) → AllByRecursion (λ y. nat_cmp x y ≡ Less) ys → AllAbove x ys
    above [] all = tt
    above (y ∷ ys) all = (ranked x y Less (sym all.0), above ys all.1)

-- an entry has a child's place exactly where it is of the snapshot and has the child's id
of_child : (p s c : ℕ) (x : ChildEntry) (b : Bool) → is_child_of p s x ≡ b → is_at (entry_cmp (at p s c)) x ≡ cond b (eqb x.child c) false
of_child p s c x true e = tied_child p s x c e
of_child p s c x false e = go (is_at (entry_cmp (at p s c)) x) refl
  where
    go : (b : Bool) → is_at (entry_cmp (at p s c)) x ≡ b → b ≡ false
    go false t = refl
    go true t =
        let is : at p s c ≡ x = entry_exact (at p s c) x ((Equal-is (entry_cmp (at p s c) x)).0 t) in
        absurd (true≢false (sym (λ i. eq-eqb p p refl i && eq-eqb s s refl i) ∙ ap (is_child_of p s) is ∙ e))

has_children : (p s c : ℕ) (xs : List ChildEntry) → has c (map (λ e. e.child) (filter (is_child_of p s) xs)) ≡ list_any (is_at (entry_cmp (at p s c))) xs
has_children p s c [] = refl
has_children p s c (x ∷ xs) = go (is_child_of p s x) refl (has_children p s c xs)
  where
    go : (b : Bool) → is_child_of p s x ≡ b → has c (map (λ e. e.child) (filter (is_child_of p s) xs)) ≡ list_any (is_at (entry_cmp (at p s c))) xs
        → has c (map (λ e. e.child) (cond b (x ∷ filter (is_child_of p s) xs) (filter (is_child_of p s) xs))) ≡ (is_at (entry_cmp (at p s c)) x || list_any (is_at (entry_cmp (at p s c))) xs)
    go true e rest = (λ i. sym (of_child p s c x true e) i || rest i)
    go false e rest = rest ∙ ap (λ b. b || list_any (is_at (entry_cmp (at p s c))) xs) (sym (of_child p s c x false e))

-- whatever list has the children, each once and ascending, is this one
pub children_are : (entries : finset.FinSet entry_cmp) (p s : ℕ) (ids : List ℕ) → AreChildren entries p s ids → ids ≡ children_in entries p s
children_are entries p s ids are =
    same_numbers ids (children_in entries p s) (ascend_sorted ids (sorted_from_strictly_increasing ids are.ascending)) (ascend (map (λ e. e.child) (filter (is_child_of p s) (finset.items entries)))) (λ c.
    are.each c
    ∙ finset.contains-items entries (at p s c)
    ∙ sym (has_children p s c (finset.items entries))
    ∙ sym (has_ascending c (map (λ e. e.child) (filter (is_child_of p s) (finset.items entries)))))

less_cmp : (a b : ℕ) → a < b → nat_cmp a b ≡ Less
less_cmp a b less = ap (λ t. cond t Less (cond (eqb a b) Equal Greater)) (lt-ltb a b less)

sorted_ascend : (xs : List ℕ) → Ascend xs → IsStrictlySortedBy nat_cmp xs
unfolding IsStrictlySortedBy
sorted_ascend [] ordered = tt
sorted_ascend (x ∷ xs) ordered = (above xs ordered.0, sorted_ascend xs ordered.1)
  where
    above : (ys : List ℕ) → AllAbove x ys → AllByRecursion (λ y. nat_cmp x y ≡ Less) ys
    above [] all = tt
    above (y ∷ ys) all = (less_cmp x y all.0, above ys all.1)

pub are_children : (entries : finset.FinSet entry_cmp) (p s : ℕ) → AreChildren entries p s (children_in entries p s)
are_children entries p s = record {
  each = λ c.
      has_ascending c (map (λ e. e.child) (filter (is_child_of p s) (finset.items entries)))
      ∙ has_children p s c (finset.items entries)
      ∙ sym (finset.contains-items entries (at p s c));
  ascending = IsStrictlyIncreasing-from_sorted (children_in entries p s) (sorted_ascend (children_in entries p s) (ascend (map (λ e. e.child) (filter (is_child_of p s) (finset.items entries)))));
}

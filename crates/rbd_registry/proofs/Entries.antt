-- Entries in order, and those of one snapshot.
use Rattle.std.proofs.Common.{◌≡◌, ℕ, ◌<◌, Bool, true, false, cond, eqb, ◌&&◌, ◌||◌, List, [], ◌∷◌, Ordering, refl, sym, ◌∙◌, ap, arith}
use Rattle.std.specs.declared.cmp.Ordering.TheVariants.{Less, Equal, Greater}
use Rattle.std.specs.List.{list_any, filter, AllByRecursion}
use Rattle.std.specs.BTreeMap.{is_at}
use Rattle.std.specs.Ordering.{nat_cmp, ordering_then, is_gt, is_le, is_eq}
use Rattle.std.specs.Cmp.{IsTotalOrder, nat_cmp_total, nat_eq_equiv, unsigned_tied, tied_itself, Equal-is}
use Rattle.std.specs.List.Sorted.{IsStrictlySortedBy}
use Rattle.std.proofs.lemmas.Bool.{true≢false, eqb-true, eq-eqb}
use Rattle.std.proofs.lemmas.Cmp.{on_total, then_total, ranked}
use Rattle.std.proofs.lemmas.Map.Lookups.{CmpEqualImpliesEq, exact_pairs, exact_unsigned}
use Rattle.std.proofs.lemmas.Map.Keys.{IsStrictlyIncreasing-from_sorted}
use Rattle.std.proofs.lemmas.Map.Views.{any-filter_same}
use Rattle.std.proofs.lemmas.List.Kept.{IsStrictlySortedBy-filter}
use Rattle.std.specs.BTreeMap.Range.{range_contains}
use Rattle.std.specs.declared.ops.Bound.TheVariants.{Included, Unbounded}
use Rattle.std.specs.FinSet as finset
use Rattle.rbd_registry.specs.Children.{ChildEntry, entry_cmp, AreChildren}

pub entry_total : IsTotalOrder entry_cmp
entry_total = then_total (on_total (λ (e : ChildEntry). e.parent) nat_cmp_total) (then_total (on_total (λ (e : ChildEntry). e.snap) nat_cmp_total) (on_total (λ (e : ChildEntry). e.child) nat_cmp_total))

pub entry_exact : CmpEqualImpliesEq entry_cmp
entry_exact a b h =
    let pair : ℕ × ℕ → ℕ × ℕ → Ordering = λ x y. ordering_then (nat_cmp x.0 y.0) (nat_cmp x.1 y.1) in
    ap (λ (p : ℕ × (ℕ × ℕ)). record { parent = p.0; snap = p.1.0; child = p.1.1 })
    (exact_pairs nat_cmp pair exact_unsigned (exact_pairs nat_cmp nat_cmp exact_unsigned exact_unsigned) (a.parent, (a.snap, a.child)) (b.parent, (b.snap, b.child)) h)

-- after the first entry that there may be, and no child: past all of them
past : (a b c d : Ordering) → is_gt (ordering_then a (ordering_then b c)) ≡ false → (a ≡ Equal → b ≡ Equal → ⊥) → ordering_then a (ordering_then b d) ≡ Less
past Less b c d h ne = refl
past Equal Less c d h ne = refl
past Equal Equal c d h ne = absurd (ne refl refl)
past Equal Greater c d h ne = absurd (true≢false h)
past Greater b c d h ne = absurd (true≢false h)

both_true : (a b : Bool) → (a && b) ≡ true → (a ≡ true) × (b ≡ true)
both_true true true e = (refl, refl)
both_true true false e = absurd (true≢false (sym e))
both_true false b e = absurd (true≢false (sym e))

module _ (p s : ℕ) where
  abbrev pub at : ℕ → ChildEntry
  at c = record { parent = p; snap = s; child = c }

  abbrev pub is_of : ChildEntry → Bool
  is_of x = eqb x.parent p && eqb x.snap s

  -- the children at the front
  abbrev pub front : List ChildEntry → List ℕ
  front [] = []
  front (x ∷ xs) = cond (is_of x) (x.child ∷ front xs) []

  at_child : (x : ChildEntry) → is_of x ≡ true → x ≡ at x.child
  at_child x e =
      let both = both_true (eqb x.parent p) (eqb x.snap s) e in
      ap (λ (q : ℕ × ℕ). record { parent = q.0; snap = q.1; child = x.child }) (λ i. (eqb-true x.parent p both.0 i, eqb-true x.snap s both.1 i))

  by_child : (c d : ℕ) → entry_cmp (at c) (at d) ≡ nat_cmp c d
  by_child c d =
      ap (λ o. ordering_then o (ordering_then (nat_cmp s s) (nat_cmp c d))) (tied_itself nat_cmp_total p)
      ∙ ap (λ o. ordering_then o (nat_cmp c d)) (tied_itself nat_cmp_total s)

  pub later : (x : ChildEntry) → is_gt (entry_cmp (at 0) x) ≡ false → is_of x ≡ false → (c : ℕ) → entry_cmp (at c) x ≡ Less
  later x from other c = past (nat_cmp p x.parent) (nat_cmp s x.snap) (nat_cmp 0 x.child) (nat_cmp c x.child) from (λ e g.
      true≢false (sym (ap (λ b. b && eqb x.snap s) (eq-eqb x.parent p (sym (exact_unsigned p x.parent e))) ∙ eq-eqb x.snap s (sym (exact_unsigned s x.snap g))) ∙ other))

  pub tied_child : (x : ChildEntry) (c : ℕ) → is_of x ≡ true → is_at (entry_cmp (at c)) x ≡ eqb x.child c
  tied_child x c e = ap (is_at (entry_cmp (at c))) (at_child x e) ∙ ap is_eq (by_child c x.child) ∙ unsigned_tied c x.child ∙ nat_eq_equiv.symm c x.child

  none_later : (x : ChildEntry) (xs : List ChildEntry) (c : ℕ) → entry_cmp (at c) x ≡ Less → AllByRecursion (λ y. entry_cmp x y ≡ Less) xs → list_any (is_at (entry_cmp (at c))) xs ≡ false
  none_later x [] c h below = refl
  none_later x (y ∷ ys) c h below = ap (λ o. is_eq o || list_any (is_at (entry_cmp (at c))) ys) (entry_total.trans (at c) x y h below.0) ∙ none_later x ys c h below.1

  pub each_front : (xs : List ChildEntry) → IsStrictlySortedBy entry_cmp xs → AllByRecursion (λ x. is_gt (entry_cmp (at 0) x) ≡ false) xs → (c : ℕ)
      → list_any (λ id. eqb id c) (front xs) ≡ list_any (is_at (entry_cmp (at c))) xs
  unfolding IsStrictlySortedBy
  each_front [] sorted from c = refl
  each_front (x ∷ xs) sorted from c = go (is_of x) refl (each_front xs sorted.1 from.1 c)
    where
      go : (b : Bool) → is_of x ≡ b → list_any (λ id. eqb id c) (front xs) ≡ list_any (is_at (entry_cmp (at c))) xs
          → list_any (λ id. eqb id c) (cond b (x.child ∷ front xs) []) ≡ (is_at (entry_cmp (at c)) x || list_any (is_at (entry_cmp (at c))) xs)
      go true e rest = (λ i. sym (tied_child x c e) i || rest i)
      go false e rest = sym (ap (λ o. is_eq o || list_any (is_at (entry_cmp (at c))) xs) (later x from.0 e c) ∙ none_later x xs c (later x from.0 e c) sorted.0)

  above_front : (x : ChildEntry) → is_of x ≡ true → (xs : List ChildEntry) → AllByRecursion (λ y. entry_cmp x y ≡ Less) xs → AllByRecursion (λ d. nat_cmp x.child d ≡ Less) (front xs)
  above_front x e [] below = tt
  above_front x e (y ∷ ys) below = go (is_of y) refl (above_front x e ys below.1)
    where
      go : (b : Bool) → is_of y ≡ b → AllByRecursion (λ d. nat_cmp x.child d ≡ Less) (front ys) → AllByRecursion (λ d. nat_cmp x.child d ≡ Less) (cond b (y.child ∷ front ys) [])
      go true g rest = (sym (by_child x.child y.child) ∙ (λ i. entry_cmp (sym (at_child x e) i) (sym (at_child y g) i)) ∙ below.0, rest)
      go false g rest = tt

  sorted_front : (xs : List ChildEntry) → IsStrictlySortedBy entry_cmp xs → IsStrictlySortedBy nat_cmp (front xs)
  unfolding IsStrictlySortedBy
  sorted_front [] sorted = tt
  sorted_front (x ∷ xs) sorted = go (is_of x) refl (sorted_front xs sorted.1)
    where
      go : (b : Bool) → is_of x ≡ b → IsStrictlySortedBy nat_cmp (front xs) → IsStrictlySortedBy nat_cmp (cond b (x.child ∷ front xs) [])
      go true e rest = (above_front x e xs sorted.0, rest)
      go false e rest = tt

  -- the children are at the front of what lies from the first one on
  pub front_children : (ks xs : List ChildEntry) → IsStrictlySortedBy entry_cmp xs → AllByRecursion (λ x. is_gt (entry_cmp (at 0) x) ≡ false) xs
      → ((c : ℕ) → list_any (is_at (entry_cmp (at c))) xs ≡ list_any (is_at (entry_cmp (at c))) ks) → AreChildren (finset.from_list ks) p s (front xs)
  front_children ks xs sorted from same = record {
    each = λ c. each_front xs sorted from c ∙ same c ∙ sym (finset.contains-from_list entry_total ks (at c));
    ascending = IsStrictlyIncreasing-from_sorted (front xs) (sorted_front xs sorted);
  }

  -- whether an entry lies from the first one on that a child may have
  abbrev pub from_first : ChildEntry → Bool
  from_first = range_contains entry_cmp (Included (at 0)) Unbounded

  zero_le : (c : ℕ) → is_le (nat_cmp 0 c) ≡ true
  zero_le c = go (nat_cmp 0 c) refl
    where
      go : (o : Ordering) → nat_cmp 0 c ≡ o → is_le o ≡ true
      go Less e = refl
      go Equal e = refl
      go Greater e = let below : c < 0 = ranked 0 c Greater (sym e) in absurd (omega arith)

  child_from : (c : ℕ) (x : ChildEntry) → is_at (entry_cmp (at c)) x ≡ true → from_first x ≡ true
  child_from c x e =
      ap from_first (sym (entry_exact (at c) x ((Equal-is (entry_cmp (at c) x)).0 e)))
      ∙ ap (λ o. is_le o && true) (by_child 0 c) ∙ ap (λ b. b && true) (zero_le c)

  not_past : (o : Ordering) → (is_le o && true) ≡ true → is_gt o ≡ false
  not_past Less e = refl
  not_past Equal e = refl
  not_past Greater e = absurd (true≢false (sym e))

  all_from : (ks : List ChildEntry) → AllByRecursion (λ x. is_gt (entry_cmp (at 0) x) ≡ false) (filter from_first ks)
  all_from [] = tt
  all_from (k ∷ ks) = go (from_first k) refl (all_from ks)
    where
      go : (b : Bool) → from_first k ≡ b → AllByRecursion (λ x. is_gt (entry_cmp (at 0) x) ≡ false) (filter from_first ks)
          → AllByRecursion (λ x. is_gt (entry_cmp (at 0) x) ≡ false) (cond b (k ∷ filter from_first ks) (filter from_first ks))
      go true e rest = (not_past (entry_cmp (at 0) k) e, rest)
      go false e rest = rest

  pub range_children : (ks : List ChildEntry) → IsStrictlySortedBy entry_cmp ks → AreChildren (finset.from_list ks) p s (front (filter from_first ks))
  range_children ks sorted =
      front_children ks (filter from_first ks) (IsStrictlySortedBy-filter entry_cmp from_first ks sorted) (all_from ks)
      (λ c. any-filter_same (is_at (entry_cmp (at c))) from_first true (child_from c) ks)

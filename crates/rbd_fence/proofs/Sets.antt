-- std's set of instances, which is a list of them in order, as a finite set.
use Rattle.std.proofs.Common.{◌≡◌, ◌≢◌, ℕ, Bool, true, false, cond, ◌||◌, List, refl, sym, ◌∙◌, ap}
use Rattle.std.specs.List.{list_any}
use Rattle.std.specs.BTreeMap.{is_at}
use Rattle.std.specs.Ordering.{nat_cmp, eq_by_cmp, is_eq}
use Rattle.std.specs.Cmp.{IsTotalOrder, nat_cmp_total, tied_itself}
use Rattle.std.proofs.lemmas.Cmp.{on_total, then_total}
use Rattle.std.proofs.lemmas.Map.Lookups.{CmpEqualImpliesEq, exact_pairs, exact_unsigned}
use Rattle.std.proofs.lemmas.Map.Views.{tells_apart}
use Rattle.std.specs.FinSet.{FinSet, contains, insert, from_list, same_set, contains-insert}
use Rattle.rbd_values.proofs.Ordered as ordered
use Rattle.rbd_kinds.specs.declared.id.Instance.{Instance}
use Rattle.rbd_fence.specs.Instances.{instance_cmp}

pub total : IsTotalOrder instance_cmp
total = then_total (on_total (λ (i : Instance). i.session) nat_cmp_total) (on_total (λ (i : Instance). i.life) nat_cmp_total)

pub exact : CmpEqualImpliesEq instance_cmp
exact a b h =
    ap (λ (p : ℕ × ℕ). let i : Instance = record { session = p.0; life = p.1 } in i)
    (exact_pairs nat_cmp nat_cmp exact_unsigned exact_unsigned (a.session, a.life) (b.session, b.life) h)

-- keys that differ at one, which is there
pub one_added : (ks ls : List Instance) (k : Instance) → ((q : Instance) → list_any (is_at (instance_cmp q)) ls ≡ cond (is_at (instance_cmp k) q) true (list_any (is_at (instance_cmp q)) ks))
    → from_list {R = instance_cmp} ls ≡ insert (from_list ks) k
one_added = ordered.one_added total exact

-- ---- what the set of an addition has

or_of_true : (b x : Bool) → b ≡ true → (b || x) ≡ true
or_of_true b x e = ap (λ c. c || x) e

pub contains-insert_itself : (s : FinSet instance_cmp) (i : Instance) → contains (insert s i) i ≡ true
contains-insert_itself s i = contains-insert total s i i ∙ or_of_true (eq_by_cmp instance_cmp i i) (contains s i) (ap is_eq (tied_itself total i))

differ : (a b : Instance) → a ≢ b → eq_by_cmp instance_cmp a b ≡ false
differ a b h =
    elim (eq_by_cmp instance_cmp a b) as (λ v. eq_by_cmp instance_cmp a b ≡ v → v ≡ false) [
      | true ↦ λ e. absurd (h (tells_apart exact a b e))
      | false ↦ λ e. refl
    ] refl

pub contains-insert_other : (s : FinSet instance_cmp) (i other : Instance) → other ≢ i → contains (insert s i) other ≡ contains s other
contains-insert_other s i other h = contains-insert total s i other ∙ ap (λ b. b || contains s other) (differ other i h)

listed_again : (s : FinSet instance_cmp) (i q : Instance) → contains s i ≡ true → (eq_by_cmp instance_cmp q i || contains s q) ≡ contains s q
listed_again s i q h =
    elim (eq_by_cmp instance_cmp q i) as (λ v. eq_by_cmp instance_cmp q i ≡ v → (v || contains s q) ≡ contains s q) [
      | true ↦ λ e. sym (ap (contains s) (tells_apart exact q i e) ∙ h)
      | false ↦ λ e. refl
    ] refl

pub insert_again : (s : FinSet instance_cmp) (i : Instance) → contains s i ≡ true → insert s i ≡ s
insert_again s i h = same_set total exact _ _ (λ q. contains-insert total s i q ∙ listed_again s i q h)

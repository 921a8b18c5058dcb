-- To take the first of some instances that differ is to take each.
use Rattle.std.proofs.Common.{◌≡◌, Bool, true, false, cond, List, [], ◌∷◌, refl, sym, ap, subst, ◌∙◌}
use Rattle.std.specs.Prelude.{not}
use Rattle.std.specs.List.{AllByRecursion, IsDistinct}
use Rattle.std.specs.Set.{remove_key}
use Rattle.std.proofs.lemmas.Map.Keys.{IsDistinct-head, IsDistinct-tail}
use Rattle.rbd_kinds.specs.declared.id.Instance.{Instance}
use Rattle.rbd_kinds.specs.Instances.{same_instance}
use Rattle.rbd_kinds.proofs.Instances.{same_instance_is}
use Rattle.rbd_watch.specs.Watching.{without}

all_stay : (i : Instance) (ks : List Instance) → AllByRecursion (λ k. same_instance i k ≡ false) ks → without i ks ≡ ks
all_stay i [] all = refl
all_stay i (k ∷ ks) all = ap (λ c. cond (not c) (k ∷ without i ks) (without i ks)) all.0 ∙ ap (λ l. k ∷ l) (all_stay i ks all.1)

pub removed_is_without : (i : Instance) (ks : List Instance) → IsDistinct same_instance ks → remove_key (same_instance i) ks ≡ without i ks
removed_is_without i [] distinct = refl
removed_is_without i (k ∷ ks) distinct = by (same_instance i k) refl (removed_is_without i ks (IsDistinct-tail same_instance k ks distinct))
  where
    by : (b : Bool) → same_instance i k ≡ b → remove_key (same_instance i) ks ≡ without i ks → cond b ks (k ∷ remove_key (same_instance i) ks) ≡ cond (not b) (k ∷ without i ks) (without i ks)
    by true e rest = sym (all_stay i ks (subst (λ x. AllByRecursion (λ y. same_instance x y ≡ false) ks) (sym (same_instance_is i k e)) (IsDistinct-head same_instance k ks distinct)))
    by false e rest = ap (λ l. k ∷ l) rest

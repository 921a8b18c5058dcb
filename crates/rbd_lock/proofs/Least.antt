-- Of images in order, the first that comes behind one is the least that does.
use Rattle.std.proofs.Common.{◌≡◌, Bool, true, false, cond, ◌||◌, List, [], ◌∷◌, Option, Some, None, Ordering, refl, sym, ap, subst, ◌∙◌}
use Rattle.std.proofs.lemmas.Bool.{true≢false}
use Rattle.std.proofs.lemmas.Cmp.{on_total, then_total}
use Rattle.std.proofs.lemmas.Map.Keys.{sorted_head, sorted_tail}
use Rattle.std.specs.Cmp.{IsTotalOrder, nat_cmp_total, tied_itself}
use Rattle.std.specs.List.{AllByRecursion}
use Rattle.std.specs.Ordering.{is_lt, ordering_reverse}
use Rattle.std.specs.declared.cmp.Ordering.TheVariants.{Less}
use Rattle.std.specs.Option.{unwrap_or}
use Rattle.std.specs.Prelude.{IsTrue, IsFalse}
use Rattle.std.proofs.lemmas.Option.{none-some}
use Rattle.rbd_kinds.specs.declared.image_at.ImageAt.{ImageAt}
use Rattle.rbd_lock.specs.Locks.{AreImagesInOrder}
use Rattle.rbd_kinds.specs.Images.{image_cmp, is_at, site_number}
use Rattle.rbd_kinds.proofs.Images.{at_itself}
use Rattle.rbd_lock.specs.Places.{is_among, is_behind, next_behind}
use Rattle.rbd_lock.proofs.Keys.{where_same}

total : IsTotalOrder image_cmp
total = then_total (on_total (λ (p : ImageAt). site_number p.site) nat_cmp_total) (on_total (λ (p : ImageAt). p.image) nat_cmp_total)

not_below : (r : Ordering) → r ≡ Less → is_lt (ordering_reverse r) ≡ false
not_below r is = ap (λ o. is_lt (ordering_reverse o)) is

-- what comes later isn't below
pub not_below_first : (first other : ImageAt) → image_cmp first other ≡ Less → is_lt (image_cmp other first) ≡ false
not_below_first first other is = ap is_lt (total.antisymm other first) ∙ not_below (image_cmp first other) is

pub not_below_itself : (p : ImageAt) → is_lt (image_cmp p p) ≡ false
not_below_itself p = ap is_lt (tied_itself total p)

-- one of some places that begin with this one is this one, or one of the others
pub split : {P : Type 0} (first other : ImageAt) (places : List ImageAt) → IsTrue (is_among other.site other.image (first ∷ places))
    → (IsTrue (is_at other.site other.image first.site first.image) → P) → (IsTrue (is_among other.site other.image places) → P) → P
split {P} first other places is here there = go (is_at other.site other.image first.site first.image) refl is
  where
    go : (b : Bool) → is_at other.site other.image first.site first.image ≡ b → (b || is_among other.site other.image places) ≡ true → P
    go true same is = here same
    go false apart is = there is

-- all the others come later
pub later : (first other : ImageAt) (places : List ImageAt) → AllByRecursion (λ p. image_cmp first p ≡ Less) places → IsTrue (is_among other.site other.image places)
    → image_cmp first other ≡ Less
later first other [] all is = absurd (true≢false (sym is))
later first other (p ∷ places) all is =
    let found = later first other places all.1 in
    split p other places is
    (λ same. where_same (λ s i. image_cmp first (record { site = s; image = i }) ≡ Less) p.site p.image other.site other.image (turned other p same) all.0)
    (λ there. found there)
  where
    turned : (a b : ImageAt) → IsTrue (is_at a.site a.image b.site b.image) → IsTrue (is_at b.site b.image a.site a.image)
    turned a b same = where_same (λ s i. IsTrue (is_at s i a.site a.image)) a.site a.image b.site b.image same (at_itself a.site a.image)

module _ (behind : Option ImageAt) where
  pub found : (places : List ImageAt) (next : ImageAt) → next_behind behind places ≡ Some next
      → IsTrue (is_among next.site next.image places) × IsTrue (is_behind behind next)
  found [] next is = absurd (none-some next is)
  found (p ∷ places) next is = go (is_behind behind p) refl is (found places next)
    where
      among : (b : Bool) → is_at next.site next.image p.site p.image ≡ b → IsTrue (is_among next.site next.image places) → (b || is_among next.site next.image places) ≡ true
      among true same is = refl
      among false apart is = is

      go : (b : Bool) → is_behind behind p ≡ b → cond b (Some p) (next_behind behind places) ≡ Some next
          → (next_behind behind places ≡ Some next → IsTrue (is_among next.site next.image places) × IsTrue (is_behind behind next))
          → IsTrue (is_among next.site next.image (p ∷ places)) × IsTrue (is_behind behind next)
      go true comes is rest =
          let same : p ≡ next = ap (λ (o : Option ImageAt). unwrap_or o p) is in
          subst (λ (q : ImageAt). IsTrue (is_among q.site q.image (p ∷ places)) × IsTrue (is_behind behind q)) same
          (ap (λ b. b || is_among p.site p.image places) (at_itself p.site p.image), comes)
      go false comes is rest =
          let both = rest is in (among (is_at next.site next.image p.site p.image) refl both.0, both.1)

  pub none : (places : List ImageAt) (other : ImageAt) → next_behind behind places ≡ None
      → IsTrue (is_among other.site other.image places) → IsFalse (is_behind behind other)
  none [] other is among = absurd (true≢false (sym among))
  none (p ∷ places) other is among = go (is_behind behind p) refl is (none places other)
    where
      go : (b : Bool) → is_behind behind p ≡ b → cond b (Some p) (next_behind behind places) ≡ None
          → (next_behind behind places ≡ None → IsTrue (is_among other.site other.image places) → IsFalse (is_behind behind other))
          → IsFalse (is_behind behind other)
      go true comes is rest = absurd (none-some p (sym is))
      go false comes is rest =
          split p other places among
          (λ same. where_same (λ s i. IsFalse (is_behind behind (record { site = s; image = i }))) p.site p.image other.site other.image
          (where_same (λ s i. IsTrue (is_at s i other.site other.image)) other.site other.image p.site p.image same (at_itself other.site other.image)) comes)
          (λ there. rest is there)

  pub least : (places : List ImageAt) (next other : ImageAt) → AreImagesInOrder places → next_behind behind places ≡ Some next
      → IsTrue (is_among other.site other.image places) → IsTrue (is_behind behind other) → IsFalse (is_lt (image_cmp other next))
  least [] next other order is among comes = absurd (none-some next is)
  least (p ∷ places) next other order is among comes = go (is_behind behind p) refl is (least places next other (sorted_tail image_cmp p places order))
    where
      go : (b : Bool) → is_behind behind p ≡ b → cond b (Some p) (next_behind behind places) ≡ Some next
          → (next_behind behind places ≡ Some next → IsTrue (is_among other.site other.image places) → IsTrue (is_behind behind other) → IsFalse (is_lt (image_cmp other next)))
          → IsFalse (is_lt (image_cmp other next))
      go true first is rest =
          let same : p ≡ next = ap (λ (o : Option ImageAt). unwrap_or o p) is in
          subst (λ (q : ImageAt). IsFalse (is_lt (image_cmp other q))) same
          (split p other places among
          (λ here. where_same (λ s i. IsFalse (is_lt (image_cmp other (record { site = s; image = i })))) other.site other.image p.site p.image here (not_below_itself other))
          (λ there. not_below_first p other (later p other places (sorted_head image_cmp p places order) there)))
      go false first is rest =
          split p other places among
          (λ here. absurd (true≢false (sym (where_same (λ s i. IsTrue (is_behind behind (record { site = s; image = i }))) other.site other.image p.site p.image here comes) ∙ first)))
          (λ there. rest is there comes)

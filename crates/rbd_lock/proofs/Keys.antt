-- Images that were asked for, as an ordered set has them.
use Rattle.std.proofs.Common.{◌≡◌, ℕ, Bool, true, false, cond, ◌||◌, List, [], ◌∷◌, Option, Some, None, refl, sym, ap, subst, ◌∙◌, Bor}
use Rattle.std.proofs.Math.Bool.{and-true}
use Rattle.std.proofs.lemmas.Bool.{true≢false, eqb-true}
use Rattle.std.specs.BTreeMap.{is_at as is_tied}
use Rattle.std.specs.BTreeMap.Range.{range_contains}
use Rattle.std.specs.declared.ops.Bound.TheVariants.{Excluded, Unbounded}
use Rattle.std.specs.List.{list_any, filter, find, slice_get}
use Rattle.std.specs.Option.{option_copied, MatchOption}
use Rattle.std.specs.Ordering.{is_lt}
use Rattle.rbd_kinds.specs.declared.id.SiteId.{SiteId}
use Rattle.rbd_kinds.specs.declared.id.SiteId.TheVariants as site
use Rattle.rbd_kinds.specs.contracts.image_at.ImageAtOrd.TheImpl as ord
use Rattle.rbd_kinds.specs.declared.image_at.ImageAt.{ImageAt}
use Rattle.rbd_kinds.specs.Images.{is_at}
use Rattle.rbd_kinds.proofs.Images.{in_order, tied_images}
use Rattle.rbd_lock.specs.Places.{is_among, next_behind}

-- what holds of an image holds of the same
pub where_same : (P : SiteId → ℕ → Type 0) (s : SiteId) (i : ℕ) (t : SiteId) (j : ℕ) → is_at s i t j ≡ true → P s i → P t j
where_same P site.A i site.A j is holds = subst (P site.A) (sym (eqb-true j i is)) holds
where_same P site.B i site.B j is holds = subst (P site.B) (sym (eqb-true j i is)) holds
where_same P site.A i site.B j is holds = absurd (true≢false (sym is))
where_same P site.B i site.A j is holds = absurd (true≢false (sym is))

-- ---- the order

pub among : (s : SiteId) (i : ℕ) (ks : List ImageAt) → list_any (is_tied (ord.cmp-value.it (record { site = s; image = i }))) ks ≡ is_among s i ks
among s i [] = refl
among s i (k ∷ ks) = λ j. tied_images s i k.site k.image j || among s i ks j

-- a set in which one image was put, or out of which it was taken
pub updated : (old new : List ImageAt) (s : SiteId) (i : ℕ) (is : Bool)
    → ((q : ImageAt) → list_any (is_tied (ord.cmp-value.it q)) new ≡ cond (is_tied (ord.cmp-value.it (record { site = s; image = i })) q) is (list_any (is_tied (ord.cmp-value.it q)) old))
    → (t : SiteId) (k : ℕ) → is_among t k new ≡ cond (is_at s i t k) is (is_among t k old)
updated old new s i is changes t k =
    sym (among t k new) ∙ changes (record { site = t; image = k }) ∙ λ j. cond (tied_images s i t k j) is (among t k old j)

-- ---- the first behind one

one_of : {X : Type 0} (b : Bool) (x : X) (xs : List X) (y : Option X) → slice_get xs 0 ≡ y → slice_get (cond b (x ∷ xs) xs) 0 ≡ cond b (Some x) y
one_of true x xs y is = refl
one_of false x xs y is = is

pub first_of_filter : {X : Type 0} (test : X → Bool) (xs : List X) → slice_get (filter test xs) 0 ≡ find test xs
first_of_filter test [] = refl
first_of_filter test (x ∷ xs) = one_of (test x) x (filter test xs) (find test xs) (first_of_filter test xs)

-- the first of those in a range that begins behind one
pub first_in_range : (before : ImageAt) (ks : List ImageAt) → find (range_contains ord.cmp-value.it (Excluded before) Unbounded) ks ≡ next_behind (Some before) ks
first_in_range before [] = refl
first_in_range before (k ∷ ks) =
    let behind = and-true (is_lt (ord.cmp-value.it before k)) ∙ ap is_lt (in_order before.site before.image k.site k.image) in
    λ j. cond (behind j) (Some k) (first_in_range before ks j)

pub told_first : {X : Type 0} (told : Option (Bor X)) (xs rest : List X) → MatchOption told ((xs ≡ []) × (rest ≡ [])) (λ x. xs ≡ x.now ∷ rest)
    → option_copied told ≡ slice_get xs 0
told_first None xs rest is = sym (ap (λ l. slice_get l 0) is.0)
told_first (Some x) xs rest is = sym (ap (λ l. slice_get l 0) is)

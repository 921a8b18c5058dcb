-- What a look or a change tells of the header of an own.
use Rattle.std.proofs.Common.{◌≡◌, ℕ, cond, Bool, true, false, List, [], ◌∷◌, map, Option, Some, None, is_some, refl, sym, ap, ◌∙◌, subst}
use Rattle.std.specs.Prelude.{IsSome}
use Rattle.rbd_kinds.specs.declared.header.HeaderView.{HeaderView}
use Rattle.rbd_kinds.specs.declared.id.SiteId.{SiteId}
use Rattle.rbd_machine.specs.Knowledge.{Own, is_at, own_of, told_of, with_header}
use Rattle.rbd_interference.specs.Truth.{header_of_own, sharing_of_own}
use Rattle.rbd_interference.proofs.Less.{place_of}

abbrev pub header_changed : (Option HeaderView → Option HeaderView) → Option Own → Option HeaderView
header_changed change None = None
header_changed change (Some o) = change o.header

pub told_here : (site : SiteId) (image : ℕ) (change : Option HeaderView → Option HeaderView) (owns : List Own)
    → header_of_own (own_of (map (told_of site image change) owns) site image) ≡ header_changed change (own_of owns site image)
told_here site image change [] = refl
told_here site image change (o ∷ owns) = by (is_at site image o.site o.image) refl (told_here site image change owns)
  where
    by : (b : Bool) → is_at site image o.site o.image ≡ b
        → header_of_own (own_of (map (told_of site image change) owns) site image) ≡ header_changed change (own_of owns site image)
        → header_of_own (own_of (map (told_of site image change) (o ∷ owns)) site image) ≡ header_changed change (own_of (o ∷ owns) site image)
    by true is rest = rw is (rw is refl)
    by false is rest = rw is (rw is rest)

-- those at other places stay
pub told_apart : (site there : SiteId) (image place : ℕ) (change : Option HeaderView → Option HeaderView) → is_at there place site image ≡ false → (owns : List Own)
    → own_of (map (told_of site image change) owns) there place ≡ own_of owns there place
told_apart site there image place change differ [] = refl
told_apart site there image place change differ (o ∷ owns) = by (is_at site image o.site o.image) refl (told_apart site there image place change differ owns)
  where
    rest : List Own
    rest = map (told_of site image change) owns

    by : (b : Bool) → is_at site image o.site o.image ≡ b → own_of rest there place ≡ own_of owns there place → own_of (told_of site image change o ∷ rest) there place ≡ own_of (o ∷ owns) there place
    by true here more =
        let same = place_of site o.site image o.image here in
        let other : is_at there place o.site o.image ≡ false = sym (ap (λ s. is_at there place s image) same.0 ∙ ap (λ i. is_at there place o.site i) same.1) ∙ differ in
        ap (λ b. own_of (cond b (with_header change o) o ∷ rest) there place) here
        ∙ ap (λ b. cond b (Some (with_header change o)) (own_of rest there place)) other ∙ more ∙ sym (ap (λ b. cond b (Some o) (own_of owns there place)) other)
    by false elsewhere more =
        ap (λ b. own_of (cond b (with_header change o) o ∷ rest) there place) elsewhere
        ∙ ap (λ found. cond (is_at there place o.site o.image) (Some o) found) more

-- and it goes beside those beside whom it went
pub told_sharing : (site there : SiteId) (image place : ℕ) (change : Option HeaderView → Option HeaderView) (owns : List Own)
    → sharing_of_own (own_of (map (told_of site image change) owns) there place) ≡ sharing_of_own (own_of owns there place)
told_sharing site there image place change [] = refl
told_sharing site there image place change (o ∷ owns) = by (is_at site image o.site o.image) (told_sharing site there image place change owns)
  where
    rest : List Own
    rest = map (told_of site image change) owns

    same : (t : Bool) → sharing_of_own (own_of rest there place) ≡ sharing_of_own (own_of owns there place)
        → sharing_of_own (cond t (Some (record o { header = change o.header })) (own_of rest there place)) ≡ sharing_of_own (cond t (Some o) (own_of owns there place))
    same true e = refl
    same false e = e

    kept : (t : Bool) → sharing_of_own (own_of rest there place) ≡ sharing_of_own (own_of owns there place)
        → sharing_of_own (cond t (Some o) (own_of rest there place)) ≡ sharing_of_own (cond t (Some o) (own_of owns there place))
    kept true e = refl
    kept false e = e

    by : (b : Bool) → sharing_of_own (own_of rest there place) ≡ sharing_of_own (own_of owns there place)
        → sharing_of_own (own_of (cond b (record o { header = change o.header }) o ∷ rest) there place) ≡ sharing_of_own (own_of (o ∷ owns) there place)
    by true e = same (is_at there place o.site o.image) e
    by false e = kept (is_at there place o.site o.image) e

-- who knows it now knew it before, where it did so at the place that was told
pub told_knew : (site there : SiteId) (image place : ℕ) (change : Option HeaderView → Option HeaderView) (owns : List Own)
    → (IsSome (header_changed change (own_of owns site image)) → IsSome (header_of_own (own_of owns site image)))
    → IsSome (header_of_own (own_of (map (told_of site image change) owns) there place)) → IsSome (header_of_own (own_of owns there place))
told_knew site there image place change owns knew now = by (is_at there place site image) refl
  where
    by : (b : Bool) → is_at there place site image ≡ b → IsSome (header_of_own (own_of owns there place))
    by false other = ap (λ o. is_some (header_of_own o)) (sym (told_apart site there image place change other owns)) ∙ now
    by true here =
        let same = place_of there site place image here in
        subst (λ s. IsSome (header_of_own (own_of owns s place))) (sym same.0) (subst (λ i. IsSome (header_of_own (own_of owns site i))) (sym same.1)
        (knew (ap is_some (sym (told_here site image change owns)) ∙ subst (λ i. IsSome (header_of_own (own_of (map (told_of site image change) owns) site i))) same.1
        (subst (λ s. IsSome (header_of_own (own_of (map (told_of site image change) owns) s place))) same.0 now))))

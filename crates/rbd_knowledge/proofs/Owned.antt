-- The images that a request owns: where they are, and what becomes of them.
use Rattle.std.proofs.Common.{◌≡◌, ℕ, cond, Bool, true, false, List, [], ◌∷◌, map, Option, Some, None, option_map, refl, sym, ap, ◌∙◌, subst}
use Rattle.std.proofs.lemmas.Option.{none-some, same_Some}
use Rattle.rbd_kinds.specs.declared.header.HeaderView.{HeaderView}
use Rattle.rbd_kinds.specs.declared.id.SiteId.{SiteId}
use Rattle.rbd_kinds.proofs.Images.{at_itself}
use Rattle.rbd_machine.specs.Knowledge.{Own, own_of, is_at, told_of, with_header, owns_without}
use Rattle.rbd_machine.proofs.Lawful.{left_here}
use Rattle.rbd_interference.proofs.Less.{place_of, left_there}

-- ---- places

-- two that are at one place are at each other's
pub meets : (a b s : SiteId) (i j n : ℕ) → is_at a i s n ≡ true → is_at b j s n ≡ true → is_at a i b j ≡ true
meets a b s i j n one other =
    let first = place_of a s i n one in
    let second = place_of b s j n other in
    ap (λ x. is_at x i b j) first.0 ∙ ap (λ x. is_at s x b j) first.1 ∙ ap (λ x. is_at s n x j) second.0 ∙ ap (λ x. is_at s n s x) second.1 ∙ at_itself s n

-- who is where another is, is where that one is
pub at_through : (a b s : SiteId) (i j n : ℕ) → is_at a i b j ≡ true → is_at b j s n ≡ true → is_at a i s n ≡ true
at_through a b s i j n one other =
    let same = place_of a b i j one in
    ap (λ x. is_at x i s n) same.0 ∙ ap (λ x. is_at b x s n) same.1 ∙ other

-- what is owned is owned at its place
pub own_there : (owns : List Own) (site : SiteId) (image : ℕ) (o : Own) → own_of owns site image ≡ Some o → is_at site image o.site o.image ≡ true
own_there [] site image o is = absurd (none-some o is)
own_there (x ∷ owns) site image o is = by (is_at site image x.site x.image) refl is (λ found. own_there owns site image o found)
  where
    by : (b : Bool) → is_at site image x.site x.image ≡ b → cond b (Some x) (own_of owns site image) ≡ Some o
        → (own_of owns site image ≡ Some o → is_at site image o.site o.image ≡ true) → is_at site image o.site o.image ≡ true
    by true here found rest = subst (λ (y : Own). is_at site image y.site y.image ≡ true) (same_Some x o found) here
    by false other found rest = rest found

-- ---- what it is told of

-- whoever is told of a header owns the image as before
pub own_told : (site there : SiteId) (image place : ℕ) (change : Option HeaderView → Option HeaderView) (owns : List Own)
    → own_of (map (told_of site image change) owns) there place ≡ option_map (told_of site image change) (own_of owns there place)
own_told site there image place change [] = refl
own_told site there image place change (o ∷ owns) = by (is_at site image o.site o.image) refl (own_told site there image place change owns)
  where
    rest : Option Own
    rest = own_of (map (told_of site image change) owns) there place

    pick : (b p : Bool) → is_at site image o.site o.image ≡ b → rest ≡ option_map (told_of site image change) (own_of owns there place)
        → cond p (Some (cond b (with_header change o) o)) rest ≡ option_map (told_of site image change) (cond p (Some o) (own_of owns there place))
    pick b true is e = ap (λ t. Some (cond t (with_header change o) o)) (sym is)
    pick b false is e = e

    by : (b : Bool) → is_at site image o.site o.image ≡ b → rest ≡ option_map (told_of site image change) (own_of owns there place)
        → own_of (cond b (with_header change o) o ∷ map (told_of site image change) owns) there place ≡ option_map (told_of site image change) (own_of (o ∷ owns) there place)
    by true is e = pick true (is_at there place o.site o.image) is e
    by false is e = pick false (is_at there place o.site o.image) is e

-- what holds of each own once it is told holds of the one that is found
pub from_told : (told : Own → Own) (was : Option Own) (o : Own) (P : Own → Type 0) → option_map told was ≡ Some o → ((before : Own) → was ≡ Some before → P (told before)) → P o
from_told told None o P is all = absurd (none-some o is)
from_told told (Some before) o P is all = subst P (same_Some (told before) o is) (all before refl)

-- ---- what it leaves

-- an own that is left was there before, at another place
pub left_before : (there site : SiteId) (place image : ℕ) (owns : List Own) (o : Own) → own_of (owns_without there place owns) site image ≡ Some o
    → (own_of owns site image ≡ Some o) × (is_at site image there place ≡ false)
left_before there site place image owns o is = by (is_at site image there place) refl
  where
    by : (b : Bool) → is_at site image there place ≡ b → (own_of owns site image ≡ Some o) × (is_at site image there place ≡ false)
    by true at =
        let same = place_of site there image place at in
        let none : own_of (owns_without there place owns) site image ≡ None =
        ap (λ s. own_of (owns_without there place owns) s image) same.0 ∙ ap (λ i. own_of (owns_without there place owns) there i) same.1 ∙ left_here there place owns in
        absurd (none-some o (sym none ∙ is))
    by false other = (sym (left_there there site place image other owns) ∙ is, other)

-- Lists of snapshots that are changed: what holds of each, how many they are, and that their ids
-- rise.
use Rattle.std.proofs.Common.{◌≡◌, ℕ, zero, suc, ◌+◌, ◌≤◌, Bool, true, false, cond, List, [], ◌∷◌, ◌++◌, length, map, filter, Some, refl, sym, subst, arith}
use Rattle.std.specs.Prelude.{slice_get}
use Rattle.rbd_kinds.specs.declared.header.SnapView.{SnapView}
use Rattle.rbd_kinds.specs.declared.header.SnapStatus.{SnapStatus}
use Rattle.rbd_kinds.specs.Form.{AreRising, RiseFrom}
use Rattle.rbd_header.specs.Header.{status_marked}
use Rattle.rbd_header.proofs.Changed.{marked_id}

-- what holds of each snapshot of a list, by its place
abbrev pub OfEach : (SnapView → Type 0) → List SnapView → Type 0
OfEach P snaps = (k : ℕ) (s : SnapView) → slice_get snaps k ≡ Some s → P s

of_rest : (P : SnapView → Type 0) (t : SnapView) (snaps : List SnapView) → OfEach P (t ∷ snaps) → OfEach P snaps
of_rest P t snaps each k s is = each (suc k) s is

pub each_appended : (P : SnapView → Type 0) (t : SnapView) (snaps : List SnapView) → OfEach P snaps → P t → OfEach P (snaps ++ t ∷ [])
each_appended P t [] each one zero s is = subst P (let same : t ≡ s = cc in same) one
each_appended P t [] each one (suc k) s is = cc
each_appended P t (x ∷ snaps) each one zero s is = each zero s is
each_appended P t (x ∷ snaps) each one (suc k) s is = each_appended P t snaps (of_rest P x snaps each) one k s is

pub each_mapped : (P : SnapView → Type 0) (f : SnapView → SnapView) → ((s : SnapView) → P s → P (f s)) → (snaps : List SnapView) → OfEach P snaps → OfEach P (map f snaps)
each_mapped P f keeps [] each k s is = cc
each_mapped P f keeps (x ∷ snaps) each zero s is = subst P (let same : f x ≡ s = cc in same) (keeps x (each zero x refl))
each_mapped P f keeps (x ∷ snaps) each (suc k) s is = each_mapped P f keeps snaps (of_rest P x snaps each) k s is

pub each_filtered : (P : SnapView → Type 0) (p : SnapView → Bool) (snaps : List SnapView) → OfEach P snaps → OfEach P (filter p snaps)
each_filtered P p [] each = each
each_filtered P p (x ∷ snaps) each = go (p x) (each_filtered P p snaps (of_rest P x snaps each))
  where
    first : OfEach P (filter p snaps) → OfEach P (x ∷ filter p snaps)
    first rest zero s is = each zero s is
    first rest (suc k) s is = rest k s is

    go : (t : Bool) → OfEach P (filter p snaps) → OfEach P (cond t (x ∷ filter p snaps) (filter p snaps))
    go true rest = first rest
    go false rest = rest

pub fewer : (p : SnapView → Bool) (snaps : List SnapView) → length (filter p snaps) ≤ length snaps
fewer p [] = omega arith
fewer p (x ∷ snaps) = go (p x) (fewer p snaps)
  where
    go : (t : Bool) → length (filter p snaps) ≤ length snaps → length (cond t (x ∷ filter p snaps) (filter p snaps)) ≤ suc (length snaps)
    go true rest = omega arith
    go false rest = omega arith

rising_from_less : (below from most : ℕ) (snaps : List SnapView) → below ≤ from → RiseFrom from most snaps → RiseFrom below most snaps
rising_from_less below from most [] less rising = omega arith
rising_from_less below from most (s ∷ snaps) less rising = (omega arith, rising.1)

rising_appended : (below most : ℕ) (t : SnapView) (snaps : List SnapView) → t.id ≡ most + 1 → RiseFrom below most snaps → RiseFrom below (most + 1) (snaps ++ t ∷ [])
rising_appended below most t [] next rising = (omega arith, omega arith)
rising_appended below most t (s ∷ snaps) next rising = (rising.0, rising_appended s.id most t snaps next rising.1)

rising_filtered : (p : SnapView → Bool) (below most : ℕ) (snaps : List SnapView) → RiseFrom below most snaps → RiseFrom below most (filter p snaps)
rising_filtered p below most [] rising = rising
rising_filtered p below most (s ∷ snaps) rising = go (p s) (rising_filtered p s.id most snaps rising.1)
  where
    go : (t : Bool) → RiseFrom s.id most (filter p snaps) → RiseFrom below most (cond t (s ∷ filter p snaps) (filter p snaps))
    go true rest = (rising.0, rest)
    go false rest = rising_from_less below s.id most (filter p snaps) (omega (arith, rising.0)) rest

rising_marked : (t : ℕ) (status : SnapStatus) (below most : ℕ) (snaps : List SnapView) → RiseFrom below most snaps → RiseFrom below most (map (status_marked t status) snaps)
rising_marked t status below most [] rising = rising
rising_marked t status below most (s ∷ snaps) rising = (
  omega (arith, rising.0, marked_id t status s),
  subst (λ id. RiseFrom id most (map (status_marked t status) snaps)) (sym (marked_id t status s)) (rising_marked t status s.id most snaps rising.1),
)

-- the same of whole lists

pub are_rising : (below most : ℕ) (snaps : List SnapView) → RiseFrom below most snaps → AreRising most snaps
are_rising below most [] rising = tt
are_rising below most (s ∷ snaps) rising = rising.1

pub risen_appended : (most : ℕ) (t : SnapView) (snaps : List SnapView) → t.id ≡ most + 1 → AreRising most snaps → AreRising (most + 1) (snaps ++ t ∷ [])
risen_appended most t [] next rising = omega arith
risen_appended most t (s ∷ snaps) next rising = rising_appended s.id most t snaps next rising

pub risen_filtered : (p : SnapView → Bool) (most : ℕ) (snaps : List SnapView) → AreRising most snaps → AreRising most (filter p snaps)
risen_filtered p most [] rising = tt
risen_filtered p most (s ∷ snaps) rising = go (p s) (rising_filtered p s.id most snaps rising)
  where
    go : (t : Bool) → RiseFrom s.id most (filter p snaps) → AreRising most (cond t (s ∷ filter p snaps) (filter p snaps))
    go true rest = rest
    go false rest = are_rising s.id most (filter p snaps) rest

pub risen_marked : (t : ℕ) (status : SnapStatus) (most : ℕ) (snaps : List SnapView) → AreRising most snaps → AreRising most (map (status_marked t status) snaps)
risen_marked t status most [] rising = tt
risen_marked t status most (s ∷ snaps) rising = subst (λ id. RiseFrom id most (map (status_marked t status) snaps)) (sym (marked_id t status s)) (rising_marked t status s.id most snaps rising)

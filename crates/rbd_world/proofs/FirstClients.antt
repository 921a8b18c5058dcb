-- Sessions are made one after another, each at its home and in its first life.
use Rattle.std.proofs.Common.{◌≡◌, ◌⊎◌, inl, inr, ℕ, zero, suc, ◌+◌, ◌<◌, List, [], ◌∷◌, ◌++◌, ◌≤◌, length, length-append, slice_get, Option, Some, None, refl, sym, ap, ◌∙◌, subst, arith}
use Rattle.std.proofs.Math.ListN.{get_or}
use Rattle.std.proofs.lemmas.Option.{none-some, slice_get_cases, slice_get_within}
use Rattle.rbd_kinds.specs.declared.id.SiteId.{SiteId}
use Rattle.rbd_world.specs.Sound.{AreAtHome, AreFirst, IsAtHome, IsFirst}
use Rattle.rbd_world.specs.World.{LivesView}

-- what stands in a list with one more: what stood there, or the last
pub found_in : {X : Type 0} (xs : List X) (x : X) (k : ℕ) (y : X) → slice_get (xs ++ x ∷ []) k ≡ Some y → (slice_get xs k ≡ Some y) ⊎ ((k ≡ length xs) × (x ≡ y))
found_in {X} [] x zero y is = inr (refl, ap (λ o. or_x o) is)
  where
    or_x : Option X → X
    or_x None = x
    or_x (Some z) = z
found_in [] x (suc k) y is = absurd (none-some y is)
found_in (z ∷ xs) x zero y is = inl is
found_in (z ∷ xs) x (suc k) y is = by (found_in xs x k y is)
  where
    by : (slice_get xs k ≡ Some y) ⊎ ((k ≡ length xs) × (x ≡ y)) → (slice_get xs k ≡ Some y) ⊎ ((suc k ≡ suc (length xs)) × (x ≡ y))
    by (inl there) = inl there
    by (inr (at, same)) = inr (ap suc at, same)

module _ {R : Type 0} (homes : List SiteId) where
  pub record IsAt (k : ℕ) (l : LivesView R) : Type 0 where
    pub home : (home : SiteId) → slice_get homes k ≡ Some home → l.home ≡ home
    pub first : IsFirst k l

  -- so many were made
  pub record AreMade (count : ℕ) (lives : List (LivesView R)) : Type 0 where
    pub long : length lives ≡ count
    pub each : (k : ℕ) (l : LivesView R) → slice_get lives k ≡ Some l → IsAt k l

  pub none_made : AreMade 0 []
  none_made = record { long = refl; each = λ k l is. absurd (none-some l is) }

  pub one_made : (count : ℕ) (lives : List (LivesView R)) (l : LivesView R) → AreMade count lives → IsAt count l → AreMade (count + 1) (lives ++ l ∷ [])
  one_made count lives l made at = record {
    long = length-append lives (l ∷ []) ∙ ap (λ n. n + 1) made.long;
    each = λ k m is. by k m (found_in lives l k m is);
  }
    where
      by : (k : ℕ) (m : LivesView R) → (slice_get lives k ≡ Some m) ⊎ ((k ≡ length lives) × (l ≡ m)) → IsAt k m
      by k m (inl there) = made.each k m there
      by k m (inr (last, same)) = subst (λ n. IsAt n m) (sym (last ∙ made.long)) (subst (IsAt count) same at)

  pub all_first : (count : ℕ) (lives : List (LivesView R)) → AreMade count lives → AreFirst lives
  all_first count lives made k l is = (made.each k l is).first

  -- one for each home
  pub all_at_home : (lives : List (LivesView R)) → AreMade (length homes) lives → AreAtHome homes lives
  all_at_home lives made k = by (slice_get homes k) refl (slice_get lives k) refl
    where
      some : {X : Type 0} (xs : List X) → k < length xs → slice_get xs k ≡ None → ⊥
      some {X} xs within none = go (slice_get_cases xs k).1
        where
          go : ((x : X) × (k < length xs) × (slice_get xs k ≡ Some x) × (get_or xs k x ≡ x)) ⊎ ((length xs ≤ k) × (slice_get xs k ≡ None)) → ⊥
          go (inl (x, inside, found, e)) = none-some x (sym none ∙ found)
          go (inr (behind, nothing)) = omega (arith, within, behind)

      by : (h : Option SiteId) → slice_get homes k ≡ h → (o : Option (LivesView R)) → slice_get lives k ≡ o → IsAtHome h o
      by None none None nobody = tt
      by (Some home) is (Some l) there = (made.each k l there).home home is
      by None none (Some l) there = some homes (subst (λ n. k < n) made.long (slice_get_within lives k l there)) none
      by (Some home) is None nobody = some lives (subst (λ n. k < n) (sym made.long) (slice_get_within homes k home is)) nobody

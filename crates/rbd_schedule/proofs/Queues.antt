-- One queue of many.
use Rattle.std.proofs.Common.{◌≡◌, ◌≢◌, ℕ, zero, suc, ◌<◌, cond, List, [], ◌∷◌, ◌++◌, ◌⊎◌, inl, inr, length, slice_set, slice_get, append-nil, Some, refl, sym, ap, ◌∙◌, subst, arith}
use Rattle.std.proofs.lemmas.Bool.{cases_eq, eq-eqb, ne_eqb}
use Rattle.std.proofs.lemmas.Option.{same_Some}
use Rattle.rbd_schedule.specs.declared.given.Given.{Given}
use Rattle.rbd_schedule.specs.declared.queue.Queue.{Queue}
use Rattle.rbd_schedule.specs.Given.{of_session}
use Rattle.rbd_schedule.specs.Playing.{commands_in}

module _ {X : Type 0} where
  pub set_there : (xs : List X) (i : ℕ) (y : X) → i < length xs → slice_get (slice_set xs i y) i ≡ Some y
  set_there [] i y below = absurd (omega (arith, below))
  set_there (x ∷ xs) zero y below = refl
  set_there (x ∷ xs) (suc i) y below = set_there xs i y (omega (arith, below))

  pub set_other : (xs : List X) (i j : ℕ) (y : X) → j ≢ i → slice_get (slice_set xs i y) j ≡ slice_get xs j
  set_other [] i j y other = refl
  set_other (x ∷ xs) zero zero y other = absurd (other refl)
  set_other (x ∷ xs) zero (suc j) y other = refl
  set_other (x ∷ xs) (suc i) zero y other = refl
  set_other (x ∷ xs) (suc i) (suc j) y other = set_other xs i j y (λ same. other (ap suc same))

-- what holds of each queue, where it holds of the one that is put there
pub each_with : (P : ℕ → Queue → Type 0) (qs : List Queue) (i : ℕ) (q : Queue) → i < length qs → ((s : ℕ) (x : Queue) → slice_get qs s ≡ Some x → P s x) → P i q
    → (s : ℕ) (x : Queue) → slice_get (slice_set qs i q) s ≡ Some x → P s x
each_with P qs i q below each is s x found = by (cases_eq s i)
  where
    by : (s ≡ i) ⊎ (s ≡ i → ⊥) → P s x
    by (inl same) =
        let there : Some q ≡ Some x = sym (set_there qs i q below) ∙ ap (slice_get (slice_set qs i q)) (sym same) ∙ found in
        subst (λ n. P n x) (sym same) (subst (P i) (same_Some q x there) is)
    by (inr other) = each s x (sym (set_other qs i s q other) ∙ found)

-- the commands of each session, where one queue has these commands now
pub commands_with : (qs : List Queue) (i : ℕ) (q : Queue) → i < length qs → q.commands.items ≡ commands_in (slice_get qs i)
    → (s : ℕ) → commands_in (slice_get (slice_set qs i q) s) ≡ commands_in (slice_get qs s)
commands_with qs i q below items s = by (cases_eq s i)
  where
    by : (s ≡ i) ⊎ (s ≡ i → ⊥) → commands_in (slice_get (slice_set qs i q) s) ≡ commands_in (slice_get qs s)
    by (inl same) = subst (λ n. commands_in (slice_get (slice_set qs i q) n) ≡ commands_in (slice_get qs n)) (sym same) (ap commands_in (set_there qs i q below) ∙ items)
    by (inr other) = ap commands_in (set_other qs i s q other)

one_of : (s : ℕ) (c : Given) → c.session ≡ s → of_session s (c ∷ []) ≡ c ∷ []
one_of s c same = ap (λ b. cond b (c ∷ []) []) (eq-eqb c.session s same)

none_of : (s : ℕ) (c : Given) → (s ≡ c.session → ⊥) → of_session s (c ∷ []) ≡ []
none_of s c other = ap (λ b. cond b (c ∷ []) []) (ne_eqb c.session s (λ same. other (sym same)))

-- one more command of its session
pub commands_more : (qs : List Queue) (c : Given) (q : Queue) → c.session < length qs → q.commands.items ≡ commands_in (slice_get qs c.session) ++ c ∷ []
    → (s : ℕ) → commands_in (slice_get (slice_set qs c.session q) s) ≡ commands_in (slice_get qs s) ++ of_session s (c ∷ [])
commands_more qs c q below items s = by (cases_eq s c.session)
  where
    by : (s ≡ c.session) ⊎ (s ≡ c.session → ⊥) → commands_in (slice_get (slice_set qs c.session q) s) ≡ commands_in (slice_get qs s) ++ of_session s (c ∷ [])
    by (inl same) =
        subst (λ n. commands_in (slice_get (slice_set qs c.session q) n) ≡ commands_in (slice_get qs n) ++ of_session n (c ∷ [])) (sym same)
        (ap commands_in (set_there qs c.session q below) ∙ items ∙ ap (λ ys. commands_in (slice_get qs c.session) ++ ys) (sym (one_of c.session c refl)))
    by (inr other) =
        ap commands_in (set_other qs c.session s q other) ∙ sym (append-nil (commands_in (slice_get qs s))) ∙ ap (λ ys. commands_in (slice_get qs s) ++ ys) (sym (none_of s c other))

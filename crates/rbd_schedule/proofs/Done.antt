-- Deeds, one more after another.
use Rattle.std.proofs.Common.{◌≡◌, ℕ, zero, suc, ◌+◌, ◌<◌, ◌≤◌, ◌⊎◌, inl, inr, refl, sym, subst, arith}
use Rattle.std.proofs.lemmas.Bool.{cases_lt}
use Rattle.rbd_schedule.specs.Deeds.{Deeds}

pub none_done : {S : Type 0} (deed : ℕ → S → S → Type 0) (s : S) → Deeds deed 0 s s
unfolding Deeds
none_done deed s = refl

pub one_more : {S : Type 0} (deed : ℕ → S → S → Type 0) (n : ℕ) (old between new : S) → Deeds deed n old between → deed n between new → Deeds deed (n + 1) old new
unfolding Deeds
one_more {S} deed n old between new before it = let next : suc n ≡ n + 1 = omega arith in subst (λ m. Deeds deed m old new) next (go before it)
  where
    go : Deeds deed n old between → deed n between new → Deeds deed (suc n) old new
    go before it = (between, before, it)

-- deeds of which each is one of the others are those
pub others_done : {S : Type 0} (deed other : ℕ → S → S → Type 0) → ((n : ℕ) (old new : S) → deed n old new → other n old new)
    → (n : ℕ) (old new : S) → Deeds deed n old new → Deeds other n old new
unfolding Deeds
others_done deed other each zero old new done = done
others_done deed other each (suc n) old new (between, before, it) = (between, others_done deed other each n old between before, each n between new it)

-- what holds of all numbers below one, and of it, holds of all below the next
pub one_more_idle : (P : ℕ → Type 0) (n : ℕ) → ((s : ℕ) → s < n → P s) → P n → (s : ℕ) → s < n + 1 → P s
one_more_idle P n each it s below = by (cases_lt s n)
  where
    by : (s < n) ⊎ (n ≤ s) → P s
    by (inl less) = each s less
    by (inr past) = let same : n ≡ s = omega (arith, below, past) in subst P same it

-- what holds of all numbers below one, and of those from it on
pub all_idle : (P : ℕ → Type 0) (n : ℕ) → ((s : ℕ) → s < n → P s) → (s : ℕ) → (n ≤ s → P s) → P s
all_idle P n each s past = by (cases_lt s n)
  where
    by : (s < n) ⊎ (n ≤ s) → P s
    by (inl less) = each s less
    by (inr more) = past more

-- deeds that change nothing may follow, up to any number
pub idle_on : {S : Type 0} (deed : ℕ → S → S → Type 0) (d n m : ℕ) (old new : S) → d + n ≡ m → Deeds deed n old new → ((k : ℕ) → n ≤ k → k < m → deed k new new) → Deeds deed m old new
idle_on deed zero n m old new all done idle = let same : n ≡ m = omega (arith, all) in subst (λ k. Deeds deed k old new) same done
idle_on deed (suc d) n m old new all done idle =
    idle_on deed d (n + 1) m old new (omega (arith, all)) (one_more deed n old new new done (idle n (omega arith) (omega (arith, all)))) (λ k from below. idle k (omega (arith, from)) below)

-- the same, to a number that isn't less
pub idle_to : {S : Type 0} (deed : ℕ → S → S → Type 0) (n m : ℕ) (old new : S) → n ≤ m → Deeds deed n old new → ((k : ℕ) → n ≤ k → k < m → deed k new new) → Deeds deed m old new
idle_to deed n zero old new most done idle = let same : n ≡ 0 = omega (arith, most) in subst (λ k. Deeds deed k old new) same done
idle_to deed n (suc m) old new most done idle = by (cases_lt m n) (λ least. idle_to deed n m old new least done (λ k from below. idle k from (omega (arith, below))))
  where
    by : (m < n) ⊎ (n ≤ m) → (n ≤ m → Deeds deed m old new) → Deeds deed (suc m) old new
    by (inl past) before = let same : n ≡ suc m = omega (arith, most, past) in subst (λ k. Deeds deed k old new) same done
    by (inr least) before =
        let next : m + 1 ≡ suc m = omega arith in subst (λ k. Deeds deed k old new) next (one_more deed m old new new (before least) (idle m least (omega arith)))

-- and then one more
pub next_done : {S : Type 0} (deed : ℕ → S → S → Type 0) (n number : ℕ) (old between new : S) → n < number → Deeds deed n old between → ((k : ℕ) → n ≤ k → k + 1 < number → deed k between between)
    → ((k : ℕ) → k + 1 ≡ number → deed k between new) → Deeds deed number old new
next_done deed n zero old between new less done idle it = absurd (omega (arith, less))
next_done deed n (suc m) old between new less done idle it =
    let next : m + 1 ≡ suc m = omega arith in
    subst (λ k. Deeds deed k old new) next
    (one_more deed m old between new (idle_to deed n m old between (omega (arith, less)) done (λ k from below. idle k from (omega (arith, below)))) (it m next))

-- the same deed, so many times and so many times more
pub done_then : {S : Type 0} (deed : S → S → Type 0) (n m : ℕ) (old between new : S) → Deeds (λ k. deed) n old between → Deeds (λ k. deed) m between new → Deeds (λ k. deed) (n + m) old new
unfolding Deeds
done_then deed n zero old between new first then = let all : n ≡ n + zero = omega arith in subst (λ k. Deeds (λ j. deed) k old new) all (subst (Deeds (λ j. deed) n old) (sym then) first)
done_then {S} deed n (suc m) old between new first (last, then, it) =
    let next : (n + m) + 1 ≡ n + suc m = omega arith in
    subst (λ k. Deeds (λ j. deed) k old new) next (one_more (λ j. deed) (n + m) old last new (done_then deed n m old between last first then) it)

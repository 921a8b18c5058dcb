-- Deeds on two sides: what each deed keeps alike, all keep alike, and loops go on equally often.
use Rattle.std.proofs.Common.{◌≡◌, ℕ, zero, suc, ◌<◌, ◌≤◌, ◌⊎◌, inl, inr, sym, subst, arith}
use Rattle.std.proofs.lemmas.Bool.{cases_lt}
use Rattle.rbd_schedule.specs.Deeds.{Deeds}

-- the deeds before the one with this number lead there, and that one goes on from there
record GoesOnAt {S : Type 0} (deed : ℕ → S → S → Type 0) (k : ℕ) (old : S) : Type 0 where
  there : S
  before : Deeds deed k old there
  behind : S
  next : deed k there behind

goes_on_at : {S : Type 0} (deed : ℕ → S → S → Type 0) (k n : ℕ) (old new : S) → k < n → Deeds deed n old new → GoesOnAt deed k old
unfolding Deeds
goes_on_at deed k zero old new below done = absurd (omega (arith, below))
goes_on_at deed k (suc n) old new below (between, before, it) = by (cases_lt k n) (λ less. goes_on_at deed k n old between less before)
  where
    by : (k < n) ⊎ (n ≤ k) → (k < n → GoesOnAt deed k old) → GoesOnAt deed k old
    by (inl less) earlier = earlier less
    by (inr past) earlier =
        let same : n ≡ k = omega (arith, below, past) in
        subst (λ m. GoesOnAt deed m old) same (record { there = between; before = before; behind = new; next = it })

module _ {S : Type 0} (Alike : (one other : S) → Type 0) where
  -- as many deeds on each side
  pub alike_behind : (deed deed' : ℕ → S → S → Type 0) → ((k : ℕ) (a b a' b' : S) → Alike a b → deed k a a' → deed' k b b' → Alike a' b')
      → (n : ℕ) (a b a' b' : S) → Alike a b → Deeds deed n a a' → Deeds deed' n b b' → Alike a' b'
  unfolding Deeds
  alike_behind deed deed' each zero a b a' b' alike done done' = subst (λ x. Alike x b') (sym done) (subst (λ y. Alike a y) (sym done') alike)
  alike_behind deed deed' each (suc n) a b a' b' alike (between, before, it) (between', before', it') =
      each n between between' a' b' (alike_behind deed deed' each n a b between between' alike before before') it it'

  -- A loop that goes on as long as a test holds: behind so many deeds it has ended where the test
  -- doesn't hold, and none of its deeds begins there. It may do so many.
  module _ (deed : ℕ → S → S → Type 0) (each : (k : ℕ) (a b a' b' : S) → Alike a b → deed k a a' → deed k b b' → Alike a' b') (May : (count : ℕ) → Type 0) (HasEnded : (count : ℕ) → S → Type 0)
      (here : (k m : ℕ) (a b a' : S) → Alike a b → k < m → May m → HasEnded k b → deed k a a' → ⊥)
      (there : (k m : ℕ) (a b b' : S) → Alike a b → k < m → May m → HasEnded k a → deed k b b' → ⊥) where
    -- it goes on equally often on both sides
    pub same_count : (n m : ℕ) (a b a' b' : S) → Alike a b → May n → May m → Deeds deed n a a' → Deeds deed m b b' → HasEnded n a' → HasEnded m b' → n ≡ m
    same_count n m a b a' b' alike may may' done done' ended ended' = by (cases_lt n m) (cases_lt m n)
      where
        by : (n < m) ⊎ (m ≤ n) → (m < n) ⊎ (n ≤ m) → n ≡ m
        by (inl less) other =
            let on = goes_on_at deed n m b b' less done' in
            absurd (there n m a' on.there on.behind (alike_behind deed deed each n a b a' on.there alike done on.before) less may' ended on.next)
        by (inr past) (inl less) =
            let on = goes_on_at deed m n a a' less done in
            absurd (here m n on.there b' on.behind (alike_behind deed deed each m a b on.there b' alike on.before done') less may ended' on.next)
        by (inr past) (inr past') = omega (arith, past, past')

    pub alike_behind_loops : (n m : ℕ) (a b a' b' : S) → Alike a b → May n → May m → Deeds deed n a a' → Deeds deed m b b' → HasEnded n a' → HasEnded m b' → Alike a' b'
    alike_behind_loops n m a b a' b' alike may may' done done' ended ended' =
        alike_behind deed deed each n a b a' b' alike done
        (subst (λ k. Deeds deed k b b') (sym (same_count n m a b a' b' alike may may' done done' ended ended')) done')

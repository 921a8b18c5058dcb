-- Whether a layout and a size keep the limits is decided.
use Rattle.std.proofs.Common.{◌≡◌, ◌⊎◌, inl, inr, ℕ, zero, suc, ◌^◌, ◌<◌, ◌≤◌, refl, sym, subst, arith}
use Rattle.std.proofs.Math.Nat.{not-suc-le-zero}
use Rattle.std.proofs.Math.Pow.{pow-lt, pow_mono}
use Rattle.rbd_kinds.specs.declared.layout.Layout.{Layout}
use Rattle.rbd_kinds.specs.Striping.{IsLayout, object_of}
use Rattle.rbd_layout.specs.Asked.{KeepsLimits}
use Rattle.rbd_layout.proofs.Mixed.{cases_lt}

le_or_not : (a b : ℕ) → (a ≤ b) ⊎ (a ≤ b → ⊥)
le_or_not a b = go (cases_lt a b)
  where
    go : (a < b) ⊎ ((a ≡ b) ⊎ (b < a)) → (a ≤ b) ⊎ (a ≤ b → ⊥)
    go (inl less) = inl (omega (arith, less))
    go (inr (inl same)) = inl (omega (arith, same))
    go (inr (inr more)) = inr (λ le. omega (arith, more, le))

same_or_not : (a b : ℕ) → (a ≡ b) ⊎ (a ≡ b → ⊥)
same_or_not a b = go (cases_lt a b)
  where
    go : (a < b) ⊎ ((a ≡ b) ⊎ (b < a)) → (a ≡ b) ⊎ (a ≡ b → ⊥)
    go (inl less) = inr (λ same. omega (arith, less, same))
    go (inr (inl same)) = inl same
    go (inr (inr more)) = inr (λ same. omega (arith, more, same))

both : {A B : Type 0} → A ⊎ (A → ⊥) → B ⊎ (B → ⊥) → (A × B) ⊎ (A × B → ⊥)
both (inl a) (inl b) = inl (a, b)
both (inr fails) b = inr (λ p. fails p.0)
both (inl a) (inr fails) = inr (λ p. fails p.1)

-- below a bound: all have it, or not; one has it, or none
module _ (P : ℕ → Type 0) (decide : (x : ℕ) → P x ⊎ (P x → ⊥)) where
  up_to : (n x : ℕ) → x < suc n → (x < n) ⊎ (x ≡ n)
  up_to n x less = go (cases_lt x n)
    where
      go : (x < n) ⊎ ((x ≡ n) ⊎ (n < x)) → (x < n) ⊎ (x ≡ n)
      go (inl below) = inl below
      go (inr (inl same)) = inr same
      go (inr (inr more)) = absurd (omega (arith, less, more))

  one_more : (n : ℕ) → P n → ((x : ℕ) → x < n → P x) → (x : ℕ) → (x < n) ⊎ (x ≡ n) → P x
  one_more n here below x (inl less) = below x less
  one_more n here below x (inr same) = subst P (sym same) here

  no_more : (n : ℕ) → (P n → ⊥) → ((x : ℕ) → x < n → P x → ⊥) → (x : ℕ) → P x → (x < n) ⊎ (x ≡ n) → ⊥
  no_more n fails below x p (inl less) = below x less p
  no_more n fails below x p (inr same) = fails (subst P same p)

  all_step : (n : ℕ) → P n ⊎ (P n → ⊥) → ((x : ℕ) → x < n → P x) ⊎ (((x : ℕ) → x < n → P x) → ⊥) → ((x : ℕ) → x < suc n → P x) ⊎ (((x : ℕ) → x < suc n → P x) → ⊥)
  all_step n (inl here) (inl below) = inl (λ x less. one_more n here below x (up_to n x less))
  all_step n (inr fails) below = inr (λ all. fails (all n (omega arith)))
  all_step n (inl here) (inr fails) = inr (λ all. fails (λ x less. all x (omega (arith, less))))

  all_below : (n : ℕ) → ((x : ℕ) → x < n → P x) ⊎ (((x : ℕ) → x < n → P x) → ⊥)
  all_below zero = inl (λ x less. absurd (not-suc-le-zero less))
  all_below (suc n) = all_step n (decide n) (all_below n)

  some_step : (n : ℕ) → P n ⊎ (P n → ⊥) → ((x : ℕ) × (x < n) × P x) ⊎ ((x : ℕ) → x < n → P x → ⊥) → ((x : ℕ) × (x < suc n) × P x) ⊎ ((x : ℕ) → x < suc n → P x → ⊥)
  some_step n (inl here) below = inl (n, (let less : n < suc n = omega arith in less), here)
  some_step n (inr fails) (inl (x, less, p)) = inl (x, (let more : x < suc n = omega (arith, less) in more), p)
  some_step n (inr fails) (inr none) = inr (λ x less p. no_more n fails none x p (up_to n x less))

  some_below : (n : ℕ) → ((x : ℕ) × (x < n) × P x) ⊎ ((x : ℕ) → x < n → P x → ⊥)
  some_below zero = inr (λ x less p. not-suc-le-zero less)
  some_below (suc n) = some_step n (decide n) (some_below n)

-- a power of two with an exponent from a bound on
abbrev IsPower : (value least k : ℕ) → Type 0
IsPower value least k = (least ≤ k) × (value ≡ 2 ^ k)

power_or_not : (value least k : ℕ) → IsPower value least k ⊎ (IsPower value least k → ⊥)
power_or_not value least k = both (le_or_not least k) (same_or_not value (2 ^ k))

-- a unit's exponent is at most an object's
few : (l : Layout) → IsLayout l → (n : ℕ) → 25 < n → (k : ℕ) → l.unit ≡ 2 ^ k → k < n
few l h n some k is = go (cases_lt k n)
  where
    small : 25 < k → ⊥
    small more =
        let above : 2 ^ 25 < 2 ^ k = pow-lt more in
        let high : 2 ^ h.object.0 ≤ 2 ^ 25 = pow_mono h.object.2 in
        let object : l.object ≡ 2 ^ h.object.0 = h.object.3 in
        let within : l.unit ≤ l.object = h.unit_within in
        omega (arith, above, high, object, within, is)

    go : (k < n) ⊎ ((k ≡ n) ⊎ (n < k)) → k < n
    go (inl less) = less
    go (inr (inl same)) = absurd (small (omega (arith, same, some)))
    go (inr (inr more)) = absurd (small (omega (arith, more, some)))

-- over any bound on exponents, so that nothing computes
layout_or_not : (l : Layout) (n : ℕ) → n ≡ 26 → IsLayout l ⊎ (IsLayout l → ⊥)
layout_or_not l n is =
    go (some_below (IsPower l.object 12) (power_or_not l.object 12) n) (some_below (IsPower l.unit 9) (power_or_not l.unit 9) n)
    (le_or_not l.unit l.object) (both (le_or_not 1 l.count) (le_or_not l.count 16))
  where
    go : ((k : ℕ) × (k < n) × IsPower l.object 12 k) ⊎ ((k : ℕ) → k < n → IsPower l.object 12 k → ⊥)
        → ((k : ℕ) × (k < n) × IsPower l.unit 9 k) ⊎ ((k : ℕ) → k < n → IsPower l.unit 9 k → ⊥)
        → (l.unit ≤ l.object) ⊎ (l.unit ≤ l.object → ⊥) → ((1 ≤ l.count) × (l.count ≤ 16)) ⊎ ((1 ≤ l.count) × (l.count ≤ 16) → ⊥)
        → IsLayout l ⊎ (IsLayout l → ⊥)
    go (inl (k, less, (low, object))) (inl (j, fewer, (least, unit))) (inl within) (inl count) =
        inl (record { object = (k, low, (let high : k ≤ 25 = omega (arith, less, is) in high), object); unit = (j, least, unit); unit_within = within; count = count })
    go (inr fails) unit within count = inr (λ h. fails h.object.0 (let high : h.object.0 ≤ 25 = h.object.2 in omega (arith, high, is)) (h.object.1, h.object.3))
    go (inl object) (inr fails) within count = inr (λ h. fails h.unit.0 (few l h n (omega (arith, is)) h.unit.0 h.unit.2) (h.unit.1, h.unit.2))
    go (inl object) (inl unit) (inr fails) count = inr (λ h. fails h.unit_within)
    go (inl object) (inl unit) (inl within) (inr fails) = inr (λ h. fails h.count)

less_or_not : (a b : ℕ) → (a < b) ⊎ (a < b → ⊥)
less_or_not a b = go (cases_lt a b)
  where
    go : (a < b) ⊎ ((a ≡ b) ⊎ (b < a)) → (a < b) ⊎ (a < b → ⊥)
    go (inl less) = inl less
    go (inr (inl same)) = inr (λ less. omega (arith, same, less))
    go (inr (inr more)) = inr (λ less. omega (arith, more, less))

pub limits_or_not : (l : Layout) (size : ℕ) → KeepsLimits l size ⊎ (KeepsLimits l size → ⊥)
limits_or_not l size =
    go (layout_or_not l 26 refl) (all_below (λ x. object_of l x < 2 ^ 20) (λ x. less_or_not (object_of l x) (2 ^ 20)) size)
  where
    go : IsLayout l ⊎ (IsLayout l → ⊥) → ((x : ℕ) → x < size → object_of l x < 2 ^ 20) ⊎ (((x : ℕ) → x < size → object_of l x < 2 ^ 20) → ⊥)
        → KeepsLimits l size ⊎ (KeepsLimits l size → ⊥)
    go (inl layout) (inl objects) = inl (record { is_layout = layout; objects = objects })
    go (inr fails) objects = inr (λ keeps. fails keeps.is_layout)
    go (inl layout) (inr fails) = inr (λ keeps. fails keeps.objects)

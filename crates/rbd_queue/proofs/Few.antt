-- How many numbers from 1 on to some other stand in a list, once each.
use Rattle.std.proofs.Common.{◌≡◌, ℕ, zero, suc, ◌≤◌, Bool, true, false, List, [], ◌∷◌, length, refl, sym, ap, ◌∙◌, true≢false, arith}
use Rattle.rbd_guard.specs.Order.{is_in, without, AreApart}
use Rattle.rbd_guard.proofs.Apart.{head_in, out, others, apart_without}
use Rattle.rbd_guard.proofs.Leaving.{one_leaves}

below : (n x : ℕ) → x ≤ suc n → (x ≡ suc n → ⊥) → x ≤ n
below n x h other = omega (arith, h, other)

pub few : (n : ℕ) (xs : List ℕ) → AreApart xs → ((x : ℕ) → is_in x xs ≡ true → (1 ≤ x) × (x ≤ n)) → length xs ≤ n
few zero [] apart within = omega arith
few zero (x ∷ xs) apart within = let w = within x (head_in x xs) in omega (arith, w.0, w.1)
few (suc n) xs apart within = by (is_in (suc n) xs) refl (λ ys ys_apart ys_within. few n ys ys_apart ys_within)
  where
    by : (b : Bool) → is_in (suc n) xs ≡ b
        → ((ys : List ℕ) → AreApart ys → ((x : ℕ) → is_in x ys ≡ true → (1 ≤ x) × (x ≤ n)) → length ys ≤ n) → length xs ≤ suc n
    by true e rest =
        let less = rest (without (suc n) xs) (apart_without xs (suc n) apart)
        (λ x here.
        let other : x ≡ suc n → ⊥ = λ same. true≢false (sym here ∙ (ap (λ k. is_in k (without (suc n) xs)) same ∙ out xs (suc n))) in
        let w = within x (sym (others xs (suc n) x other) ∙ here) in
        (w.0, below n x w.1 other)) in
        let one = one_leaves xs (suc n) apart e in
        omega (arith, less, one)
    by false e rest =
        let less = rest xs apart
        (λ x here.
        let other : x ≡ suc n → ⊥ = λ same. true≢false (sym here ∙ (ap (λ k. is_in k xs) same ∙ e)) in
        let w = within x here in
        (w.0, below n x w.1 other)) in
        omega (arith, less)

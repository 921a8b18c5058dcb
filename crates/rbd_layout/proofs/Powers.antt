-- A number has one binary digit that is set exactly where it is a power of two.
use Rattle.std.proofs.Common.{◌≡◌, ℕ, zero, suc, ◌+◌, ◌*◌, ◌/◌, ◌%◌, ◌^◌, ◌<◌, ◌≤◌, ◌⊎◌, inl, inr, refl, sym, ap, ◌∙◌, arith, eqb, eq-eqb, IsTrue, ◌↔◌}
use Rattle.std.proofs.lemmas.Bool.{eqb-true}
use Rattle.std.proofs.lemmas.Nat.{zero_from_ones, ones_cat, div-add-mod', pow_pos}
use Rattle.std.proofs.Math.Nat.{pow-suc}
use Rattle.std.specs.Prelude.{count_ones}
use Rattle.std.specs.Int.{IsPowerOfTwo}
use Rattle.std.specs.Int.Count.{ones_step, ones}

bit_cases : (n : ℕ) → (n % 2 ≡ 0) ⊎ (n % 2 ≡ 1)
bit_cases n = grind arith

no_ones : count_ones 0 ≡ 0
unfolding ones
no_ones = refl

pub power_from_ones : (f n : ℕ) → n ≤ f → count_ones n ≡ 1 → IsPowerOfTwo n
power_from_ones zero n h e =
    let z : n ≡ 0 = omega arith in
    let s : count_ones n ≡ 0 = ap count_ones z ∙ no_ones in
    absurd (omega arith)
power_from_ones (suc f) n h e = go (bit_cases n) (λ below. power_from_ones f (n / 2) below)
  where
    go : (n % 2 ≡ 0) ⊎ (n % 2 ≡ 1) → (n / 2 ≤ f → count_ones (n / 2) ≡ 1 → IsPowerOfTwo (n / 2)) → IsPowerOfTwo n
    go (inl even) rec =
        let s : count_ones n ≡ n % 2 + count_ones (n / 2) = ones_step n in
        let halves : n / 2 * 2 + n % 2 ≡ n = div-add-mod' n 2 in
        let one : count_ones (n / 2) ≡ 1 = omega arith in
        let half : IsPowerOfTwo (n / 2) = rec (omega arith) one in
        let p : 2 ^ suc (half.0) ≡ 2 ^ half.0 * 2 = pow-suc 2 half.0 in
        let is : n / 2 ≡ 2 ^ half.0 = half.1 in
        (suc half.0, omega arith)
    go (inr odd) rec =
        let s : count_ones n ≡ n % 2 + count_ones (n / 2) = ones_step n in
        let none : n / 2 ≡ 0 = zero_from_ones (n / 2) (omega arith) in
        let halves : n / 2 * 2 + n % 2 ≡ n = div-add-mod' n 2 in
        let is : n ≡ 1 = omega arith in
        (0, is)

pub ones_of_power : (k : ℕ) → count_ones (2 ^ k) ≡ 1
unfolding ones
ones_of_power k =
    let p : 0 < 2 ^ k = pow_pos k in
    let e : 1 * 2 ^ k + 0 ≡ 2 ^ k = omega arith in
    let s : count_ones (1 * 2 ^ k + 0) ≡ count_ones 1 + count_ones 0 = ones_cat k 1 0 p in
    ap count_ones (sym e) ∙ s

pub power_test : (n : ℕ) → IsTrue (eqb (count_ones n) 1) ↔ IsPowerOfTwo n
power_test n = (
  (λ t. power_from_ones n n (omega arith) (eqb-true (count_ones n) 1 t)),
  (λ p. eq-eqb (count_ones n) 1 (ap count_ones (p.1) ∙ ones_of_power (p.0))),
)

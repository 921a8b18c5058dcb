-- What a layout that keeps the limits has, for arithmetic.
use Rattle.std.proofs.Common.{◌≡◌, ℕ, ◌+◌, ◌-◌, ◌*◌, ◌/◌, ◌^◌, ◌<◌, ◌≤◌, ◌⊎◌, inl, inr, sym, ap, ◌∙◌, arith}
use Rattle.std.proofs.lemmas.Nat.{div-mul-add, pow_pos, pow-add, le-div}
use Rattle.std.proofs.Math.Pow.{pow-lt, pow_mono}
use Rattle.std.specs.Int.{IsPowerOfTwo}
use Rattle.rbd_kinds.specs.declared.layout.Layout.{Layout}
use Rattle.rbd_kinds.specs.Striping.{IsLayout, units_per_object}

pub record Shape (l : Layout) : Type 0 where
  pub object_power : IsPowerOfTwo l.object
  pub object_least : 4096 ≤ l.object
  pub object_most : l.object ≤ 33554432
  pub unit_power : IsPowerOfTwo l.unit
  pub unit_least : 512 ≤ l.unit
  pub unit_most : l.unit ≤ l.object
  pub count_least : 1 ≤ l.count
  pub count_most : l.count ≤ 16
  pub whole : l.object ≡ units_per_object l * l.unit
  pub units : 0 < units_per_object l

cases_le : (j k : ℕ) → (j ≤ k) ⊎ (k < j)
cases_le j k = grind arith

exponent_at_least : (j k : ℕ) → 2 ^ j ≤ 2 ^ k → j ≤ k
exponent_at_least j k h = go (cases_le j k)
  where
    go : (j ≤ k) ⊎ (k < j) → j ≤ k
    go (inl le) = le
    go (inr gt) = let less : 2 ^ k < 2 ^ j = pow-lt gt in absurd (omega arith)

-- a power of two is a multiple of each lower one
whole_power : (j k : ℕ) → 2 ^ j ≤ 2 ^ k → 2 ^ k ≡ 2 ^ k / 2 ^ j * 2 ^ j
whole_power j k h =
    let le : j ≤ k = exponent_at_least j k h in
    let d : k - j + j ≡ k = omega arith in
    let product : 2 ^ (k - j) * 2 ^ j ≡ 2 ^ k = sym (pow-add 2 (k - j) j) ∙ ap (λ x. 2 ^ x) d in
    let plus : 2 ^ (k - j) * 2 ^ j + 0 ≡ 2 ^ k = omega arith in
    let quotient : (2 ^ (k - j) * 2 ^ j + 0) / 2 ^ j ≡ 2 ^ (k - j) = div-mul-add (2 ^ (k - j)) (2 ^ j) 0 (pow_pos j) in
    let quotient' : 2 ^ k / 2 ^ j ≡ 2 ^ (k - j) = rw plus at quotient in
    rw quotient' (sym product)

whole_of : (object unit : ℕ) → IsPowerOfTwo object → IsPowerOfTwo unit → unit ≤ object → object ≡ object / unit * unit
whole_of object unit (k, e) (j, d) h =
    let le : 2 ^ j ≤ 2 ^ k = rw (e, d) at h in
    rw (e, d) (whole_power j k le)

pub shape_of : (l : Layout) → IsLayout l → Shape l
shape_of l h =
    let object : l.object ≡ 2 ^ h.object.0 = h.object.3 in
    let low : 2 ^ 12 ≤ 2 ^ h.object.0 = pow_mono h.object.1 in
    let high : 2 ^ h.object.0 ≤ 2 ^ 25 = pow_mono h.object.2 in
    let unit : l.unit ≡ 2 ^ h.unit.0 = h.unit.2 in
    let unit_low : 2 ^ 9 ≤ 2 ^ h.unit.0 = pow_mono h.unit.1 in
    let within : l.unit ≤ l.object = h.unit_within in
    let some : 512 ≤ l.unit = omega arith in
    let once : 1 * l.unit ≤ l.object = omega arith in
    record {
      object_power = (h.object.0, object);
      object_least = omega arith;
      object_most = omega arith;
      unit_power = (h.unit.0, unit);
      unit_least = omega arith;
      unit_most = within;
      count_least = h.count.0;
      count_most = h.count.1;
      whole = whole_of l.object l.unit (h.object.0, object) (h.unit.0, unit) within;
      units = le-div 1 l.object l.unit (omega arith) once;
    }

pub layout_from : (l : Layout) → IsPowerOfTwo l.object → 4096 ≤ l.object → l.object ≤ 33554432 → IsPowerOfTwo l.unit → 512 ≤ l.unit → l.unit ≤ l.object → 1 ≤ l.count → l.count ≤ 16 → IsLayout l
layout_from l (k, e) least most (j, d) unit_least unit_most count_least count_most =
    let low : 2 ^ 12 ≤ 2 ^ k = rw (← e) least in
    let high : 2 ^ k ≤ 2 ^ 25 = rw (← e) most in
    let unit_low : 2 ^ 9 ≤ 2 ^ j = rw (← d) unit_least in
    record {
      object = (k, exponent_at_least 12 k low, exponent_at_least k 25 high, e);
      unit = (j, exponent_at_least 9 j unit_low, d);
      unit_within = unit_most;
      count = (count_least, count_most);
    }

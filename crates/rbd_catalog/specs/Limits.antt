-- The test of a layout and a size tells whether they keep the limits: a lemma that the laws of an
-- `impl` cite.
use Rattle.std.proofs.Common.{◌≡◌, ◌⊎◌, ◌↔◌, inl, inr, ℕ, zero, suc, ◌+◌, ◌^◌, ◌<◌, ◌≤◌, ◌==◌, ◌&&◌, ◌||◌, nat_le, Bool, true, false, refl, sym, subst, arith, eqb-true, eq-eqb, leb-true, le-leb}
use Rattle.std.proofs.Math.Pow.{pow-lt, pow_mono}
use Rattle.rbd_kinds.specs.declared.layout.Layout.{Layout}
use Rattle.rbd_kinds.specs.Striping.{IsLayout}
use Rattle.rbd_layout.specs.Asked.{KeepsLimits}
use Rattle.rbd_layout.proofs.Mixed.{cases_lt}
use Rattle.rbd_meaning.specs.Resizes.{has_few_objects}
use Rattle.rbd_meaning.proofs.Counts.{few_decides}
use Rattle.rbd_catalog.specs.Plans.{is_layout, is_power_from, keeps_limits}

are_both : (a b : Bool) → (a && b) ≡ true → (a ≡ true) × (b ≡ true)
are_both true b is = (refl, is)
are_both false b is = cc

both_are : (a b : Bool) → a ≡ true → b ≡ true → (a && b) ≡ true
both_are true b first second = second
both_are false b first second = cc

-- ---- powers of two

record IsPowerIn (exponent many value : ℕ) : Type 0 where
  power : ℕ
  least : exponent ≤ power
  below : power < exponent + many
  is : value ≡ 2 ^ power

wider : (exponent many value : ℕ) → IsPowerIn (suc exponent) many value → IsPowerIn exponent (suc many) value
wider exponent many value later =
    let above : suc exponent ≤ later.power = later.least in
    let under : later.power < suc exponent + many = later.below in
    record {
      power = later.power;
      least = (let le : exponent ≤ later.power = omega (arith, above) in le);
      below = (let lt : later.power < exponent + suc many = omega (arith, under) in lt);
      is = later.is;
    }

is_power : (exponent many value : ℕ) → is_power_from exponent many value ≡ true → IsPowerIn exponent many value
is_power exponent zero value told = cc
is_power exponent (suc many) value told =
    go (value == 2 ^ exponent) refl told (λ is. wider exponent many value (is_power (suc exponent) many value is))
  where
    go : (b : Bool) → (value == 2 ^ exponent) ≡ b → (b || is_power_from (suc exponent) many value) ≡ true
        → (is_power_from (suc exponent) many value ≡ true → IsPowerIn exponent (suc many) value)
        → IsPowerIn exponent (suc many) value
    go true here told later = record {
      power = exponent;
      least = (let le : exponent ≤ exponent = omega arith in le);
      below = (let lt : exponent < exponent + suc many = omega arith in lt);
      is = eqb-true value (2 ^ exponent) here;
    }
    go false here told later = later told

tells_power : (exponent many value power : ℕ) → exponent ≤ power → power < exponent + many → value ≡ 2 ^ power
    → is_power_from exponent many value ≡ true
tells_power exponent zero value power least below is = absurd (omega (arith, least, below))
tells_power exponent (suc many) value power least below is =
    go (value == 2 ^ exponent) refl
    (λ next. tells_power (suc exponent) many value power next
    (let lt : power < suc exponent + many = omega (arith, below) in lt) is)
  where
    further : (value == 2 ^ exponent) ≡ false → (exponent < power) ⊎ ((exponent ≡ power) ⊎ (power < exponent))
        → suc exponent ≤ power
    further here (inl less) = omega (arith, less)
    further here (inr (inl same)) =
        let so : (value == 2 ^ exponent) ≡ true =
        eq-eqb value (2 ^ exponent) (subst (λ k. value ≡ 2 ^ k) (sym same) is) in cc
    further here (inr (inr more)) = absurd (omega (arith, least, more))

    go : (b : Bool) → (value == 2 ^ exponent) ≡ b
        → (suc exponent ≤ power → is_power_from (suc exponent) many value ≡ true)
        → (b || is_power_from (suc exponent) many value) ≡ true
    go true here later = refl
    go false here later = later (further here (cases_lt exponent power))

-- a unit's exponent is at most an object's
unit_below : (l : Layout) → IsLayout l → (k : ℕ) → l.unit ≡ 2 ^ k → k < 26
unit_below l h k is = go (cases_lt k 26)
  where
    small : 25 < k → ⊥
    small more =
        let above : 2 ^ 25 < 2 ^ k = pow-lt more in
        let high : 2 ^ h.object.0 ≤ 2 ^ 25 = pow_mono h.object.2 in
        let object : l.object ≡ 2 ^ h.object.0 = h.object.3 in
        let within : l.unit ≤ l.object = h.unit_within in
        omega (arith, above, high, object, within, is)

    go : (k < 26) ⊎ ((k ≡ 26) ⊎ (26 < k)) → k < 26
    go (inl less) = less
    go (inr (inl same)) = absurd (small (omega (arith, same)))
    go (inr (inr more)) = absurd (small (omega (arith, more)))

-- ---- layouts

-- over any bounds on exponents, so that nothing computes
module _ (l : Layout) (objects units from most : ℕ) (first : from ≡ 12) (second : most ≡ 9) (third : objects ≡ 14)
    (fourth : units ≡ 17) where
  abbrev is_so : Bool
  is_so = is_power_from from objects l.object &&
      (is_power_from most units l.unit && (nat_le l.unit l.object && (nat_le 1 l.count && nat_le l.count 16)))

  is_one : is_so ≡ true → IsLayout l
  is_one told =
      let a = are_both (is_power_from from objects l.object) _ told in
      let b = are_both (is_power_from most units l.unit) _ a.1 in
      let c = are_both (nat_le l.unit l.object) _ b.1 in
      let d = are_both (nat_le 1 l.count) (nat_le l.count 16) c.1 in
      let object = is_power from objects l.object a.0 in
      let unit = is_power most units l.unit b.0 in
      let least : from ≤ object.power = object.least in
      let below : object.power < from + objects = object.below in
      let low : most ≤ unit.power = unit.least in
      record {
        object = (
          object.power,
          (let le : 12 ≤ object.power = omega (arith, least, first) in le),
          (let le : object.power ≤ 25 = omega (arith, below, first, third) in le),
          object.is,
        );
        unit = (unit.power, (let le : 9 ≤ unit.power = omega (arith, low, second) in le), unit.is);
        unit_within = leb-true l.unit l.object c.0;
        count = (leb-true 1 l.count d.0, leb-true l.count 16 d.1);
      }

  is_told : IsLayout l → is_so ≡ true
  is_told h =
      let least : 12 ≤ h.object.0 = h.object.1 in
      let high : h.object.0 ≤ 25 = h.object.2 in
      let low : 9 ≤ h.unit.0 = h.unit.1 in
      let few : h.unit.0 < 26 = unit_below l h h.unit.0 h.unit.2 in
      both_are (is_power_from from objects l.object) _
      (tells_power from objects l.object h.object.0 (let le : from ≤ h.object.0 = omega (arith, least, first) in le)
      (let lt : h.object.0 < from + objects = omega (arith, high, first, third) in lt) h.object.3)
      (both_are (is_power_from most units l.unit) _
      (tells_power most units l.unit h.unit.0 (let le : most ≤ h.unit.0 = omega (arith, low, second) in le)
      (let lt : h.unit.0 < most + units = omega (arith, few, second, fourth) in lt) h.unit.2)
      (both_are (nat_le l.unit l.object) _ (le-leb l.unit l.object h.unit_within)
      (both_are (nat_le 1 l.count) (nat_le l.count 16) (le-leb 1 l.count h.count.0) (le-leb l.count 16 h.count.1))))

pub limits_are_told : (l : Layout) (size : ℕ) → (keeps_limits l size ≡ true) ↔ KeepsLimits l size
limits_are_told l size = (keeps, told)
  where
    keeps : keeps_limits l size ≡ true → KeepsLimits l size
    keeps is =
        let both = are_both (is_layout l) (has_few_objects l size) is in
        let layout = is_one l 14 17 12 9 refl refl refl refl both.0 in
        record { is_layout = layout; objects = (few_decides l size layout).0 both.1 }

    told : KeepsLimits l size → keeps_limits l size ≡ true
    told k = both_are (is_layout l) (has_few_objects l size) (is_told l 14 17 12 9 refl refl refl refl k.is_layout)
        ((few_decides l size k.is_layout).1 k.objects)

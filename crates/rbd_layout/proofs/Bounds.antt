-- How many bytes 2^20 objects have at most.
use Rattle.std.proofs.Common.{◌≡◌, ℕ, ◌+◌, ◌*◌, ◌/◌, ◌%◌, ◌<◌, ◌≤◌, ◌⊎◌, inl, inr, sym, subst, arith}
use Rattle.std.proofs.lemmas.Nat.{div-add-mod'}
use Rattle.std.proofs.Math.Nat.{mul-le-mul_right, mul-le-mul_left, div-eq_of_lt}
use Rattle.rbd_kinds.specs.declared.layout.Layout.{Layout}
use Rattle.rbd_kinds.specs.Form.{HasFewObjects}
use Rattle.rbd_kinds.specs.Striping.{IsLayout, units_per_object, object_of, byte_at}
use Rattle.rbd_layout.proofs.Limits.{Shape, shape_of}
use Rattle.rbd_layout.proofs.Places.{object_of_byte}

lifted : (q u c r : ℕ) → 1 ≤ u → q * u * c + r ≤ (q * c + r) * u
lifted q u c r some = let more : r * 1 ≤ r * u = mul-le-mul_left r some in omega arith

-- an object's first byte has at most so many bytes before it as the objects before it hold
first_bounded : (l : Layout) → IsLayout l → (n : ℕ) → byte_at l n 0 ≤ n * l.object
first_bounded l is n =
    let s : Shape l = shape_of l is in
    let least : 512 ≤ l.unit = s.unit_least in
    let none : 0 / l.unit ≡ 0 = div-eq_of_lt (let some : 0 < l.unit = omega arith in some) in
    let rest : 0 / l.unit * l.unit + 0 % l.unit ≡ 0 = div-add-mod' 0 l.unit in
    let whole : n / l.count * l.count + n % l.count ≡ n = div-add-mod' n l.count in
    let sets : n / l.count * units_per_object l * l.count + n % l.count ≤ (n / l.count * l.count + n % l.count) * units_per_object l = lifted (n / l.count) (units_per_object l) l.count (n % l.count) s.units in
    let bytes : (n / l.count * units_per_object l * l.count + n % l.count) * l.unit ≤ (n / l.count * l.count + n % l.count) * units_per_object l * l.unit = mul-le-mul_right l.unit sets in
    let object : l.object ≡ units_per_object l * l.unit = s.whole in
    total (0 / l.unit) (0 % l.unit) (n / l.count) (n % l.count) (units_per_object l) l.count l.unit n l.object none rest whole bytes object
  where
    total : (z y q r u c unit n object : ℕ) → z ≡ 0 → z * unit + y ≡ 0 → q * c + r ≡ n → (q * u * c + r) * unit ≤ (q * c + r) * u * unit → object ≡ u * unit → ((q * u + z) * c + r) * unit + y ≤ n * object
    total z y q r u c unit n object none rest whole bytes is =
        subst (λ m. ((q * u + z) * c + r) * unit + y ≤ m * object) whole
        (subst (λ o. ((q * u + z) * c + r) * unit + y ≤ (q * c + r) * o) (sym is)
        (subst (λ w. ((q * u + w) * c + r) * unit + y ≤ (q * c + r) * (u * unit)) (sym none)
        (let last : y ≡ 0 = omega arith in omega arith)))

pub few_bytes : (l : Layout) → IsLayout l → (size : ℕ) → HasFewObjects l size → size ≤ 35184372088832
few_bytes l is size few = go (cases size)
  where
    cases : (size : ℕ) → (size ≤ 35184372088832) ⊎ (35184372088832 < size)
    cases size = grind arith

    go : (size ≤ 35184372088832) ⊎ (35184372088832 < size) → size ≤ 35184372088832
    go (inl small) = small
    go (inr large) =
        let s : Shape l = shape_of l is in
        let most : l.object ≤ 33554432 = s.object_most in
        let least : 4096 ≤ l.object = s.object_least in
        let first : byte_at l 1048576 0 ≤ 1048576 * l.object = first_bounded l is 1048576 in
        let below : byte_at l 1048576 0 < size = omega arith in
        let number : object_of l (byte_at l 1048576 0) < 1048576 = few (byte_at l 1048576 0) below in
        let same : object_of l (byte_at l 1048576 0) ≡ 1048576 = object_of_byte l is 1048576 0 (let some : 0 < l.object = omega arith in some) in
        absurd (omega arith)

-- Places in objects, for a layout that keeps the limits.
use Rattle.std.proofs.Common.{◌≡◌, ℕ, ◌+◌, ◌-◌, ◌*◌, ◌/◌, ◌%◌, ◌<◌, ◌≤◌, ◌⊎◌, inl, inr, refl, sym, ap, subst, arith}
use Rattle.std.proofs.lemmas.Nat.{div-mul-add, div-add-mod', le-div, div_below}
use Rattle.std.proofs.Math.Nat.{mul-le-mul_right, mul-le-mul_left, mod-lt, div-mul-le_self, div-eq_of_lt, not-suc-le-zero}
use Rattle.rbd_kinds.specs.declared.layout.Layout.{Layout}
use Rattle.rbd_kinds.specs.Striping.{IsLayout, IsObjectCount, units_per_object, object_of, offset_of, byte_at, stripe_of, position_of}
use Rattle.rbd_layout.specs.Pieces.{IsHeld}
use Rattle.rbd_layout.proofs.Limits.{Shape, shape_of}
use Rattle.rbd_layout.proofs.Mixed.{lex_lt, row_lt, off_lt, byt-obj-off, obj-byt, off-byt, set_lt, row_first, position_first, byt_mono, byt_mono_back, cases_lt, div_le}

pub byte_of_place : (l : Layout) → IsLayout l → (x : ℕ) → byte_at l (object_of l x) (offset_of l x) ≡ x
byte_of_place l h x =
    let s = shape_of l h in
    byt-obj-off l.unit l.count (units_per_object l) x (omega (arith, s.unit_least)) s.count_least s.units

pub object_of_byte : (l : Layout) → IsLayout l → (n o : ℕ) → o < l.object → object_of l (byte_at l n o) ≡ n
object_of_byte l h n o within =
    let s = shape_of l h in
    obj-byt l.unit l.count (units_per_object l) n o (omega (arith, s.unit_least)) s.count_least s.units (rw (← s.whole) within)

pub offset_of_byte : (l : Layout) → IsLayout l → (n o : ℕ) → o < l.object → offset_of l (byte_at l n o) ≡ o
offset_of_byte l h n o within =
    let s = shape_of l h in
    off-byt l.unit l.count (units_per_object l) n o (omega (arith, s.unit_least)) s.count_least s.units (rw (← s.whole) within)

pub offset_within : (l : Layout) → IsLayout l → (x : ℕ) → offset_of l x < l.object
offset_within l h x =
    let s = shape_of l h in
    let below : offset_of l x < units_per_object l * l.unit =
    off_lt l.unit l.count (units_per_object l) x (omega (arith, s.unit_least)) s.units in
    let whole : l.object ≡ units_per_object l * l.unit = s.whole in
    omega arith

pub ascends : (l : Layout) → IsLayout l → (n o q : ℕ) → o < q → byte_at l n o < byte_at l n q
ascends l h n o q less =
    let s = shape_of l h in
    byt_mono l.unit l.count (units_per_object l) n o q (omega (arith, s.unit_least)) s.count_least less

pub ascends_back : (l : Layout) → IsLayout l → (n o q : ℕ) → byte_at l n o < byte_at l n q → o < q
ascends_back l h n o q less =
    let s = shape_of l h in
    byt_mono_back l.unit l.count (units_per_object l) n o q (omega (arith, s.unit_least)) s.count_least less

pub first_at_most : (l : Layout) → IsLayout l → (n o : ℕ) → byte_at l n 0 ≤ byte_at l n o
first_at_most l h n o = go (cases_lt 0 o)
  where
    go : (0 < o) ⊎ ((0 ≡ o) ⊎ (o < 0)) → byte_at l n 0 ≤ byte_at l n o
    go (inl some) = let less : byte_at l n 0 < byte_at l n o = ascends l h n 0 o some in omega arith
    go (inr (inl e)) = let same : byte_at l n 0 ≡ byte_at l n o = ap (λ k. byte_at l n k) e in omega arith
    go (inr (inr no_)) = absurd (omega arith)

pub first_below : (l : Layout) → IsLayout l → (x : ℕ) → byte_at l (object_of l x) 0 ≤ x
first_below l h x =
    let a : byte_at l (object_of l x) 0 ≤ byte_at l (object_of l x) (offset_of l x) = first_at_most l h (object_of l x) (offset_of l x) in
    let e : byte_at l (object_of l x) (offset_of l x) ≡ x = byte_of_place l h x in
    omega arith

-- an object's number times the unit is at most each of its bytes
pub number_bounded : (l : Layout) → IsLayout l → (x : ℕ) → object_of l x * l.unit ≤ x
number_bounded l h x =
    let sets : stripe_of l x / units_per_object l ≤ stripe_of l x = div_le (stripe_of l x) (units_per_object l) in
    let product : stripe_of l x / units_per_object l * l.count ≤ stripe_of l x * l.count = mul-le-mul_right l.count sets in
    let block : stripe_of l x * l.count + position_of l x ≡ x / l.unit = div-add-mod' (x / l.unit) l.count in
    let number : object_of l x ≤ x / l.unit = omega arith in
    let times : object_of l x * l.unit ≤ x / l.unit * l.unit = mul-le-mul_right l.unit number in
    let low : x / l.unit * l.unit ≤ x = div-mul-le_self x l.unit in
    omega arith

-- ---- how many bytes of an object lie below a byte

-- every byte of an object in a lower set
pub held_all : (l : Layout) → IsLayout l → (n m : ℕ) → n / l.count < object_of l m / l.count → IsHeld l n m l.object
held_all l h n m lower = record {
  within = omega arith;
  each = λ o within. ((λ _. below o within), (λ _. within));
}
  where
    below : (o : ℕ) → o < l.object → byte_at l n o < m
    below o within =
        let s = shape_of l h in
        rw (← byte_of_place l h m) (set_lt l.unit l.count (units_per_object l) n o (object_of l m) (offset_of l m) (omega (arith, s.unit_least)) s.count_least lower (rw (← s.whole) within))

-- none of an object in a greater set
pub held_none : (l : Layout) → IsLayout l → (n m : ℕ) → object_of l m / l.count < n / l.count → IsHeld l n m 0
held_none l h n m greater = record {
  within = omega arith;
  each = λ o within. ((λ none. absurd (omega arith)), (λ less. absurd (omega (arith, less, above o))));
}
  where
    above : (o : ℕ) → m < byte_at l n o
    above o =
        let s = shape_of l h in
        let place : offset_of l m < l.object = offset_within l h m in
        let e : byte_at l (object_of l m) (offset_of l m) ≡ m = byte_of_place l h m in
        let less : byte_at l (object_of l m) (offset_of l m) < byte_at l n o =
        set_lt l.unit l.count (units_per_object l) (object_of l m) (offset_of l m) n o (omega (arith, s.unit_least)) s.count_least greater (rw (← s.whole) place) in
        omega arith

-- below the first byte of the image an object has none
pub held_at_start : (l : Layout) (n : ℕ) → IsHeld l n 0 0
held_at_start l n = record { within = omega arith; each = λ o _. ((λ less. absurd (not-suc-le-zero less)), (λ less. absurd (not-suc-le-zero less))) }

-- of the object itself, those before the byte
pub held_own : (l : Layout) → IsLayout l → (m : ℕ) → IsHeld l (object_of l m) m (offset_of l m)
held_own l h m = record {
  within = let b : offset_of l m < l.object = offset_within l h m in omega arith;
  each = λ o within. (forth o, back o);
}
  where
    forth : (o : ℕ) → o < offset_of l m → byte_at l (object_of l m) o < m
    forth o less =
        let e : byte_at l (object_of l m) (offset_of l m) ≡ m = byte_of_place l h m in
        let a : byte_at l (object_of l m) o < byte_at l (object_of l m) (offset_of l m) = ascends l h (object_of l m) o (offset_of l m) less in
        omega arith

    back : (o : ℕ) → byte_at l (object_of l m) o < m → o < offset_of l m
    back o less =
        let e : byte_at l (object_of l m) (offset_of l m) ≡ m = byte_of_place l h m in
        let a : byte_at l (object_of l m) o < byte_at l (object_of l m) (offset_of l m) = omega arith in
        ascends_back l h (object_of l m) o (offset_of l m) a

-- In one set an object before the byte's has its unit of the byte's row too ..
held_before_at : (l : Layout) → IsLayout l → (n m q : ℕ) → q < l.object → n / l.count ≡ m / l.count → n < m → IsHeld l n (byte_at l m q) (q / l.unit * l.unit + l.unit)
held_before_at l h n m q inside same before = record {
  within =
      let whole : l.object ≡ units_per_object l * l.unit = s.whole in
      let row : q / l.unit < units_per_object l = row_lt l.unit (units_per_object l) q unit (rw (← s.whole) inside) in
      let up : (q / l.unit + 1) * l.unit ≤ units_per_object l * l.unit = mul-le-mul_right l.unit (let g : q / l.unit + 1 ≤ units_per_object l = omega arith in g) in
      omega arith;
  each = λ o _. (forth o, back o);
}
  where
    s : Shape l
    s = shape_of l h

    unit : 0 < l.unit
    unit = omega (arith, s.unit_least)

    position : n % l.count < m % l.count
    position =
        let a : n / l.count * l.count + n % l.count ≡ n = div-add-mod' n l.count in
        let b : m / l.count * l.count + m % l.count ≡ m = div-add-mod' m l.count in
        let e : n / l.count * l.count ≡ m / l.count * l.count = ap (λ k. k * l.count) same in
        omega arith

    forth : (o : ℕ) → o < q / l.unit * l.unit + l.unit → byte_at l n o < byte_at l m q
    forth o less =
        let row : o / l.unit < q / l.unit + 1 = div_below o l.unit (q / l.unit + 1) unit (omega (arith, less)) in
        rows (cases_lt (o / l.unit) (q / l.unit)) row
      where
        rows : (o / l.unit < q / l.unit) ⊎ ((o / l.unit ≡ q / l.unit) ⊎ (q / l.unit < o / l.unit)) → o / l.unit < q / l.unit + 1 → byte_at l n o < byte_at l m q
        rows (inl lt) _ = row_first l.unit l.count (units_per_object l) n o m q unit s.count_least same lt
        rows (inr (inl e)) _ = position_first l.unit l.count (units_per_object l) n o m q unit same e position
        rows (inr (inr gt)) row = absurd (omega arith)

    back : (o : ℕ) → byte_at l n o < byte_at l m q → o < q / l.unit * l.unit + l.unit
    back o less = rows (cases_lt (q / l.unit) (o / l.unit))
      where
        whole : o / l.unit * l.unit + o % l.unit ≡ o
        whole = div-add-mod' o l.unit

        rest : o % l.unit < l.unit
        rest = mod-lt o unit

        low : o / l.unit ≤ q / l.unit → o < q / l.unit * l.unit + l.unit
        low le = let up : o / l.unit * l.unit ≤ q / l.unit * l.unit = mul-le-mul_right l.unit le in omega (arith, whole, rest)

        rows : (q / l.unit < o / l.unit) ⊎ ((q / l.unit ≡ o / l.unit) ⊎ (o / l.unit < q / l.unit)) → o < q / l.unit * l.unit + l.unit
        rows (inl gt) =
            let other : byte_at l m q < byte_at l n o = row_first l.unit l.count (units_per_object l) m q n o unit s.count_least (sym same) gt in
            absurd (omega (arith, less))
        rows (inr (inl e)) = low (omega arith)
        rows (inr (inr lt)) = low (omega arith)

-- .. and one after it doesn't
held_after_at : (l : Layout) → IsLayout l → (n m q : ℕ) → q < l.object → n / l.count ≡ m / l.count → m < n → IsHeld l n (byte_at l m q) (q / l.unit * l.unit)
held_after_at l h n m q inside same after = record {
  within = let low : q / l.unit * l.unit ≤ q = div-mul-le_self q l.unit in omega arith;
  each = λ o _. (forth o, back o);
}
  where
    s : Shape l
    s = shape_of l h

    unit : 0 < l.unit
    unit = omega (arith, s.unit_least)

    position : m % l.count < n % l.count
    position =
        let a : n / l.count * l.count + n % l.count ≡ n = div-add-mod' n l.count in
        let b : m / l.count * l.count + m % l.count ≡ m = div-add-mod' m l.count in
        let e : n / l.count * l.count ≡ m / l.count * l.count = ap (λ k. k * l.count) same in
        omega arith

    forth : (o : ℕ) → o < q / l.unit * l.unit → byte_at l n o < byte_at l m q
    forth o less = row_first l.unit l.count (units_per_object l) n o m q unit s.count_least same (div_below o l.unit (q / l.unit) unit less)

    back : (o : ℕ) → byte_at l n o < byte_at l m q → o < q / l.unit * l.unit
    back o less = rows (cases_lt (o / l.unit) (q / l.unit))
      where
        whole : o / l.unit * l.unit + o % l.unit ≡ o
        whole = div-add-mod' o l.unit

        rows : (o / l.unit < q / l.unit) ⊎ ((o / l.unit ≡ q / l.unit) ⊎ (q / l.unit < o / l.unit)) → o < q / l.unit * l.unit
        rows (inl lt) =
            let below : o / l.unit * l.unit + o % l.unit < q / l.unit * l.unit + 0 = lex_lt (o / l.unit) (q / l.unit) l.unit (o % l.unit) 0 lt (mod-lt o unit) in
            omega (arith, whole)
        rows (inr (inl e)) =
            let other : byte_at l m q < byte_at l n o = position_first l.unit l.count (units_per_object l) m q n o unit (sym same) (sym e) position in
            absurd (omega (arith, less))
        rows (inr (inr gt)) =
            let other : byte_at l m q < byte_at l n o = row_first l.unit l.count (units_per_object l) m q n o unit s.count_least (sym same) gt in
            absurd (omega (arith, less))

pub held_before : (l : Layout) → IsLayout l → (n m : ℕ) → n / l.count ≡ object_of l m / l.count → n < object_of l m → IsHeld l n m (offset_of l m / l.unit * l.unit + l.unit)
held_before l h n m same before =
    subst (λ (x : ℕ). IsHeld l n x (offset_of l m / l.unit * l.unit + l.unit)) (byte_of_place l h m)
    (held_before_at l h n (object_of l m) (offset_of l m) (offset_within l h m) same before)

pub held_after : (l : Layout) → IsLayout l → (n m : ℕ) → n / l.count ≡ object_of l m / l.count → object_of l m < n → IsHeld l n m (offset_of l m / l.unit * l.unit)
held_after l h n m same after =
    subst (λ (x : ℕ). IsHeld l n x (offset_of l m / l.unit * l.unit)) (byte_of_place l h m)
    (held_after_at l h n (object_of l m) (offset_of l m) (offset_within l h m) same after)

-- ---- how many objects a size has

-- a later byte lies in no earlier set
pub set_at_most : (l : Layout) → IsLayout l → (x m : ℕ) → x ≤ m → object_of l x / l.count ≤ object_of l m / l.count
set_at_most l h x m le = go (cases_lt (object_of l m / l.count) (object_of l x / l.count))
  where
    go : (object_of l m / l.count < object_of l x / l.count) ⊎ ((object_of l m / l.count ≡ object_of l x / l.count) ⊎ (object_of l x / l.count < object_of l m / l.count)) → object_of l x / l.count ≤ object_of l m / l.count
    go (inl gt) =
        let s = shape_of l h in
        let inside : offset_of l m < l.object = offset_within l h m in
        let less : byte_at l (object_of l m) (offset_of l m) < byte_at l (object_of l x) (offset_of l x) =
        set_lt l.unit l.count (units_per_object l) (object_of l m) (offset_of l m) (object_of l x) (offset_of l x) (omega (arith, s.unit_least)) s.count_least gt (rw (← s.whole) inside) in
        let a : byte_at l (object_of l m) (offset_of l m) ≡ m = byte_of_place l h m in
        let b : byte_at l (object_of l x) (offset_of l x) ≡ x = byte_of_place l h x in
        absurd (omega (arith, le))
    go (inr (inl e)) = omega arith
    go (inr (inr lt)) = omega arith

-- Where the last byte lies in its set's first row, the last object is the one that holds it.
pub count_of_short : (l : Layout) → IsLayout l → (size m : ℕ) → m + 1 ≡ size → offset_of l m < l.unit → IsObjectCount l size (object_of l m + 1)
count_of_short l h size m last short = record {
  none = λ e. absurd (omega arith);
  each = λ x less. each x less;
  greatest = λ _. (m, (let g : m < size = omega arith in g), refl);
}
  where
    s : Shape l
    s = shape_of l h

    unit : 0 < l.unit
    unit = omega (arith, s.unit_least)

    first_row : offset_of l m / l.unit < 1
    first_row = div_below (offset_of l m) l.unit 1 unit (omega (arith, short))

    at_m : byte_at l (object_of l m) (offset_of l m) ≡ m
    at_m = byte_of_place l h m

    whole_m : object_of l m / l.count * l.count + object_of l m % l.count ≡ object_of l m
    whole_m = div-add-mod' (object_of l m) l.count

    each : (x : ℕ) → x < size → object_of l x < object_of l m + 1
    each x less = sets (cases_lt (object_of l x / l.count) (object_of l m / l.count))
      where
        at_x : byte_at l (object_of l x) (offset_of l x) ≡ x
        at_x = byte_of_place l h x

        whole_x : object_of l x / l.count * l.count + object_of l x % l.count ≡ object_of l x
        whole_x = div-add-mod' (object_of l x) l.count

        positions : object_of l x / l.count ≡ object_of l m / l.count → offset_of l m / l.unit ≡ offset_of l x / l.unit
            → (object_of l x % l.count < object_of l m % l.count) ⊎ ((object_of l x % l.count ≡ object_of l m % l.count) ⊎ (object_of l m % l.count < object_of l x % l.count)) → object_of l x < object_of l m + 1
        positions e r (inl lt) =
            let sets_ : object_of l x / l.count * l.count ≡ object_of l m / l.count * l.count = ap (λ k. k * l.count) e in
            omega (arith, whole_x, whole_m)
        positions e r (inr (inl same)) =
            let sets_ : object_of l x / l.count * l.count ≡ object_of l m / l.count * l.count = ap (λ k. k * l.count) e in
            omega (arith, whole_x, whole_m)
        positions e r (inr (inr gt)) =
            let other : byte_at l (object_of l m) (offset_of l m) < byte_at l (object_of l x) (offset_of l x) =
            position_first l.unit l.count (units_per_object l) (object_of l m) (offset_of l m) (object_of l x) (offset_of l x) unit (sym e) r gt in
            absurd (omega (arith, at_x, at_m, less, last))

        rows : object_of l x / l.count ≡ object_of l m / l.count
            → (offset_of l m / l.unit < offset_of l x / l.unit) ⊎ ((offset_of l m / l.unit ≡ offset_of l x / l.unit) ⊎ (offset_of l x / l.unit < offset_of l m / l.unit)) → object_of l x < object_of l m + 1
        rows e (inl gt) =
            let other : byte_at l (object_of l m) (offset_of l m) < byte_at l (object_of l x) (offset_of l x) =
            row_first l.unit l.count (units_per_object l) (object_of l m) (offset_of l m) (object_of l x) (offset_of l x) unit s.count_least (sym e) gt in
            absurd (omega (arith, at_x, at_m, less, last))
        rows e (inr (inl r)) = positions e r (cases_lt (object_of l x % l.count) (object_of l m % l.count))
        rows e (inr (inr lt)) = absurd (omega (arith, first_row))

        sets : (object_of l x / l.count < object_of l m / l.count) ⊎ ((object_of l x / l.count ≡ object_of l m / l.count) ⊎ (object_of l m / l.count < object_of l x / l.count)) → object_of l x < object_of l m + 1
        sets (inl lt) =
            let below : object_of l x / l.count * l.count + object_of l x % l.count < object_of l m / l.count * l.count + object_of l m % l.count =
            lex_lt (object_of l x / l.count) (object_of l m / l.count) l.count (object_of l x % l.count) (object_of l m % l.count) lt (mod-lt (object_of l x) s.count_least) in
            omega (arith, whole_x, whole_m)
        sets (inr (inl e)) = rows e (cases_lt (offset_of l m / l.unit) (offset_of l x / l.unit))
        sets (inr (inr gt)) =
            let le : object_of l x / l.count ≤ object_of l m / l.count = set_at_most l h x m (omega arith) in
            absurd (omega arith)

-- the last object of a byte's set
abbrev last_of_set : Layout → ℕ → ℕ
last_of_set l m = object_of l m / l.count * l.count + (l.count - 1)

-- Elsewhere the set's first row is full, and its last object is the last one.
pub count_of_full : (l : Layout) → IsLayout l → (size m : ℕ) → m + 1 ≡ size → l.unit ≤ offset_of l m → IsObjectCount l size ((object_of l m / l.count + 1) * l.count)
count_of_full l h size m last full = record {
  none = λ e. absurd (omega arith);
  each = λ x less. each x less;
  greatest = λ _. (byte_at l (last_of_set l m) 0, (let g : byte_at l (last_of_set l m) 0 < size = omega (arith, first) in g), is_greatest);
}
  where
    s : Shape l
    s = shape_of l h

    unit : 0 < l.unit
    unit = omega (arith, s.unit_least)

    some : 0 < l.count
    some = omega (arith, s.count_least)

    size_ : 0 < l.object
    size_ = omega (arith, s.object_least)

    at_m : byte_at l (object_of l m) (offset_of l m) ≡ m
    at_m = byte_of_place l h m

    each : (x : ℕ) → x < size → object_of l x < (object_of l m / l.count + 1) * l.count
    each x less =
        let le : object_of l x / l.count ≤ object_of l m / l.count = set_at_most l h x m (omega arith) in
        let up : object_of l x / l.count * l.count ≤ object_of l m / l.count * l.count = mul-le-mul_right l.count le in
        let whole : object_of l x / l.count * l.count + object_of l x % l.count ≡ object_of l x = div-add-mod' (object_of l x) l.count in
        let rest : object_of l x % l.count < l.count = mod-lt (object_of l x) some in
        omega arith

    its_set : last_of_set l m / l.count ≡ object_of l m / l.count
    its_set = div-mul-add (object_of l m / l.count) l.count (l.count - 1) (omega arith)

    first_row : 0 / l.unit ≡ 0
    first_row = div-eq_of_lt unit

    later_row : 0 < offset_of l m / l.unit
    later_row = let one : 1 ≤ offset_of l m / l.unit = le-div 1 (offset_of l m) l.unit unit (omega (arith, full)) in omega arith

    first : byte_at l (last_of_set l m) 0 < m
    first =
        let less : byte_at l (last_of_set l m) 0 < byte_at l (object_of l m) (offset_of l m) =
        row_first l.unit l.count (units_per_object l) (last_of_set l m) 0 (object_of l m) (offset_of l m) unit s.count_least its_set (rw first_row later_row) in
        omega (arith, at_m)

    is_greatest : object_of l (byte_at l (last_of_set l m) 0) + 1 ≡ (object_of l m / l.count + 1) * l.count
    is_greatest =
        let e : object_of l (byte_at l (last_of_set l m) 0) ≡ last_of_set l m = object_of_byte l h (last_of_set l m) 0 size_ in
        omega (arith, e, some)

-- the products of `back` are at most its result
pub back_fits : (l : Layout) → IsLayout l → (n o limit : ℕ) → byte_at l n o < limit
    → ((n / l.count * units_per_object l + o / l.unit) < limit) × (((n / l.count * units_per_object l + o / l.unit) * l.count + n % l.count) < limit)
back_fits l h n o limit fits =
    let s = shape_of l h in
    let a : (n / l.count * units_per_object l + o / l.unit) * 1 ≤ (n / l.count * units_per_object l + o / l.unit) * l.count = mul-le-mul_left (n / l.count * units_per_object l + o / l.unit) s.count_least in
    let unit : 1 ≤ l.unit = omega (arith, s.unit_least) in
    let b : ((n / l.count * units_per_object l + o / l.unit) * l.count + n % l.count) * 1 ≤ ((n / l.count * units_per_object l + o / l.unit) * l.count + n % l.count) * l.unit = mul-le-mul_left ((n / l.count * units_per_object l + o / l.unit) * l.count + n % l.count) unit in
    let block : (n / l.count * units_per_object l + o / l.unit) * l.count + n % l.count < limit = omega arith in
    let stripe : n / l.count * units_per_object l + o / l.unit < limit = omega arith in
    (stripe, block)

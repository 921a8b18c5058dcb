-- How many objects a size has, and whether they are few.
use Rattle.std.proofs.Common.{◌≡◌, ℕ, zero, suc, ◌+◌, ◌-◌, ◌*◌, ◌/◌, ◌%◌, ◌<◌, ◌≤◌, ◌⊎◌, ◌↔◌, inl, inr, refl, sym, subst, ap, ◌∙◌, arith, List, [], ◌∷◌, map, length, Bool, true, false, cond, if◌then◌else◌, All, Some, None}
use Rattle.std.specs.Prelude.{Any, filter, nat_lt}
use Rattle.std.specs.List.{range_with_len}
use Rattle.std.proofs.lemmas.Bool.{cases_lt, lt-ltb, le-ltb, le-leb, leb-true}
use Rattle.std.proofs.lemmas.Nat.{div-add-mod'}
use Rattle.std.proofs.Math.Nat.{zero-div, mul-le-mul_left}
use Rattle.rbd_commands.specs.declared.refusal.Refusal.TheVariants as refusal
use Rattle.rbd_kinds.specs.declared.header.HeaderView.{HeaderView}
use Rattle.rbd_kinds.specs.declared.layout.Extent.{Extent}
use Rattle.rbd_kinds.specs.declared.layout.Layout.{Layout}
use Rattle.rbd_kinds.specs.declared.layout.Part.{Part}
use Rattle.rbd_kinds.specs.Form.{HasFewObjects}
use Rattle.rbd_kinds.specs.Striping.{IsLayout, IsObjectCount, byte_at, object_of, offset_of}
use Rattle.rbd_layout.specs.declared.types.Piece.{Piece}
use Rattle.rbd_layout.specs.Pieces.{IsIn, IsPart, IsPartsOf, is_touched, piece_in}
use Rattle.rbd_layout.proofs.Derived.{Any-here, Any-none, counted_begin, parts_cover}
use Rattle.rbd_layout.proofs.Limits.{shape_of}
use Rattle.rbd_layout.proofs.Listed.{parts_listed}
use Rattle.rbd_layout.proofs.Places.{count_of_full, count_of_short, number_bounded, object_of_byte}
use Rattle.rbd_machine.specs.Steps.{non_primary}
use Rattle.rbd_machine.proofs.Lawful.{or_else_none}
use Rattle.rbd_meaning.specs.Resizes.{has_few_objects, resize_refuses}
use Rattle.rbd_meaning.specs.Count.{object_count}

-- ---- the first byte of an object, of any layout

by_sets : (sets position objects rest unit count z y n object : ℕ) → sets * count + position ≡ n → objects * unit + rest ≡ object → z ≡ 0 → y ≡ 0
    → (n - position) * (object - rest) + position * unit ≡ ((sets * objects + z) * count + position) * unit + y
by_sets sets position objects rest unit count z y n object first second none nothing =
    let a : n - position ≡ sets * count = omega (arith, first) in
    let b : object - rest ≡ objects * unit = omega (arith, second) in
    rw (a, b, none, nothing) (omega arith)

pub first_byte : (l : Layout) (n : ℕ) → (n - n % l.count) * (l.object - l.object % l.unit) + n % l.count * l.unit ≡ byte_at l n 0
first_byte l n =
    let none : 0 / l.unit ≡ 0 = zero-div l.unit in
    let whole : 0 / l.unit * l.unit + 0 % l.unit ≡ 0 = div-add-mod' 0 l.unit in
    let nothing : 0 % l.unit ≡ 0 = omega (arith, whole) in
    by_sets (n / l.count) (n % l.count) (l.object / l.unit) (l.object % l.unit) l.unit l.count (0 / l.unit) (0 % l.unit) n l.object
    (div-add-mod' n l.count) (div-add-mod' l.object l.unit) none nothing

-- ---- the number of objects

no_fewer : (l : Layout) (size few many : ℕ) → IsObjectCount l size few → IsObjectCount l size many → few ≤ many
no_fewer l zero few many counts also = let none = counts.none refl in omega (arith, none)
no_fewer l (suc n) few many counts also =
    let (x, below, is) = counts.greatest (omega arith) in
    let within = also.each x below in
    omega (arith, is, within)

-- a size has one number of objects
pub one_count : (l : Layout) (size one other : ℕ) → IsObjectCount l size one → IsObjectCount l size other → one ≡ other
one_count l size one other counts also =
    let less = no_fewer l size one other counts also in
    let more = no_fewer l size other one also counts in
    omega (arith, less, more)

pub record Counted (l : Layout) (size : ℕ) : Type 0 where
  pub count : ℕ
  pub is : IsObjectCount l size count

pub counted : (l : Layout) → IsLayout l → (size : ℕ) → Counted l size
counted l is zero = record {
  count = 0;
  is = record {
    none = λ e. refl;
    each = λ x less. absurd (omega (arith, less));
    greatest = λ some. absurd (omega (arith, some));
  };
}
counted l is (suc last) = go (cases_lt (offset_of l last) l.unit)
  where
    one : last + 1 ≡ suc last
    one = omega arith

    go : (offset_of l last < l.unit) ⊎ (l.unit ≤ offset_of l last) → Counted l (suc last)
    go (inl short) = record { count = object_of l last + 1; is = count_of_short l is (suc last) last one short }
    go (inr full) = record { count = (object_of l last / l.count + 1) * l.count; is = count_of_full l is (suc last) last one full }

-- ---- the pieces of a size

abbrev all_below : (size : ℕ) → Extent
all_below size = record { at = 0; len = size }

some_parts : (x : ℕ) (parts : List Part) → Any (IsIn x) parts → 0 < length parts
some_parts x [] any = absurd (Any-none (IsIn x) any)
some_parts x (p ∷ parts) any = omega arith

first_part : (l : Layout) (object : ℕ) (p : Part) (parts : List Part) → All (IsPart l object) (p ∷ parts) → 0 < p.len
first_part l object p parts each = (each 0 p (omega arith)).some

module _ (l : Layout) (is : IsLayout l) (size count : ℕ) (counts : IsObjectCount l size count) where
  has_parts : (n : ℕ) → n < count → 0 < length (piece_in l (all_below size) n).parts
  has_parts n less =
      let s = shape_of l is in
      let some : 0 < l.object = omega (arith, s.object_least) in
      let below : byte_at l n 0 < size = (counted_begin l is size count n counts).0 less in
      let here : object_of l (byte_at l n 0) ≡ n = object_of_byte l is n 0 some in
      let within : byte_at l n 0 < 0 + size = omega (arith, below) in
      let least : 0 ≤ byte_at l n 0 = omega arith in
      let parts = (piece_in l (all_below size) n).parts in
      some_parts (byte_at l n 0) parts ((parts_cover l (all_below size) n parts (parts_listed l is (all_below size) n) (byte_at l n 0)).1 ((least, within), here))

  is_below : (n : ℕ) (parts : List Part) → IsPartsOf l (all_below size) n parts → 0 < length parts → n < count
  is_below n [] are some = absurd (omega (arith, some))
  is_below n (p ∷ parts) are some =
      let long : 0 < p.len = first_part l n p parts are.each in
      let more : p.at < p.at + p.len = omega (arith, long) in
      let least : p.at ≤ p.at = omega arith in
      let there = (parts_cover l (all_below size) n (p ∷ parts) are p.at).0 (Any-here (IsIn p.at) p parts (least, more)) in
      let within : p.at < 0 + size = there.0.1 in
      let below : object_of l p.at < count = counts.each p.at (omega (arith, within)) in
      subst (λ k. k < count) there.1 below

  touched : (n : ℕ) → is_touched (piece_in l (all_below size) n) ≡ nat_lt n count
  touched n = go (cases_lt n count)
    where
      parts : List Part
      parts = (piece_in l (all_below size) n).parts

      none : count ≤ n → length parts ≤ 0
      none most = rest (cases_lt 0 (length parts))
        where
          rest : (0 < length parts) ⊎ (length parts ≤ 0) → length parts ≤ 0
          rest (inl some) = let less : n < count = is_below n parts (parts_listed l is (all_below size) n) some in absurd (omega (arith, most, less))
          rest (inr few) = few

      go : (n < count) ⊎ (count ≤ n) → is_touched (piece_in l (all_below size) n) ≡ nat_lt n count
      go (inl less) = lt-ltb 0 (length parts) (has_parts n less) ∙ sym (lt-ltb n count less)
      go (inr most) = le-ltb 0 (length parts) (none most) ∙ sym (le-ltb n count most)

  kept : (len a : ℕ) → count ≤ a + len → length (filter is_touched (map (piece_in l (all_below size)) (range_with_len a len))) ≡ count - a
  kept zero a all = omega (arith, all)
  kept (suc len) a all = go (cases_lt a count) (kept len (a + 1) (omega (arith, all)))
    where
      others : List Piece
      others = filter is_touched (map (piece_in l (all_below size)) (range_with_len (a + 1) len))

      go : (a < count) ⊎ (count ≤ a) → length others ≡ count - (a + 1) → length (filter is_touched (piece_in l (all_below size) a ∷ map (piece_in l (all_below size)) (range_with_len (a + 1) len))) ≡ count - a
      go (inl less) later =
          let this : is_touched (piece_in l (all_below size) a) ≡ true = touched a ∙ lt-ltb a count less in
          ap (λ b. length (cond b (piece_in l (all_below size) a ∷ others) others)) this ∙ omega (arith, later, less)
      go (inr most) later =
          let this : is_touched (piece_in l (all_below size) a) ≡ false = touched a ∙ le-ltb a count most in
          ap (λ b. length (cond b (piece_in l (all_below size) a ∷ others) others)) this ∙ omega (arith, later, most)

  no_more : count ≤ size
  no_more = go (cases_lt 0 size)
    where
      go : (0 < size) ⊎ (size ≤ 0) → count ≤ size
      go (inr none) = let empty : count ≡ 0 = counts.none (omega (arith, none)) in omega (arith, empty)
      go (inl some) =
          let (x, below, greatest) = counts.greatest some in
          let s = shape_of l is in
          let product : object_of l x * l.unit ≤ x = number_bounded l is x in
          let unit : 1 ≤ l.unit = omega (arith, s.unit_least) in
          let times : object_of l x * 1 ≤ object_of l x * l.unit = mul-le-mul_left (object_of l x) unit in
          omega (arith, below, greatest, product, times)

  pub is_count : object_count l size ≡ count
  is_count =
      let enough : count ≤ 0 + (0 + size) = omega (arith, no_more) in
      kept (0 + size) 0 enough ∙ omega arith

pub counts : (l : Layout) (size : ℕ) → IsLayout l → IsObjectCount l size (object_count l size)
counts l size is = let c = counted l is size in subst (IsObjectCount l size) (sym (is_count l is size c.count c.is)) c.is

-- ---- few objects

few_by_first : (l : Layout) → IsLayout l → (size : ℕ) → size ≤ byte_at l 1048576 0 → HasFewObjects l size
few_by_first l is size most = λ x less.
    let c = counted l is size in
    let below : object_of l x < c.count = c.is.each x less in
    let limit : c.count ≤ 1048576 = at_most (cases_lt 1048576 c.count) in
    omega (arith, below, limit)
  where
    at_most : (1048576 < (counted l is size).count) ⊎ ((counted l is size).count ≤ 1048576) → (counted l is size).count ≤ 1048576
    at_most (inl more) =
        let c = counted l is size in
        let there : byte_at l 1048576 0 < size = (counted_begin l is size c.count 1048576 c.is).0 more in
        absurd (omega (arith, most, there))
    at_most (inr limit) = limit

first_by_few : (l : Layout) → IsLayout l → (size : ℕ) → HasFewObjects l size → size ≤ byte_at l 1048576 0
first_by_few l is size few = go (cases_lt (byte_at l 1048576 0) size)
  where
    go : (byte_at l 1048576 0 < size) ⊎ (size ≤ byte_at l 1048576 0) → size ≤ byte_at l 1048576 0
    go (inl less) =
        let s = shape_of l is in
        let some : 0 < l.object = omega (arith, s.object_least) in
        let below : object_of l (byte_at l 1048576 0) < 1048576 = few (byte_at l 1048576 0) less in
        let here : object_of l (byte_at l 1048576 0) ≡ 1048576 = object_of_byte l is 1048576 0 some in
        absurd (omega (arith, below, here))
    go (inr most) = most

pub few_decides : (l : Layout) (size : ℕ) → IsLayout l → (has_few_objects l size ≡ true) ↔ HasFewObjects l size
few_decides l size is = (
  λ told. few_by_first l is size (leb-true size (byte_at l 1048576 0) told),
  λ few. le-leb size (byte_at l 1048576 0) (first_by_few l is size few),
)

-- ---- what a size that isn't refused has

few_where : (l : Layout) (b : Bool) → (if b then None else Some refusal.BadShape) ≡ None → b ≡ true
few_where l true is = refl
few_where l false is = cc

pub size_is_few : (to : ℕ) (h : HeaderView) → IsLayout h.layout → resize_refuses to h ≡ None → HasFewObjects h.layout to
size_is_few to h is may = (few_decides h.layout to is).0 (few_where h.layout (has_few_objects h.layout to) (or_else_none (non_primary h.role) (if has_few_objects h.layout to then None else Some refusal.BadShape) may))

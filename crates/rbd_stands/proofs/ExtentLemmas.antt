-- The image bytes of parts, as extents.
use Rattle.std.proofs.Common.{Bool, true, false, ◌≡◌, ◌≢◌, ℕ, ◌+◌, ◌-◌, ◌*◌, ◌/◌, ◌%◌, ◌<◌, ◌≤◌, ◌⊎◌, inl, inr, refl, sym, ap, subst, ◌∙◌, cond, eqb, arith, zero, suc, List, [], ◌∷◌, ◌++◌, map, min, append_assoc}
use Rattle.std.specs.List.{range_with_len}
use Rattle.std.proofs.lemmas.Bool.{eq-eqb, eqb-true, ne_eqb}
use Rattle.std.proofs.lemmas.List.{map-append}
use Rattle.std.proofs.Math.Nat.{div_self, mul-le-mul_right, mod-lt}
use Rattle.std.proofs.lemmas.Nat.{div-add-mod'}
use Rattle.rbd_kinds.specs.declared.layout.Extent.{Extent}
use Rattle.rbd_kinds.specs.declared.layout.Layout.{Layout}
use Rattle.rbd_kinds.specs.declared.layout.Part.{Part}
use Rattle.rbd_kinds.specs.Striping.{IsLayout, byte_at, units_per_object}
use Rattle.rbd_kinds.proofs.Plain.{range_append}
use Rattle.rbd_flat.specs.Series.{extents_from, extents_in}
use Rattle.rbd_flat.specs.declared.extents.Series.{Series}
use Rattle.rbd_layout.specs.Pieces.{IsHeld, part_at, parts_at, with_place}
use Rattle.rbd_layout.proofs.Cover.{cover, map-range}
use Rattle.rbd_layout.proofs.Limits.{Shape, shape_of}
use Rattle.rbd_layout.proofs.Mixed.{cases_lt}
use Rattle.rbd_layout.proofs.Places.{held_at_start}
use Rattle.rbd_layout.proofs.Walk.{next_row, same_row, whole_object as linear}
use Rattle.rbd_stands.specs.Condition.{extents_of}
use Rattle.rbd_stands.specs.Effect.{joined_extents, places_below, whole_object}
use Rattle.rbd_stands.specs.Kept.{IsHeldBelow, IsSeriesFrom, extents_between, kept_len, run_from}
use Rattle.rbd_stands.proofs.HeldLemmas.{part_places}

-- ---- places one after another are one extent

-- the places don't go on at x
abbrev Apart : ℕ → List ℕ → Type 0
Apart x [] = Unit {0}
Apart x (y ∷ ys) = x ≢ y

-- the first part of some places begins at the first place
first_part : (l : Layout) (y : ℕ) (parts : List Part) → (len : ℕ) × (rest : List Part) × (with_place l y parts ≡ part_at l y len ∷ rest)
first_part l y [] = (1, [], refl)
first_part l y (p ∷ parts) = go (eqb (y + 1) p.at) refl
  where
    go : (b : Bool) → eqb (y + 1) p.at ≡ b → (len : ℕ) × (rest : List Part) × (with_place l y (p ∷ parts) ≡ part_at l y len ∷ rest)
    go true is = (p.len + 1, parts, ap (λ b. cond b (part_at l y (p.len + 1) ∷ parts) (part_at l y 1 ∷ p ∷ parts)) is)
    go false is = (1, p ∷ parts, ap (λ b. cond b (part_at l y (p.len + 1) ∷ parts) (part_at l y 1 ∷ p ∷ parts)) is)

alone : (l : Layout) (x : ℕ) (ys : List ℕ) → Apart (x + 1) ys → with_place l x (parts_at l ys) ≡ part_at l x 1 ∷ parts_at l ys
alone l x [] apart = refl
alone l x (y ∷ ys) apart =
    let first = first_part l y (parts_at l ys) in
    ap (with_place l x) first.2
    ∙ ap (λ b. cond b (part_at l x (first.0 + 1) ∷ first.1) (part_at l x 1 ∷ part_at l y first.0 ∷ first.1)) (ne_eqb (x + 1) y apart)
    ∙ ap (λ ps. part_at l x 1 ∷ ps) (sym first.2)

one_part : (l : Layout) (at len : ℕ) (ys : List ℕ) → Apart (at + suc len) ys → parts_at l (range_with_len at (suc len) ++ ys) ≡ part_at l at (suc len) ∷ parts_at l ys
one_part l at zero ys apart = alone l at ys (subst (λ x. Apart x ys) one apart)
  where
    one : at + suc 0 ≡ at + 1
    one = omega arith
one_part l at (suc len) ys apart =
    ap (with_place l at) (one_part l (at + 1) len ys (subst (λ x. Apart x ys) on apart))
    ∙ ap (λ b. cond b (part_at l at (suc len + 1) ∷ parts_at l ys) (part_at l at 1 ∷ part_at l (at + 1) (suc len) ∷ parts_at l ys)) (eq-eqb (at + 1) (at + 1) refl)
    ∙ ap (λ n. part_at l at n ∷ parts_at l ys) more
  where
    more : suc len + 1 ≡ suc (suc len)
    more = omega arith

    on : at + suc (suc len) ≡ (at + 1) + suc len
    on = omega arith

one_extent : (l : Layout) (at len : ℕ) (ys : List ℕ) → 0 < len → Apart (at + len) ys → joined_extents l (range_with_len at len ++ ys) ≡ record { at = at; len = len } ∷ joined_extents l ys
one_extent l at zero ys some apart = absurd (omega arith)
one_extent l at (suc len) ys some apart = ap extents_of (one_part l at len ys apart)

-- ---- runs of an object

along_all : (l : Layout) → l.count ≡ 1 → (n o k : ℕ) → byte_at l n (o + k) ≡ byte_at l n o + k
along_all l one n o k =
    let a : byte_at l n (o + k) ≡ n * units_per_object l * l.unit + (o + k) = linear l one n (o + k) in
    let b : byte_at l n o ≡ n * units_per_object l * l.unit + o = linear l one n o in
    omega arith

along_unit : (l : Layout) (n o k : ℕ) → o % l.unit + k < l.unit → byte_at l n (o + k) ≡ byte_at l n o + k
along_unit l n o k inside =
    let digits = same_row l.unit o k inside in
    rw (digits.0, digits.1) (omega arith)

after_unit : (l : Layout) → 0 < l.unit → 2 ≤ l.count → (n o k : ℕ) → o % l.unit + k ≡ l.unit → byte_at l n o + k < byte_at l n (o + k)
after_unit l some two n o k ends =
    let digits = next_row l.unit o k some ends in
    let gap : 2 * l.unit ≤ l.count * l.unit = mul-le-mul_right l.unit two in
    rw (digits.0, digits.1) (omega arith)

-- what holds of a run: it isn't empty, it lies together, and what is left doesn't go on
record IsRun (l : Layout) (n o end len : ℕ) : Type 0 where
  some : 0 < len
  within : o + len ≤ end
  along : (k : ℕ) → k < len → byte_at l n (o + k) ≡ byte_at l n o + k
  apart : o + len < end → byte_at l n o + len ≢ byte_at l n (o + len)

is_run : (l : Layout) → IsLayout l → (n o end : ℕ) → o < end → IsRun l n o end (run_from l o end)
is_run l is n o end less = go (cases_lt 1 l.count)
  where
    s : Shape l
    s = shape_of l is

    unit : 0 < l.unit
    unit = omega (arith, s.unit_least)

    all : l.count ≡ 1 → IsRun l n o end (run_from l o end)
    all one = subst (IsRun l n o end) (sym is_all) (record {
      some = omega arith;
      within = omega arith;
      along = λ k _. along_all l one n o k;
      apart = λ more. absurd (omega arith);
    })
      where
        is_all : run_from l o end ≡ end - o
        is_all = ap (λ b. cond b (end - o) (min (l.unit - o % l.unit) (end - o))) (eq-eqb l.count 1 one)

    units : 1 < l.count → IsRun l n o end (run_from l o end)
    units two = subst (IsRun l n o end) (sym is_unit) (record {
      some = omega (arith, rest);
      within = omega arith;
      along = λ k inside. along_unit l n o k (omega (arith, rest));
      apart = λ more. let gap : byte_at l n o + (l.unit - o % l.unit) < byte_at l n (o + (l.unit - o % l.unit)) = after_unit l unit (omega arith) n o (l.unit - o % l.unit) (omega (arith, rest)) in
          let own : min (l.unit - o % l.unit) (end - o) ≡ l.unit - o % l.unit = omega arith in
          subst (λ k. byte_at l n o + k ≢ byte_at l n (o + k)) (sym own) (λ same. omega arith);
    })
      where
        rest : o % l.unit < l.unit
        rest = mod-lt o unit

        is_unit : run_from l o end ≡ min (l.unit - o % l.unit) (end - o)
        is_unit = ap (λ b. cond b (end - o) (min (l.unit - o % l.unit) (end - o))) (ne_eqb l.count 1 (λ one. omega arith))

    go : (1 < l.count) ⊎ ((1 ≡ l.count) ⊎ (l.count < 1)) → IsRun l n o end (run_from l o end)
    go (inl more) = units more
    go (inr (inl one)) = all (sym one)
    go (inr (inr none)) = absurd (omega (arith, s.count_least))

pub run_positive : (l : Layout) → IsLayout l → (o end : ℕ) → o < end → (0 < run_from l o end) × (o + run_from l o end ≤ end)
run_positive l is o end less = let run = is_run l is 0 o end less in (run.some, run.within)

-- what a run adds, and what is left
pub next_extent : (l : Layout) → IsLayout l → (n o end : ℕ) → o < end
    → extents_between l n o end ≡ record { at = byte_at l n o; len = run_from l o end } ∷ extents_between l n (o + run_from l o end) end
next_extent l is n o end less = split (run_from l o end) (is_run l is n o end less)
  where
    split : (len : ℕ) → IsRun l n o end len → extents_between l n o end ≡ record { at = byte_at l n o; len = len } ∷ extents_between l n (o + len) end
    split len run =
        ap (λ k. joined_extents l (map (byte_at l n) (range_with_len o k))) count
        ∙ ap (λ xs. joined_extents l (map (byte_at l n) xs)) (range_append o len (end - (o + len)))
        ∙ ap (joined_extents l) (map-append (byte_at l n) (range_with_len o len) (range_with_len (o + len) (end - (o + len))))
        ∙ ap (λ xs. joined_extents l (xs ++ map (byte_at l n) (range_with_len (o + len) (end - (o + len))))) (map-range (byte_at l n) o (byte_at l n o) len run.along)
        ∙ one_extent l (byte_at l n o) len (map (byte_at l n) (range_with_len (o + len) (end - (o + len)))) run.some (left (end - (o + len)) refl)
      where
        count : end - o ≡ len + (end - (o + len))
        count = let within : o + len ≤ end = run.within in omega arith

        left : (k : ℕ) → end - (o + len) ≡ k → Apart (byte_at l n o + len) (map (byte_at l n) (range_with_len (o + len) k))
        left zero is = tt
        left (suc k) is = run.apart (omega arith)

pub no_extents : (l : Layout) (n o end : ℕ) → end ≤ o → extents_between l n o end ≡ []
no_extents l n o end past =
    let none : end - o ≡ 0 = omega arith in
    ap (λ k. joined_extents l (map (byte_at l n) (range_with_len o k))) none

-- ---- a whole object

held_within : (l : Layout) (n size held : ℕ) → IsHeldBelow l n size held → IsHeld l n size (min held l.object)
held_within l n size held is = record {
  within = omega arith;
  each = λ o within. ((λ less. (is.each o).0 (omega arith)), (λ below. let low : o < held = (is.each o).1 below in omega arith));
}

pub whole_places : (l : Layout) → IsLayout l → (size n held : ℕ) → IsHeldBelow l n size held → extents_between l n 0 (min held l.object) ≡ whole_object l size n
whole_places l is size n held below =
    ap (joined_extents l) (sym (cover l is n 0 size 0 (min held l.object) (held_at_start l n) (subst (λ (x : ℕ). IsHeld l n x (min held l.object)) from_none (held_within l n size held below))))
  where
    from_none : size ≡ 0 + size
    from_none = omega arith

-- ---- a part

pub no_places : (l : Layout) (n size held : ℕ) → IsHeldBelow l n size held → (p : Part) → kept_len held p ≡ 0 → joined_extents l (places_below l size n p) ≡ []
no_places l n size held is p none =
    ap (joined_extents l) (part_places l n size held is p) ∙ ap (λ k. joined_extents l (map (byte_at l n) (range_with_len p.offset k))) none

pub kept_places : (l : Layout) (n size held kept : ℕ) → IsHeldBelow l n size held → (p : Part) → kept ≡ kept_len held p
    → extents_between l n p.offset (p.offset + kept) ≡ joined_extents l (places_below l size n p)
kept_places l n size held kept is p same =
    let count : p.offset + kept - p.offset ≡ kept = omega arith in
    ap (λ k. joined_extents l (map (byte_at l n) (range_with_len p.offset k))) (count ∙ same) ∙ ap (joined_extents l) (sym (part_places l n size held is p))

-- ---- units of an object, one in each stripe

-- an extent of its own
one_series : (l : Layout) → IsLayout l → (n o end step : ℕ) → o < end
    → IsSeriesFrom l n o end (record { first = record { at = byte_at l n o; len = run_from l o end }; step = step; count = 1 })
one_series l is n o end step less = record {
  some = let some : 0 < run_from l o end = run.0 in omega arith;
  within = let within : o + run_from l o end ≤ end = run.1 in omega arith;
  first = next_extent l is n o end less ∙ ap (λ k. record { at = byte_at l n o; len = run_from l o end } ∷ extents_between l n k end) once;
}
  where
    run : (0 < run_from l o end) × (o + run_from l o end ≤ end)
    run = run_positive l is o end less

    once : o + run_from l o end ≡ o + run_from l o end * 1
    once = omega arith

-- a unit further on in the object is a stripe further on in the image
next_unit : (l : Layout) → 0 < l.unit → (n o : ℕ) → o % l.unit ≡ 0 → (byte_at l n (o + l.unit) ≡ byte_at l n o + l.unit * l.count) × ((o + l.unit) % l.unit ≡ 0)
next_unit l some n o begins =
    let digits = next_row l.unit o l.unit some (let e : o % l.unit + l.unit ≡ l.unit = omega arith in e) in
    (rw (digits.0, digits.1) (omega arith), digits.1)

-- a unit that the end leaves whole lies together
unit_whole : (l : Layout) → l.count ≢ 1 → (o end : ℕ) → o % l.unit ≡ 0 → o + l.unit ≤ end → run_from l o end ≡ l.unit
unit_whole l more o end begins fits = ap (λ b. cond b (end - o) (min (l.unit - o % l.unit) (end - o))) (ne_eqb l.count 1 more) ∙ least
  where
    least : min (l.unit - o % l.unit) (end - o) ≡ l.unit
    least = omega arith

whole_units : (l : Layout) → IsLayout l → l.count ≢ 1 → (n o end m : ℕ) → o % l.unit ≡ 0 → o + l.unit * m ≤ end
    → extents_between l n o end ≡ extents_from (record { at = byte_at l n o; len = l.unit }) (l.unit * l.count) m ++ extents_between l n (o + l.unit * m) end
whole_units l is more n o end zero begins fits = ap (λ k. extents_between l n k end) here
  where
    here : o ≡ o + l.unit * 0
    here = omega arith
whole_units l is more n o end (suc m) begins fits =
    next_extent l is n o end less
    ∙ (λ i. record { at = byte_at l n o; len = whole i } ∷ extents_between l n (o + whole i) end)
    ∙ ap (λ xs. record { at = byte_at l n o; len = l.unit } ∷ xs) (whole_units l is more n (o + l.unit) end m next.1 (omega arith)
    ∙ (λ i. extents_from (record { at = next.0 i; len = l.unit }) (l.unit * l.count) m ++ extents_between l n (behind i) end))
  where
    some : 0 < l.unit
    some = let s = shape_of l is in omega (arith, s.unit_least)

    first : o + l.unit ≤ end
    first = omega arith

    less : o < end
    less = omega (arith, some, first)

    whole : run_from l o end ≡ l.unit
    whole = unit_whole l more o end begins first

    next : (byte_at l n (o + l.unit) ≡ byte_at l n o + l.unit * l.count) × ((o + l.unit) % l.unit ≡ 0)
    next = next_unit l some n o begins

    behind : o + l.unit + l.unit * m ≡ o + l.unit * suc m
    behind = omega arith

unit_series : (l : Layout) → IsLayout l → l.count ≢ 1 → (n o end : ℕ) → o % l.unit ≡ 0 → l.unit ≤ end - o
    → IsSeriesFrom l n o end (record { first = record { at = byte_at l n o; len = l.unit }; step = l.unit * l.count; count = (end - o) / l.unit })
unit_series l is more n o end begins fits = record {
  some = omega (arith, rest, below);
  within = within;
  first = whole_units l is more n o end ((end - o) / l.unit) begins within;
}
  where
    some : 0 < l.unit
    some = let s = shape_of l is in omega (arith, s.unit_least)

    rest : (end - o) / l.unit * l.unit + (end - o) % l.unit ≡ end - o
    rest = div-add-mod' (end - o) l.unit

    below : (end - o) % l.unit < l.unit
    below = mod-lt (end - o) some

    within : o + l.unit * ((end - o) / l.unit) ≤ end
    within = omega (arith, rest, some)

-- what lies together from an offset on, and all whole units behind it where that is one
pub is_series : (l : Layout) → IsLayout l → (n o end at len count : ℕ) → o < end → at ≡ byte_at l n o → len ≡ run_from l o end
    → count ≡ cond (eqb len l.unit) ((end - o) / len) 1
    → IsSeriesFrom l n o end (record { first = record { at = at; len = len }; step = l.unit * l.count; count = count })
is_series l is n o end at len count less is_at is_len is_count =
    subst (λ a. IsSeriesFrom l n o end (record { first = record { at = a; len = len }; step = l.unit * l.count; count = count })) (sym is_at)
    (subst (IsMade len) (sym is_count)
    (subst (λ k. IsMade k (cond (eqb k l.unit) ((end - o) / k) 1)) (sym is_len) (go (eqb (run_from l o end) l.unit) refl)))
  where
    IsMade : (len count : ℕ) → Type 0
    IsMade len count = IsSeriesFrom l n o end (record { first = record { at = byte_at l n o; len = len }; step = l.unit * l.count; count = count })

    once : (count : ℕ) → 1 ≡ count → IsMade (run_from l o end) count
    once count one = subst (IsMade (run_from l o end)) one (one_series l is n o end (l.unit * l.count) less)

    units : run_from l o end ≡ l.unit → (1 < l.count) ⊎ ((1 ≡ l.count) ⊎ (l.count < 1)) → IsMade (run_from l o end) ((end - o) / run_from l o end)
    units whole (inl more) = subst (λ k. IsMade k ((end - o) / k)) (sym whole) (unit_series l is not_one n o end (omega (arith, some, below, least)) (omega (arith, least)))
      where
        not_one : l.count ≢ 1
        not_one one = omega arith

        least : min (l.unit - o % l.unit) (end - o) ≡ l.unit
        least = sym (ap (λ b. cond b (end - o) (min (l.unit - o % l.unit) (end - o))) (ne_eqb l.count 1 not_one)) ∙ whole

        some : 0 < l.unit
        some = let s = shape_of l is in omega (arith, s.unit_least)

        below : o % l.unit < l.unit
        below = mod-lt o some
    units whole (inr (inl one)) = once ((end - o) / run_from l o end) (sym (ap (λ k. (end - o) / k) all ∙ div_self (omega arith)))
      where
        all : run_from l o end ≡ end - o
        all = ap (λ b. cond b (end - o) (min (l.unit - o % l.unit) (end - o))) (eq-eqb l.count 1 (sym one))
    units whole (inr (inr none)) = absurd (let s = shape_of l is in omega (arith, s.count_least))

    go : (b : Bool) → eqb (run_from l o end) l.unit ≡ b → IsMade (run_from l o end) (cond b ((end - o) / run_from l o end) 1)
    go true e = units (eqb-true (run_from l o end) l.unit e) (cases_lt 1 l.count)
    go false e = once 1 refl

-- ---- the loop over the series

pub pushed_next : (l : Layout) (n o end : ℕ) (s : Series) (found new : List Extent) → IsSeriesFrom l n o end s
    → new ≡ found ++ extents_in s → new ++ extents_between l n (o + s.first.len * s.count) end ≡ found ++ extents_between l n o end
pushed_next l n o end s found new is pushed =
    ap (λ xs. xs ++ extents_between l n (o + s.first.len * s.count) end) pushed
    ∙ append_assoc found (extents_in s) (extents_between l n (o + s.first.len * s.count) end)
    ∙ ap (λ xs. found ++ xs) (sym is.first)

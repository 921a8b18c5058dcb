-- The walk along an object's offsets, a part at a time.
use Rattle.std.proofs.Common.{◌≡◌, ◌≢◌, ℕ, ◌+◌, ◌-◌, ◌*◌, ◌/◌, ◌%◌, ◌<◌, ◌≤◌, ◌⊎◌, inl, inr, refl, sym, ◌∙◌, arith, List, [], ◌∷◌, ◌++◌, map, min}
use Rattle.std.specs.Prelude.{All, AllPairs}
use Rattle.std.specs.List.{range_with_len, flat_map}
use Rattle.std.proofs.lemmas.List.{map-append, append-nil}
use Rattle.std.proofs.lemmas.List.Concat.{flat_map-append}
use Rattle.std.proofs.lemmas.List.Elements.{All-push, All-weaker}
use Rattle.std.proofs.lemmas.List.Quantifiers.{all_pairs_push}
use Rattle.std.proofs.lemmas.Nat.{div-mul-add, mod-mul-add, div-add-mod'}
use Rattle.std.proofs.Math.Nat.{mul-le-mul_right, mod-lt, div-one, mod-one, mod-eq_of_lt, not-suc-le-zero}
use Rattle.rbd_kinds.specs.declared.layout.Layout.{Layout}
use Rattle.rbd_kinds.specs.declared.layout.Part.{Part}
use Rattle.rbd_kinds.specs.declared.layout.Extent.{Extent}
use Rattle.rbd_kinds.specs.Striping.{IsLayout, units_per_object, byte_at}
use Rattle.rbd_kinds.proofs.Plain.{range_append}
use Rattle.rbd_layout.specs.Pieces.{IsHeld, IsPart, IsPartsOf, places_of}
use Rattle.rbd_layout.proofs.Limits.{shape_of}
use Rattle.rbd_layout.proofs.Places.{object_of_byte, offset_of_byte, ascends}
use Rattle.rbd_layout.proofs.Cover.{map-range, cover}

-- how many bytes of an object lie together in the image: all of it, where no other object is in the
-- stripe, else a unit
abbrev pub IsRun : Layout → ℕ → Type 0
IsRun l run = ((l.count ≡ 1) × (run ≡ l.object)) ⊎ ((l.count ≢ 1) × (run ≡ l.unit))

pub run_positive : (l : Layout) → IsLayout l → (run : ℕ) → IsRun l run → 0 < run
run_positive l h run (inl (one, e)) = let s = shape_of l h in omega (arith, s.object_least)
run_positive l h run (inr (more, e)) = let s = shape_of l h in omega (arith, s.unit_least)

-- with a stripe count of 1 the bytes of an object lie one after another
pub whole_object : (l : Layout) → l.count ≡ 1 → (n o : ℕ) → byte_at l n o ≡ n * units_per_object l * l.unit + o
whole_object l one n o =
    let rest : o / l.unit * l.unit + o % l.unit ≡ o = div-add-mod' o l.unit in
    rw (one, div-one n, mod-one n) (omega (arith, rest))

-- the digits of an offset further on in its unit
pub same_row : (u o k : ℕ) → o % u + k < u → ((o + k) / u ≡ o / u) × ((o + k) % u ≡ o % u + k)
same_row u o k h =
    let whole : o / u * u + o % u ≡ o = div-add-mod' o u in
    let e : o / u * u + (o % u + k) ≡ o + k = omega arith in
    ((rw e at (div-mul-add (o / u) u (o % u + k) h)), (rw e at (mod-mul-add (o / u) u (o % u + k) h)))

pub next_row : (u o k : ℕ) → 0 < u → o % u + k ≡ u → ((o + k) / u ≡ o / u + 1) × ((o + k) % u ≡ 0)
next_row u o k hu h =
    let whole : o / u * u + o % u ≡ o = div-add-mod' o u in
    let e : (o / u + 1) * u + 0 ≡ o + k = omega arith in
    ((rw e at (div-mul-add (o / u + 1) u 0 hu)), (rw e at (mod-mul-add (o / u + 1) u 0 hu)))

-- the bytes of a run lie together
pub along_run : (l : Layout) → IsLayout l → (run : ℕ) → IsRun l run → (n o k : ℕ) → o % run + k < run → byte_at l n (o + k) ≡ byte_at l n o + k
along_run l h run (inl (one, e)) n o k _ =
    let a : byte_at l n (o + k) ≡ n * units_per_object l * l.unit + (o + k) = whole_object l one n (o + k) in
    let b : byte_at l n o ≡ n * units_per_object l * l.unit + o = whole_object l one n o in
    omega arith
along_run l h run (inr (more, e)) n o k inside =
    let digits = same_row l.unit o k (rw e at inside) in
    rw (digits.0, digits.1) (omega arith)

-- and the byte after a run isn't the object's
pub after_run : (l : Layout) → IsLayout l → (run : ℕ) → IsRun l run → (n o k : ℕ) → o % run + k ≡ run → o + k < l.object → byte_at l n o + k < byte_at l n (o + k)
after_run l h run (inl (one, e)) n o k ends inside =
    let all : o % l.object ≡ o = mod-eq_of_lt (let g : o < l.object = omega arith in g) in
    let ends' : o % l.object + k ≡ l.object = rw e at ends in
    absurd (omega arith)
after_run l h run (inr (more, e)) n o k ends inside =
    let s = shape_of l h in
    let some : 0 < l.unit = omega (arith, s.unit_least) in
    let ends' : o % l.unit + k ≡ l.unit = rw e at ends in
    let digits = next_row l.unit o k some ends' in
    let two : 2 ≤ l.count = omega (arith, s.count_least) in
    let gap : 2 * l.unit ≤ l.count * l.unit = mul-le-mul_right l.unit two in
    rw (digits.0, digits.1) (omega arith)

-- ---- the parts so far

pub record Walked (l : Layout) (n from offset end : ℕ) (parts : List Part) : Type 0 where
  pub each : All (IsPart l n) parts
  pub places : flat_map places_of parts ≡ map (byte_at l n) (range_with_len from (offset - from))
  pub apart : AllPairs (λ p q. p.at + p.len < q.at) parts
  pub before : offset < end → All (λ p. p.at + p.len < byte_at l n offset) parts
  pub begun : from ≤ offset
  pub within : offset ≤ end

pub walk_begins : (l : Layout) → (n from end : ℕ) → from ≤ end → Walked l n from from end []
walk_begins l n from end le =
    let none : from - from ≡ 0 = omega arith in
    record {
      each = λ k d less. absurd (not-suc-le-zero less);
      places = rw none refl;
      apart = λ i j d _ less. absurd (not-suc-le-zero less);
      before = λ _ k d less. absurd (not-suc-le-zero less);
      begun = omega arith;
      within = le;
    }

part_here : (l : Layout) → IsLayout l → (run : ℕ) → IsRun l run → (n offset len : ℕ) → 0 < len → offset % run + len ≤ run → offset + len ≤ l.object
    → IsPart l n (record { offset = offset; at = byte_at l n offset; len = len })
part_here l h run is_run n offset len some in_run inside = record {
  some = some;
  within = inside;
  lies = λ k less.
      let along : byte_at l n (offset + k) ≡ byte_at l n offset + k = along_run l h run is_run n offset k (omega arith) in
      let place : offset + k < l.object = omega arith in
      (rw (← along) (object_of_byte l h n (offset + k) place), rw (← along) (offset_of_byte l h n (offset + k) place));
}

pub walk_goes_on : (l : Layout) → IsLayout l → (run : ℕ) → IsRun l run → (n from offset end len : ℕ) (parts : List Part)
    → Walked l n from offset end parts → offset < end → end ≤ l.object → len ≡ min (run - offset % run) (end - offset)
    → Walked l n from (offset + len) end (parts ++ record { offset = offset; at = byte_at l n offset; len = len } ∷ [])
walk_goes_on l h run is_run n from offset end len parts walked some inside is_len = record {
  each = All-push (IsPart l n) parts new walked.each (part_here l h run is_run n offset len len_some in_run (omega arith));
  places = flat_map-append places_of parts (new ∷ []) ∙ covers;
  apart = all_pairs_push (λ p q. p.at + p.len < q.at) parts new walked.apart (λ k d less. walked.before some k d less);
  before = λ more. All-push (λ p. p.at + p.len < byte_at l n (offset + len)) parts new
      (All-weaker (λ p. p.at + p.len < byte_at l n offset) (λ p. p.at + p.len < byte_at l n (offset + len)) (λ p less. later p less) parts (walked.before some))
      (after_run l h run is_run n offset len (omega (arith, rest)) (omega arith));
  begun = let b : from ≤ offset = walked.begun in omega arith;
  within = omega arith;
}
  where
    new : Part
    new = record { offset = offset; at = byte_at l n offset; len = len }

    positive : 0 < run
    positive = run_positive l h run is_run

    rest : offset % run < run
    rest = mod-lt offset positive

    len_some : 0 < len
    len_some = omega (arith, rest)

    in_run : offset % run + len ≤ run
    in_run = omega (arith, rest)

    later : (p : Part) → p.at + p.len < byte_at l n offset → p.at + p.len < byte_at l n (offset + len)
    later p less =
        let up : byte_at l n offset < byte_at l n (offset + len) = ascends l h n offset (offset + len) (omega (arith, len_some)) in
        omega arith

    covers : flat_map places_of parts ++ (range_with_len (byte_at l n offset) len ++ []) ≡ map (byte_at l n) (range_with_len from (offset + len - from))
    covers =
        let b : from ≤ offset = walked.begun in
        let count : offset + len - from ≡ (offset - from) + len = omega arith in
        let here : from + (offset - from) ≡ offset = omega arith in
        let own : map (byte_at l n) (range_with_len offset len) ≡ range_with_len (byte_at l n offset) len =
        map-range (byte_at l n) offset (byte_at l n offset) len (λ k less. along_run l h run is_run n offset k (omega (arith, in_run))) in
        rw (walked.places, append-nil (range_with_len (byte_at l n offset) len), ← own, count, range_append from (offset - from) len, here)
        (sym (map-append (byte_at l n) (range_with_len from (offset - from)) (range_with_len offset len)))

pub walk_ends : (l : Layout) → IsLayout l → (e : Extent) (n from offset end : ℕ) (parts : List Part)
    → IsHeld l n e.at from → IsHeld l n (e.at + e.len) end → Walked l n from offset end parts → end ≤ offset → IsPartsOf l e n parts
walk_ends l h e n from offset end parts at_begin at_end walked done =
    let w : offset ≤ end = walked.within in
    let same : offset ≡ end = omega arith in
    record {
      each = walked.each;
      cover = walked.places ∙ (rw same (sym (cover l h n e.at e.len from end at_begin at_end)));
      apart = walked.apart;
    }

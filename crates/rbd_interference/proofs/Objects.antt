-- What is known of an image's objects behind a change of one of them.
use Rattle.std.proofs.Common.{◌≡◌, ◌≢◌, ◌⊎◌, inl, inr, ℕ, ◌+◌, ◌-◌, ◌≤◌, ◌==◌, cond, not, get_or, Bool, true, false, List, [], ◌∷◌, filter, Option, Some, None, option_map, refl, sym, ap, ◌∙◌, subst, arith}
use Rattle.std.specs.Prelude.{All, IsSome, is_some}
use Rattle.std.proofs.lemmas.Bool.{cases_eq, eqb-true, eq-eqb, true≢false}
use Rattle.std.proofs.lemmas.List.Elements.{All-cons, All-filter, All-weaker, filter_passes}
use Rattle.rbd_kinds.specs.declared.layout.Layout.{Layout}
use Rattle.rbd_kinds.specs.declared.layout.Part.{Part}
use Rattle.rbd_kinds.specs.Striping.{IsLayout, object_of, offset_of}
use Rattle.rbd_layout.specs.Pieces.{IsIn, IsPart}
use Rattle.rbd_machine.specs.Knowledge.{Blank, ObjectsKnown, blanked, found, found_where, is_absent, is_there, made, removed}
use Rattle.rbd_object.specs.Mapped.{Mapped}
use Rattle.rbd_parts.proofs.ContentsLemmas.{get_or-zeroed}
use Rattle.rbd_parts.specs.Contents.{is_within, zeroed}
use Rattle.rbd_parts.specs.Parts.{parts_zeroed}
use Rattle.rbd_stands.proofs.Painting.{any_covered, zeros_at}
use Rattle.rbd_interference.specs.Truth.{AreObjectsTrue, AreZeros}

-- an object that is left on a list is another than the one that was taken from it
pub absent_left : (object n : ℕ) (absent : List ℕ) → is_absent n (filter (λ x. not (x == object)) absent) ≡ true → (is_absent n absent ≡ true) × (n ≢ object)
absent_left object n [] is = absurd (true≢false (sym is))
absent_left object n (x ∷ absent) is = by (x == object) refl (x == n) refl is (absent_left object n absent)
  where
    rest : List ℕ
    rest = filter (λ x. not (x == object)) absent

    by : (a : Bool) → (x == object) ≡ a → (b : Bool) → (x == n) ≡ b → is_absent n (cond (not a) (x ∷ rest) rest) ≡ true
        → (is_absent n rest ≡ true → (is_absent n absent ≡ true) × (n ≢ object)) → (cond b true (is_absent n absent) ≡ true) × (n ≢ object)
    by true here true there is more = (refl, (more is).1)
    by true here false there is more = more is
    by false here true there is more = (refl, λ same. true≢false (sym (eq-eqb x object (eqb-true x n there ∙ same)) ∙ here))
    by false here false there is more = more (sym (ap (λ b. cond b true (is_absent n rest)) there) ∙ is)

-- a head that is zeroed in parts is still there
pub some_mapped : (change : List ℕ → List ℕ) (head : Option (List ℕ)) → IsSome head → IsSome (option_map change head)
some_mapped change None some = absurd (true≢false (sym some))
some_mapped change (Some bytes) some = refl

-- what was zero stays so where more is zeroed
zero_stays : (parts : List Part) (bytes : List ℕ) (i : ℕ) → get_or bytes i 0 ≡ 0 → get_or (parts_zeroed parts bytes) i 0 ≡ 0
zero_stays [] bytes i zero = zero
zero_stays (p ∷ parts) bytes i zero = zero_stays parts (zeroed bytes p.offset p.len) i (get_or-zeroed bytes p.offset p.len i ∙ by (is_within p.offset p.len i))
  where
    by : (b : Bool) → cond b 0 (get_or bytes i 0) ≡ 0
    by true = refl
    by false = zero

module _ (layout : Layout) where
  zeros_stay : (head : Option (List ℕ)) (parts : List Part) (places : Option (List Part)) → AreZeros layout head places → AreZeros layout (option_map (parts_zeroed parts) head) places
  zeros_stay None parts places zeros = zeros
  zeros_stay (Some bytes) parts None zeros = λ offset. zero_stays parts bytes offset (zeros offset)
  zeros_stay (Some bytes) parts (Some places) zeros = λ x at. zero_stays parts bytes (offset_of layout x) (zeros x at)

  none_is_zero : (places : Option (List Part)) → AreZeros layout None places
  none_is_zero None = λ offset. refl
  none_is_zero (Some places) = λ x at. refl

  -- a place of a part of an object lies in the object
  lies_in : (number : ℕ) (p : Part) (x : ℕ) → IsPart layout number p → IsIn x p → object_of layout x ≡ number
  lies_in number p x part (from, to) = subst (λ y. object_of layout y ≡ number) (by from) (part.lies (x - p.at) (omega (arith, from, to))).0
    where
      by : p.at ≤ x → p.at + (x - p.at) ≡ x
      by from = omega (arith, from)

  now_zeros : IsLayout layout → (number : ℕ) (parts : List Part) → All (IsPart layout number) parts → (head : Option (List ℕ)) → AreZeros layout (option_map (parts_zeroed parts) head) (Some parts)
  now_zeros laid number parts lie None = λ x at. refl
  now_zeros laid number parts lie (Some bytes) = λ x at.
      let (k, p, within, is, place) = at in
      let part : IsPart layout number p = subst (IsPart layout number) is (lie k p within) in
      zeros_at layout laid number parts lie bytes x (lies_in number p x part place)
      ∙ ap (λ b. cond b 0 (get_or bytes (offset_of layout x) 0)) (any_covered parts x k p within is place.0 place.1)

-- One object was changed.
module _ (alone : Bool) (layout : Layout) (old new : ℕ → Mapped) (o : ObjectsKnown) (number : ℕ) (there : (n : ℕ) → n ≢ number → (new n).head ≡ (old n).head) (t : AreObjectsTrue alone layout old o) where
  abbrev WereZeros : Blank → Type 0
  WereZeros b = AreZeros layout (old b.object).head b.parts

  abbrev AreStillZeros : Blank → Type 0
  AreStillZeros b = AreZeros layout (new b.object).head b.parts

  -- where what holds of the object's old head holds of the new one
  kept_zeros : ((places : Option (List Part)) → AreZeros layout (old number).head places → AreZeros layout (new number).head places) → (b : Blank) → WereZeros b → AreStillZeros b
  kept_zeros here b zeros = by (cases_eq b.object number)
    where
      by : (b.object ≡ number) ⊎ (b.object ≢ number) → AreStillZeros b
      by (inl same) = subst (λ n. AreZeros layout (new n).head b.parts) (sym same) (here b.parts (subst (λ n. AreZeros layout (old n).head b.parts) same zeros))
      by (inr other) = subst (λ head. AreZeros layout head b.parts) (sym (there b.object other)) zeros

  -- What is known to be there still is, where the one that was changed is.
  still_there : (IsSome (old number).head → IsSome (new number).head) → (n : ℕ) → is_there n o.there ≡ true → IsSome (new n).head
  still_there here n is = by (cases_eq n number)
    where
      by : (n ≡ number) ⊎ (n ≢ number) → IsSome (new n).head
      by (inl same) = subst (λ i. IsSome (new i).head) (sym same) (here (subst (λ i. IsSome (old i).head) same (t.there n is)))
      by (inr other) = ap is_some (there n other) ∙ t.there n is

  pub found_there : IsSome (new number).head → (n : ℕ) → is_there n (number ∷ o.there) ≡ true → IsSome (new n).head
  found_there here n is = by (number == n) refl is
    where
      by : (b : Bool) → (number == n) ≡ b → cond b true (is_there n o.there) ≡ true → IsSome (new n).head
      by true same is = subst (λ i. IsSome (new i).head) (eqb-true number n same) here
      by false other is = still_there (λ was. here) n is

  found_where_there : (counts : Bool) → (counts ≡ true → IsSome (new number).head) → (IsSome (old number).head → IsSome (new number).head) → (n : ℕ)
      → is_there n (found_where counts number o).there ≡ true → IsSome (new n).head
  found_where_there true here kept n is = found_there (here refl) n is
  found_where_there false here kept n is = still_there kept n is

  -- It is there, and may have any bytes.
  pub made_true : IsSome (new number).head → AreObjectsTrue alone layout new (made number o)
  made_true here = record {
    absent = λ n gone. let (was, other) = absent_left number n o.absent gone in there n other ∙ t.absent n was;
    there = found_there here;
    blank = λ a k d within. by k d (filter_passes (λ b. not (b.object == number)) o.blank k d within) (All-filter (λ b. not (b.object == number)) WereZeros o.blank (t.blank a) k d within);
  }
    where
      rest : List Blank
      rest = filter (λ b. not (b.object == number)) o.blank

      other_than : (n : ℕ) → not (n == number) ≡ true → n ≢ number
      other_than n passes same = true≢false (sym passes ∙ ap not (eq-eqb n number same))

      by : (k : ℕ) (d : Blank) → not ((get_or rest k d).object == number) ≡ true → WereZeros (get_or rest k d) → AreStillZeros (get_or rest k d)
      by k d passes zeros =
          subst (λ head. AreZeros layout head (get_or rest k d).parts) (sym (there (get_or rest k d).object (other_than (get_or rest k d).object passes))) zeros

  -- Parts of it became zeros. Where it had to be there it is.
  pub zeroed_true : IsLayout layout → (must : Bool) (parts : List Part) → (must ≡ true → IsSome (old number).head) → All (IsPart layout number) parts
      → (new number).head ≡ option_map (parts_zeroed parts) (old number).head → AreObjectsTrue alone layout new (blanked number (Some parts) (found_where must number o))
  zeroed_true laid must parts found lie here = record {
    absent = λ n gone. by n (t.absent n gone) (cases_eq n number);
    there = found_where_there must (λ counts. kept (found counts)) kept;
    blank = λ a.
        All-cons AreStillZeros (record { object = number; parts = Some parts }) o.blank
        (subst (λ head. AreZeros layout head (Some parts)) (sym here) (now_zeros layout laid number parts lie (old number).head))
        (All-weaker WereZeros AreStillZeros (kept_zeros (λ places zeros. subst (λ head. AreZeros layout head places) (sym here) (zeros_stay layout (old number).head parts places zeros))) o.blank (t.blank a));
  }
    where
      kept : IsSome (old number).head → IsSome (new number).head
      kept some = ap is_some here ∙ some_mapped (parts_zeroed parts) (old number).head some

      by : (n : ℕ) → (old n).head ≡ None → (n ≡ number) ⊎ (n ≢ number) → (new n).head ≡ None
      by n none (inl same) = ap (λ i. (new i).head) same ∙ here ∙ ap (λ i. option_map (parts_zeroed parts) (old i).head) (sym same) ∙ ap (option_map (parts_zeroed parts)) none
      by n none (inr other) = there n other ∙ none

  -- All of it did, and it is there.
  pub emptied_true : (new number).head ≡ Some [] → AreObjectsTrue alone layout new (blanked number None (made number o))
  emptied_true here = record {
    absent = was_made.absent;
    there = was_made.there;
    blank = λ a.
        All-cons AreStillZeros (record { object = number; parts = None }) (made number o).blank (subst (λ head. AreZeros layout head None) (sym here) (λ offset. refl)) (was_made.blank a);
  }
    where
      was_made : AreObjectsTrue alone layout new (made number o)
      was_made = made_true (ap is_some here)

  -- It went.
  pub removed_true : (new number).head ≡ None → AreObjectsTrue alone layout new (removed number o)
  removed_true here = record {
    absent = λ n gone. by n (number == n) refl gone;
    there = λ n is. let (was, other) = absent_left number n o.there is in ap is_some (there n other) ∙ t.there n was;
    blank = λ a.
        All-cons AreStillZeros (record { object = number; parts = None }) o.blank (subst (λ head. AreZeros layout head None) (sym here) (none_is_zero layout None))
        (All-weaker WereZeros AreStillZeros (kept_zeros (λ places zeros. subst (λ head. AreZeros layout head places) (sym here) (none_is_zero layout places))) o.blank (t.blank a));
  }
    where
      by : (n : ℕ) (b : Bool) → (number == n) ≡ b → cond b true (is_absent n o.absent) ≡ true → (new n).head ≡ None
      by n true same gone = ap (λ i. (new i).head) (sym (eqb-true number n same)) ∙ here
      by n false other gone = there n (λ same. true≢false (sym (eq-eqb number n (sym same)) ∙ other)) ∙ t.absent n gone

-- An object was found.
pub found_true : (alone : Bool) (layout : Layout) (objects : ℕ → Mapped) (o : ObjectsKnown) (number : ℕ) → AreObjectsTrue alone layout objects o → IsSome (objects number).head
    → AreObjectsTrue alone layout objects (found number o)
found_true alone layout objects o number t here =
    record { absent = t.absent; there = found_there alone layout objects objects o number (λ n other. refl) t here; blank = t.blank }

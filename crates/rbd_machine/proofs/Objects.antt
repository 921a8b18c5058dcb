-- What is known of objects by what was done to them, and who makes zeros.
use Rattle.std.proofs.Common.{◌≡◌, inl, inr, ℕ, ◌==◌, cond, Bool, true, false, List, ◌∷◌, Option, Some, None, refl, sym, ap, ◌∙◌}
use Rattle.std.specs.Prelude.{IsFalse}
use Rattle.std.proofs.lemmas.Bool.{eq-eqb, eqb-true, true≢false}
use Rattle.std.proofs.lemmas.Option.{none-some}
use Rattle.rbd_kinds.specs.declared.answer.Answer.TheVariants as answer
use Rattle.rbd_kinds.specs.declared.data_op.DataOp.TheVariants as object
use Rattle.rbd_kinds.specs.declared.header.HeaderView.{HeaderView}
use Rattle.rbd_kinds.specs.declared.header.SnapContext.{SnapContext}
use Rattle.rbd_kinds.specs.declared.id.SiteId.{SiteId}
use Rattle.rbd_kinds.specs.declared.layout.Part.{Part}
use Rattle.rbd_kinds.specs.declared.operation.Op.TheVariants as op
use Rattle.rbd_kinds.specs.declared.sharing.Sharing.{Sharing}
use Rattle.rbd_kinds.specs.declared.sharing.Sharing.TheVariants as sharing
use Rattle.rbd_kinds.specs.Sharing.{go_together, is_alone}
use Rattle.rbd_kinds.proofs.Images.{at_itself}
use Rattle.rbd_machine.specs.Knowledge.{Knowledge, ObjectsKnown, Own, found, is_absent, is_there, is_turn, keeps_object, learned, objects_known_of, own_of, removed, with_objects, with_objects_where, without_there}
use Rattle.rbd_machine.specs.Permits.{OwnsBy, Permits, makes_zeros}
use Rattle.rbd_machine.proofs.AtLeast.{absent_left}
use Rattle.rbd_machine.proofs.Lawful.{own_at}

-- ---- what was done

-- the last on a list is on it
listed : (number : ℕ) (objects : List ℕ) → is_absent number (number ∷ objects) ≡ true
listed number objects = ap (λ b. cond b true (is_absent number objects)) (eq-eqb number number refl)

-- and who was taken from it isn't
unlisted : (number : ℕ) (objects : List ℕ) → cond (number == number) false (is_absent number objects) ≡ false
unlisted number objects = ap (λ b. cond b false (is_absent number objects)) (eq-eqb number number refl)

module _ (k : Knowledge) (site : SiteId) (image number : ℕ) where
  pub changed : (change : ObjectsKnown → ObjectsKnown) → objects_known_of (with_objects site image change k).objects site image ≡ change (objects_known_of k.objects site image)
  changed change = ap (λ b. cond b (change (objects_known_of k.objects site image)) (objects_known_of k.objects site image)) (at_itself site image)

  pub there_by : (change : ObjectsKnown → ObjectsKnown) → is_there number (change (objects_known_of k.objects site image)).there ≡ true
      → is_there number (objects_known_of (with_objects site image change k).objects site image).there ≡ true
  there_by change is = ap (λ (o : ObjectsKnown). is_absent number o.there) (changed change) ∙ is

  pub there_last : is_there number (number ∷ (objects_known_of k.objects site image).there) ≡ true
  there_last = listed number (objects_known_of k.objects site image).there

  pub absent_now : is_absent number (objects_known_of (with_objects site image (removed number) k).objects site image).absent ≡ true
  absent_now = ap (λ (o : ObjectsKnown). is_absent number o.absent) (changed (removed number)) ∙ listed number (objects_known_of k.objects site image).absent

  pub there_no_more : is_there number (objects_known_of (with_objects site image (removed number) k).objects site image).there ≡ false
  there_no_more =
      ap (λ (o : ObjectsKnown). is_absent number o.there) (changed (removed number))
      ∙ absent_left number number (objects_known_of k.objects site image).there ∙ unlisted number (objects_known_of k.objects site image).there

  pub none_there : is_there number (objects_known_of (with_objects site image without_there k).objects site image).there ≡ false
  none_there = ap (λ (o : ObjectsKnown). is_absent number o.there) (changed without_there)

  -- ---- what was read

  shown : keeps_object (own_of k.owns site image) k.turn number ≡ true → (parts : List Part) (bytes : List ℕ)
      → is_there number (objects_known_of (learned k site (op.Data image number (object.Read None parts)) (answer.Bytes bytes)).objects site image).there ≡ true
  shown keeps parts bytes =
      ap (λ counts. is_there number (objects_known_of (with_objects_where counts site image (found number) k).objects site image).there) keeps ∙ there_by (found number) there_last

  pub shown_alone : (parts : List Part) (bytes : List ℕ) (header : Option HeaderView) → own_of k.owns site image ≡ Some (record { site = site; image = image; sharing = sharing.Alone; header = header })
      → is_there number (objects_known_of (learned k site (op.Data image number (object.Read None parts)) (answer.Bytes bytes)).objects site image).there ≡ true
  shown_alone parts bytes header is = shown (ap (λ o. keeps_object o k.turn number) is) parts bytes

  pub shown_in_turn : (parts : List Part) (bytes : List ℕ) (own : Own) → own_of k.owns site image ≡ Some own → k.turn ≡ Some number
      → is_there number (objects_known_of (learned k site (op.Data image number (object.Read None parts)) (answer.Bytes bytes)).objects site image).there ≡ true
  shown_in_turn parts bytes own is turn = shown (ap (λ o. keeps_object o k.turn number) is ∙ by (is_alone own.sharing)) parts bytes
    where
      at_turn : is_turn k.turn number ≡ true
      at_turn = ap (λ t. is_turn t number) turn ∙ eq-eqb number number refl

      by : (alone : Bool) → cond alone true (is_turn k.turn number) ≡ true
      by true = refl
      by false = at_turn

  pub shown_to_others : (parts : List Part) (bytes : List ℕ) (own : Own) → own_of k.owns site image ≡ Some own → IsFalse (is_alone own.sharing) → (k.turn ≡ Some number → ⊥)
      → (learned k site (op.Data image number (object.Read None parts)) (answer.Bytes bytes)).objects ≡ k.objects
  shown_to_others parts bytes own is shared other =
      ap (λ counts. (with_objects_where counts site image (found number) k).objects)
      (ap (λ o. keeps_object o k.turn number) is ∙ ap (λ alone. cond alone true (is_turn k.turn number)) shared ∙ by (is_turn k.turn number) refl)
    where
      turn_of : (turn : Option ℕ) → is_turn turn number ≡ true → turn ≡ Some number
      turn_of None at = absurd (true≢false (sym at))
      turn_of (Some t) at = ap Some (eqb-true t number at)

      by : (b : Bool) → is_turn k.turn number ≡ b → b ≡ false
      by false at = refl
      by true at = absurd (other (turn_of k.turn at))

-- ---- who makes zeros

-- goes beside no flatten
pub no_flatten_beside : (s : Sharing) → makes_zeros s ≡ true → go_together s sharing.Flatten ≡ false
no_flatten_beside sharing.Alone zeros = refl
no_flatten_beside sharing.Discard zeros = refl
no_flatten_beside sharing.Shared zeros = absurd (true≢false (sym zeros))
no_flatten_beside sharing.Flatten zeros = absurd (true≢false (sym zeros))

abbrev sharing_or : Option Own → Sharing → Sharing
sharing_or None other = other
sharing_or (Some o) other = o.sharing

module _ (k : Knowledge) (site : SiteId) (image : ℕ) (s : Sharing) (h : HeaderView) (is : own_of k.owns site image ≡ Some (own_at s site image h)) where
  pub beside_none : (condition : Sharing → HeaderView → Type 0) (owns : OwnsBy k site image condition) → makes_zeros owns.sharing ≡ true → go_together s sharing.Flatten ≡ false
  beside_none condition owns zeros = no_flatten_beside s (ap makes_zeros (ap (λ o. sharing_or o s) (sym is ∙ owns.is)) ∙ zeros)

  pub removal_beside_none : (number : ℕ) (context : SnapContext) → Permits k site (op.Data image number (object.Remove context)) → go_together s sharing.Flatten ≡ false
  removal_beside_none number context (inl left) = absurd (none-some (own_at s site image h) (sym left.unowned ∙ is))
  removal_beside_none number context (inr owns) = beside_none _ owns owns.meets.zeros

-- What is known of objects stays true under what is permitted to others.
use Rattle.std.proofs.Common.{◌≡◌, ◌≢◌, ◌⊎◌, inl, inr, ℕ, List, Option, Some, None, option_map, refl, sym, ap, ◌∙◌, subst, true≢false}
use Rattle.std.specs.Prelude.{IsFalse, IsSome, is_some}
use Rattle.std.proofs.lemmas.Bool.{cases_eq}
use Rattle.rbd_kinds.specs.declared.answer.Answer.{Answer}
use Rattle.rbd_kinds.specs.declared.answer.Answer.TheVariants as answer
use Rattle.rbd_kinds.specs.declared.data_op.DataOp.{DataOp}
use Rattle.rbd_kinds.specs.declared.data_op.DataOp.TheVariants as object
use Rattle.rbd_kinds.specs.declared.header.HeaderView.{HeaderView}
use Rattle.rbd_kinds.specs.declared.header.SnapContext.{SnapContext}
use Rattle.rbd_kinds.specs.declared.id.Instance.{Instance}
use Rattle.rbd_kinds.specs.declared.id.SiteId.{SiteId}
use Rattle.rbd_kinds.specs.declared.operation.Op.{Op}
use Rattle.rbd_kinds.specs.declared.operation.Op.TheVariants as op
use Rattle.rbd_kinds.specs.declared.sharing.Sharing.{Sharing}
use Rattle.rbd_object.specs.Mapped.{Mapped}
use Rattle.rbd_parts.specs.Parts.{parts_zeroed}
use Rattle.rbd_machine.specs.Knowledge.{Knowledge, objects_known_of}
use Rattle.rbd_machine.specs.Permits.{Permits, PermitsOnObject, IsLeftOver, OwnsBy}
use Rattle.rbd_machine.proofs.Together.{shared_both}
use Rattle.rbd_site.specs.DataStep.{data_after, data_answer, data_change, where_object_done}
use Rattle.rbd_site.specs.Records.{Records, object_at, or_blank, put}
use Rattle.rbd_site.specs.Step.{is_fenced, after, after_served}
use Rattle.rbd_site.proofs.GenerationLemmas.{looked_at}
use Rattle.rbd_stands.proofs.ObjectSteps.{put_there, put_elsewhere}
use Rattle.rbd_interference.specs.Beside.{AreBeside, BreaksNothing, MayAct}
use Rattle.rbd_interference.specs.Truth.{AreObjectsTrue, IsTrueAt, is_alone_on, known_header, sharing_on}
use Rattle.rbd_interference.specs.Turns.{KnowsAbsent, KnowsThere}
use Rattle.rbd_interference.proofs.Each.{objects_alike}
use Rattle.rbd_interference.proofs.Fenced.{after_free}
use Rattle.rbd_interference.proofs.Headers.{unknown_while_waiting}
use Rattle.rbd_interference.proofs.MapsBehind.{at_each}
use Rattle.rbd_interference.proofs.MapsKept.{both_shared, known_apart}
use Rattle.rbd_interference.proofs.Objects.{some_mapped}

-- ---- the objects behind a change of one

pub changed_object : (r : Records) (me : Instance) (image number : ℕ) (o : DataOp) → object_at (after_served r me (op.Data image number o)) image number ≡ or_blank (data_after (r.objects image number) o)
changed_object r me image number o =
    ap (λ (objects : ℕ → Option Mapped). or_blank (objects number)) (put_there r.objects image (put (r.objects image) number (data_after (r.objects image number) o)))
    ∙ ap or_blank (put_there (r.objects image) number (data_after (r.objects image number) o))

pub other_object : (r : Records) (me : Instance) (image number : ℕ) (o : DataOp) (n : ℕ) → n ≢ number → object_at (after_served r me (op.Data image number o)) image n ≡ object_at r image n
other_object r me image number o n other =
    ap (λ (objects : ℕ → Option Mapped). or_blank (objects n)) (put_there r.objects image (put (r.objects image) number (data_after (r.objects image number) o)))
    ∙ ap or_blank (put_elsewhere (r.objects image) number (data_after (r.objects image number) o) n other)

pub other_image : (r : Records) (me : Instance) (image number : ℕ) (o : DataOp) (i n : ℕ) → i ≢ image → object_at (after_served r me (op.Data image number o)) i n ≡ object_at r i n
other_image r me image number o i n other =
    ap (λ (objects : ℕ → Option Mapped). or_blank (objects n)) (put_elsewhere r.objects image (put (r.objects image) number (data_after (r.objects image number) o)) i other)

module _ (site : SiteId) (r : Records) (k j : Knowledge) (me you : Instance) (t : IsTrueAt site r me k) (u : IsTrueAt site r you j) (beside : AreBeside site r me you k j) where
  abbrev AreObjects : (image : ℕ) → (ℕ → Mapped) → Type 0
  AreObjects image objects = (h : HeaderView) → known_header k site image ≡ Some h → AreObjectsTrue (is_alone_on k site image) h.layout objects (objects_known_of k.objects site image)

  module _ (free : IsFalse (is_fenced r me)) (served : IsFalse (is_fenced r you)) (image number : ℕ) (o : DataOp) where
    abbrev objects_then : ℕ → Mapped
    objects_then = object_at (after_served r you (op.Data image number o)) image

    abbrev head_before : Option (List ℕ)
    head_before = (object_at r image number).head

    abbrev head_then : Option (List ℕ)
    head_then = (objects_then number).head

    heads_then : (n : ℕ) → n ≢ number → (objects_then n).head ≡ (object_at r image n).head
    heads_then n other = ap (λ (m : Mapped). m.head) (other_object r you image number o n other)

    -- the object is as it was, or changed
    head_either : (Q : Option (List ℕ) → Type 0) → Q head_before → Q (data_change (object_at r image number) o).head → Q head_then
    head_either Q was changed = subst (λ (m : Mapped). Q m.head) (sym (changed_object r you image number o)) (by (data_answer (r.objects image number) o))
      where
        by : (a : Answer) → Q (or_blank (where_object_done a (data_change (object_at r image number) o) (r.objects image number))).head
        by answer.Done = changed
        by _ = was

    -- Where another owns the image too: what the operation may break isn't known.
    owned_beside : (condition : Sharing → HeaderView → Type 0) → OwnsBy j site image condition
        → (IsSome (known_header k site image) → (n : ℕ) → KnowsAbsent k site image n → (n ≡ number → ⊥) ⊎ (head_before ≡ None → head_then ≡ None))
        → (IsSome (known_header k site image) → (n : ℕ) → KnowsThere k site image n → (n ≡ number → ⊥) ⊎ (IsSome head_before → IsSome head_then)) → AreObjects image objects_then
    owned_beside condition owns absent there h known =
        let some : IsSome (known_header k site image) = ap is_some known in
        let was = t.objects free image h known in
        let shared = (shared_both (sharing_on k site image) (sharing_on j site image) (both_shared site r k j me you t u beside free served image condition owns some)).0 in
        record {
          absent = λ n gone. kept (λ head. head ≡ None) n (absent some n (inl gone)) (was.absent n gone);
          there = λ n is. kept IsSome n (there some n is) (was.there n is);
          blank = λ alone. absurd (true≢false (sym alone ∙ shared));
        }
      where
        kept : (P : Option (List ℕ) → Type 0) (n : ℕ) → (n ≡ number → ⊥) ⊎ (P head_before → P head_then) → P (object_at r image n).head → P (objects_then n).head
        kept P n either was = by either (cases_eq n number)
          where
            by : (n ≡ number → ⊥) ⊎ (P head_before → P head_then) → (n ≡ number) ⊎ (n ≢ number) → P (objects_then n).head
            by either (inr other) = subst P (sym (heads_then n other)) was
            by (inl differs) (inl same) = absurd (differs same)
            by (inr keeps) (inl same) = subst (λ i. P (objects_then i).head) (sym same) (keeps (subst (λ i. P (object_at r image i).head) same was))

    -- by one that breaks what is absent: the object is there then
    made_beside : (condition : Sharing → HeaderView → Type 0) → OwnsBy j site image condition → BreaksNothing site image r you me j k (KnowsAbsent k site image number) → (IsSome head_before → IsSome head_then)
        → AreObjects image objects_then
    made_beside condition owns may stays =
        owned_beside condition owns (λ some n gone. inl (known_apart site r k j me you t u beside free served image condition owns number (KnowsAbsent k site image) may some n gone)) (λ some n is. inr stays)

    -- by one that breaks what is there
    removed_beside : (condition : Sharing → HeaderView → Type 0) → OwnsBy j site image condition → BreaksNothing site image r you me j k (KnowsThere k site image number) → (head_before ≡ None → head_then ≡ None)
        → AreObjects image objects_then
    removed_beside condition owns may stays =
        owned_beside condition owns (λ some n gone. inr stays) (λ some n is. inl (known_apart site r k j me you t u beside free served image condition owns number (KnowsThere k site image) may some n is))

    -- and by one that breaks neither
    zeroed_beside : (condition : Sharing → HeaderView → Type 0) → OwnsBy j site image condition → (head_before ≡ None → head_then ≡ None) → (IsSome head_before → IsSome head_then) → AreObjects image objects_then
    zeroed_beside condition owns absent there = owned_beside condition owns (λ some n gone. inr absent) (λ some n is. inr there)

    left_beside : IsLeftOver j site image → AreObjects image objects_then
    left_beside left h known = absurd (unknown_while_waiting site r me k image t free (ap is_some known) (u.gone image left.gone).header)

  -- of each image, where it holds of the one that was changed
  each_image : IsFalse (is_fenced r me) → (image number : ℕ) (o : DataOp) → AreObjects image (object_at (after_served r you (op.Data image number o)) image)
      → (i : ℕ) → AreObjects i (object_at (after_served r you (op.Data image number o)) i)
  each_image free image number o here =
      at_each (λ i. AreObjects i (object_at (after_served r you (op.Data image number o)) i)) image here
      (λ i other h known.
      objects_alike (is_alone_on k site i) h.layout (object_at r i) (object_at (after_served r you (op.Data image number o)) i) (objects_known_of k.objects site i)
      (λ n. ap (λ (m : Mapped). m.head) (other_image r you image number o i n other)) (t.objects free i h known))

  removal_kept : IsFalse (is_fenced r me) → IsFalse (is_fenced r you) → (image number : ℕ) (context : SnapContext) → PermitsOnObject j site image number (object.Remove context) → BreaksNothing site image r you me j k (KnowsThere k site image number)
      → AreObjects image (object_at (after_served r you (op.Data image number (object.Remove context))) image)
  removal_kept free served image number context (inl left) may = left_beside free served image number (object.Remove context) left
  removal_kept free served image number context (inr owns) may =
      removed_beside free served image number (object.Remove context) _ owns may (λ none. head_either free served image number (object.Remove context) (λ head. head ≡ None) none refl)

  data_kept : IsFalse (is_fenced r me) → (image number : ℕ) (o : DataOp) → PermitsOnObject j site image number o → MayAct site r you me j k (op.Data image number o) → (i : ℕ) → AreObjects i (object_at (after r you (op.Data image number o)) i)
  data_kept free image number (object.Read snap parts) permits may i =
      subst (λ s. AreObjects i (object_at s i)) (sym (looked_at r you (op.Data image number (object.Read snap parts)) refl)) (t.objects free i)
  data_kept free image number (object.Write context must parts bytes) permits may i =
      after_free (λ s. AreObjects i (object_at s i)) r you (op.Data image number (object.Write context must parts bytes)) (t.objects free i)
      (λ served. each_image free image number (object.Write context must parts bytes)
      (made_beside free served image number (object.Write context must parts bytes) _ permits may
      (λ was. head_either free served image number (object.Write context must parts bytes) IsSome was refl)) i)
  data_kept free image number (object.WriteFull context bytes) permits may i =
      after_free (λ s. AreObjects i (object_at s i)) r you (op.Data image number (object.WriteFull context bytes)) (t.objects free i)
      (λ served. each_image free image number (object.WriteFull context bytes)
      (made_beside free served image number (object.WriteFull context bytes) _ permits may (λ was. head_either free served image number (object.WriteFull context bytes) IsSome was refl)) i)
  data_kept free image number (object.Zero context must parts) permits may i =
      after_free (λ s. AreObjects i (object_at s i)) r you (op.Data image number (object.Zero context must parts)) (t.objects free i)
      (λ served. each_image free image number (object.Zero context must parts)
      (zeroed_beside free served image number (object.Zero context must parts) _ permits
      (λ none. head_either free served image number (object.Zero context must parts) (λ head. head ≡ None) none (ap (option_map (parts_zeroed parts)) none))
      (λ was. head_either free served image number (object.Zero context must parts) IsSome was (some_mapped (parts_zeroed parts) (object_at r image number).head was))) i)
  data_kept free image number (object.Empty context) permits may i =
      after_free (λ s. AreObjects i (object_at s i)) r you (op.Data image number (object.Empty context)) (t.objects free i)
      (λ served. each_image free image number (object.Empty context)
      (made_beside free served image number (object.Empty context) _ permits may (λ was. head_either free served image number (object.Empty context) IsSome was refl)) i)
  data_kept free image number (object.Remove context) permits may i =
      after_free (λ s. AreObjects i (object_at s i)) r you (op.Data image number (object.Remove context)) (t.objects free i)
      (λ served. each_image free image number (object.Remove context) (removal_kept free served image number context permits may) i)
  data_kept free image number _ permits may i = elim permits [ ]

  pub objects_kept : IsFalse (is_fenced r me) → (o : Op) → Permits j site o → MayAct site r you me j k o → (image : ℕ) → AreObjects image (object_at (after r you o) image)
  objects_kept free (op.Directory o) permits may image = after_free (λ s. AreObjects image (object_at s image)) r you (op.Directory o) (t.objects free image) (λ served. t.objects free image)
  objects_kept free (op.Children o) permits may image = after_free (λ s. AreObjects image (object_at s image)) r you (op.Children o) (t.objects free image) (λ served. t.objects free image)
  objects_kept free (op.BlockAdd i) permits may image = after_free (λ s. AreObjects image (object_at s image)) r you (op.BlockAdd i) (t.objects free image) (λ served. t.objects free image)
  objects_kept free (op.Header other o) permits may image = after_free (λ s. AreObjects image (object_at s image)) r you (op.Header other o) (t.objects free image) (λ served. t.objects free image)
  objects_kept free (op.Data other number o) permits may image = data_kept free other number o permits may image
  objects_kept free (op.Map other o) permits may image = after_free (λ s. AreObjects image (object_at s image)) r you (op.Map other o) (t.objects free image) (λ served. t.objects free image)
  objects_kept free _ permits may image = elim permits [ ]

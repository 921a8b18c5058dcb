-- What a request learns of objects by its own changes is true.
use Rattle.std.proofs.Common.{◌≡◌, ◌≢◌, inl, inr, ℕ, cond, Bool, true, false, List, ◌∷◌, Option, Some, None, refl, sym, ap, ◌∙◌, subst, arith, true≢false}
use Rattle.std.specs.Prelude.{All, IsFalse, IsSome, is_some}
use Rattle.std.proofs.lemmas.List.Elements.{All-weaker}
use Rattle.std.proofs.lemmas.Option.{same_Some}
use Rattle.rbd_kinds.specs.declared.answer.Answer.{Answer}
use Rattle.rbd_kinds.specs.declared.answer.Answer.TheVariants as answer
use Rattle.rbd_kinds.specs.declared.data_op.DataOp.{DataOp}
use Rattle.rbd_kinds.specs.declared.data_op.DataOp.TheVariants as object
use Rattle.rbd_kinds.specs.declared.header.HeaderView.{HeaderView}
use Rattle.rbd_kinds.specs.declared.header.SnapContext.{SnapContext}
use Rattle.rbd_kinds.specs.declared.id.Instance.{Instance}
use Rattle.rbd_kinds.specs.declared.id.SiteId.{SiteId}
use Rattle.rbd_kinds.specs.declared.layout.Part.{Part}
use Rattle.rbd_kinds.specs.declared.operation.Op.TheVariants as op
use Rattle.rbd_kinds.specs.declared.sharing.Sharing.{Sharing}
use Rattle.rbd_kinds.specs.Striping.{IsLayout}
use Rattle.rbd_kinds.proofs.Images.{at_itself}
use Rattle.rbd_layout.specs.Pieces.{IsPart}
use Rattle.rbd_object.specs.Mapped.{Mapped, versioned}
use Rattle.rbd_object.specs.Versioned.{view}
use Rattle.rbd_machine.specs.Knowledge.{ImageObjects, Knowledge, ObjectsKnown, blanked, found, found_where, is_drawn, keeps_object, learned_of_object, made, objects_known_of, own_of, removed, with_objects_where}
use Rattle.rbd_machine.specs.Permits.{PermitsOnObject, LiesBelow, MayZero, OwnsBy}
use Rattle.rbd_site.specs.DataStep.{data_after, data_answer, data_change, finds, parts_read, where_object_done}
use Rattle.rbd_site.specs.Found.{done_where}
use Rattle.rbd_site.specs.InForm.{AreInForm}
use Rattle.rbd_site.specs.Records.{Records, object_at, or_blank}
use Rattle.rbd_site.specs.Step.{is_fenced, after_served, answer_served}
use Rattle.rbd_site.proofs.TrimLemmas.{with_object_same}
use Rattle.rbd_stands.proofs.DataSteps.{done_after}
use Rattle.rbd_interference.specs.Truth.{AreObjectsTrue, IsTrueAt, IsWaiting, is_alone_on, known_header, sharing_on}
use Rattle.rbd_interference.proofs.Each.{IsTrueOfImage, each_true, of_all}
use Rattle.rbd_interference.proofs.Children.{children_less, children_there, same_children}
use Rattle.rbd_interference.proofs.Headers.{find_there, not_waiting, own_known, same_layout}
use Rattle.rbd_interference.proofs.MapsLearned.{at_no_other}
use Rattle.rbd_interference.proofs.Objects.{emptied_true, found_true, made_true, removed_true, zeroed_true}
use Rattle.rbd_interference.proofs.ObjectsKept.{changed_object, other_image, other_object}
use Rattle.rbd_interference.proofs.Seen.{seen_there}

-- ---- what is known of an image's objects from now on

abbrev pub objects_told : SiteId → (image : ℕ) → ObjectsKnown → List ImageObjects → List ImageObjects
objects_told site image o objects = record { site = site; image = image; known = o } ∷ objects

told_of_it : (site : SiteId) (image : ℕ) (o : ObjectsKnown) (objects : List ImageObjects) → objects_known_of (objects_told site image o objects) site image ≡ o
told_of_it site image o objects = ap (λ b. cond b o (objects_known_of objects site image)) (at_itself site image)

told_of_others : (site : SiteId) (image : ℕ) (o : ObjectsKnown) (objects : List ImageObjects) (other : ℕ) → other ≢ image
    → objects_known_of (objects_told site image o objects) site other ≡ objects_known_of objects site other
told_of_others site image o objects other differ = ap (λ b. cond b o (objects_known_of objects site other)) (at_no_other site image other differ)

module _ (site : SiteId) (r : Records) (me : Instance) (k : Knowledge) (most : ℕ) (form : AreInForm r most) (t : IsTrueAt site r me k) (free : IsFalse (is_fenced r me)) (image number : ℕ) where
  abbrev known_of_it : ObjectsKnown
  known_of_it = objects_known_of k.objects site image

  abbrev told : ObjectsKnown → Knowledge
  told o = record k { objects = objects_told site image o k.objects }

  abbrev doing : DataOp → Records
  doing o = after_served r me (op.Data image number o)

  -- by an operation on one of them
  known_true : (o : DataOp) (now : ObjectsKnown) → (is_drawn k.drawn site image ≡ true → IsWaiting (doing o) image)
      → ((h : HeaderView) → known_header k site image ≡ Some h → AreObjectsTrue (is_alone_on k site image) h.layout (object_at (doing o) image) now)
      → IsTrueAt site (doing o) me (told now)
  known_true o now waits here =
      of_all site (doing o) me (told now)
      (each_true site r (doing o) me k (told now) image t (λ f. f) t.fenced it
      (λ i other. record { own = refl; drawn = refl; maps = refl; objects = told_of_others site image now k.objects i other; gone = refl; seen = refl })
      (λ i other. record { header = refl; maps = refl; objects = λ n. other_image r me image number o i n other; drawn = omega arith }))
      (children_less site (doing o) me (told now) k (same_children site (told now) k refl refl refl refl refl)
      (children_there site r (doing o) me k (record { children = refl; headers = λ i. refl }) (λ f. f) t.children))
    where
      is : objects_known_of (told now).objects site image ≡ now
      is = told_of_it site image now k.objects

      it : IsTrueOfImage site (doing o) me (told now) image
      it = record {
        owned = λ f. t.owned free image;
        drawn = waits;
        mapped = λ f. t.mapped free image;
        objects = λ f h known. subst (AreObjectsTrue (is_alone_on k site image) h.layout (object_at (doing o) image)) (sym is) (here h known);
        gone = λ gone. let g = t.gone image gone in record { drawn = g.drawn; header = g.header };
        apart = t.apart image;
        counted = t.counted image;
        seen = λ h among. seen_there r (doing o) image h refl (omega arith) (t.seen image h among);
        strange = t.strange image;
      }

  -- by a change
  told_true : (o : DataOp) (now : ObjectsKnown) → (is_drawn k.drawn site image ≡ true → ⊥)
      → ((h : HeaderView) → known_header k site image ≡ Some h → AreObjectsTrue (is_alone_on k site image) h.layout (object_at (doing o) image) now)
      → IsTrueAt site (doing o) me (told now)
  told_true o now undrawn here = known_true o now (λ drawn. absurd (undrawn drawn)) here

  -- what isn't done leaves all as it is
  refused : (o : DataOp) → data_after (r.objects image number) o ≡ r.objects image number → IsTrueAt site (doing o) me k
  refused o same = subst (λ s. IsTrueAt site s me k) (sym (with_object_same image number (data_after (r.objects image number) o) r same)) t

  -- ---- the object behind a change that was done

  head_then : (o : DataOp) → data_answer (r.objects image number) o ≡ answer.Done → (object_at (doing o) image number).head ≡ (data_change (object_at r image number) o).head
  head_then o done = ap (λ (m : Mapped). m.head) (changed_object r me image number o ∙ ap or_blank (done_after (r.objects image number) o done))

  heads_there : (o : DataOp) (n : ℕ) → n ≢ number → (object_at (doing o) image n).head ≡ (object_at r image n).head
  heads_there o n other = ap (λ (m : Mapped). m.head) (other_object r me image number o n other)

  -- ---- by one who owns the image

  module _ (condition : Sharing → HeaderView → Type 0) (owns : OwnsBy k site image condition) where
    undrawn : is_drawn k.drawn site image ≡ true → ⊥
    undrawn drawn = not_waiting site r me k image condition t free owns (t.drawn image drawn).header

    overwritten : (o : DataOp) → IsSome (object_at (doing o) image number).head → IsTrueAt site (doing o) me (told (made number known_of_it))
    overwritten o some =
        told_true o (made number known_of_it) undrawn
        (λ h known. made_true (is_alone_on k site image) h.layout (object_at r image) (object_at (doing o) image) known_of_it number (heads_there o) (t.objects free image h known) some)

    -- the layout of the header that is known is one
    laid : (h : HeaderView) → known_header k site image ≡ Some h → IsLayout h.layout
    laid h known =
        let there = find_there (sharing_on k site image) (known_header k site image) (r.headers image) h known (t.owned free image) in
        same_layout (sharing_on k site image) h there.view there.still (form.form image there.view there.is).layout

    zeroed : (context : SnapContext) (must : Bool) (parts : List Part) → (must ≡ true → IsSome (object_at r image number).head) → ((h : HeaderView) → known_header k site image ≡ Some h → All (IsPart h.layout number) parts)
        → data_answer (r.objects image number) (object.Zero context must parts) ≡ answer.Done → IsTrueAt site (doing (object.Zero context must parts)) me (told (blanked number (Some parts) (found_where must number known_of_it)))
    zeroed context must parts found lie done =
        told_true (object.Zero context must parts) (blanked number (Some parts) (found_where must number known_of_it)) undrawn
        (λ h known. zeroed_true (is_alone_on k site image) h.layout (object_at r image) (object_at (doing (object.Zero context must parts)) image) known_of_it number
        (heads_there (object.Zero context must parts)) (t.objects free image h known) (laid h known) must parts found (lie h known) (head_then (object.Zero context must parts) done))

    emptied : (context : SnapContext) → IsTrueAt site (doing (object.Empty context)) me (told (blanked number None (made number known_of_it)))
    emptied context =
        told_true (object.Empty context) (blanked number None (made number known_of_it)) undrawn
        (λ h known. emptied_true (is_alone_on k site image) h.layout (object_at r image) (object_at (doing (object.Empty context)) image) known_of_it number
        (heads_there (object.Empty context)) (t.objects free image h known) (head_then (object.Empty context) refl))

  -- an object that went
  gone : (context : SnapContext) → (is_drawn k.drawn site image ≡ true → ⊥) → IsTrueAt site (doing (object.Remove context)) me (told (removed number known_of_it))
  gone context undrawn =
      told_true (object.Remove context) (removed number known_of_it) undrawn
      (λ h known. removed_true (is_alone_on k site image) h.layout (object_at r image) (object_at (doing (object.Remove context)) image) known_of_it number
      (heads_there (object.Remove context)) (t.objects free image h known) (head_then (object.Remove context) refl))

  -- ---- each of them

  abbrev Teaches : DataOp → Answer → Type 0
  Teaches o a = IsTrueAt site (doing o) me (learned_of_object k site image number o a)

  written : (context : SnapContext) (must : Bool) (parts : List Part) (bytes : List ℕ) (condition : Sharing → HeaderView → Type 0) → OwnsBy k site image condition
      → (found : Bool) → finds must (object_at r image number) ≡ found → Teaches (object.Write context must parts bytes) (done_where found)
  written context must parts bytes condition owns false is =
      refused (object.Write context must parts bytes)
      (ap (λ b. where_object_done (done_where b) (data_change (object_at r image number) (object.Write context must parts bytes)) (r.objects image number)) is)
  written context must parts bytes condition owns true is =
      overwritten condition owns (object.Write context must parts bytes) (ap is_some (head_then (object.Write context must parts bytes) (ap done_where is)))

  -- a change that must find the object found it
  must_find : (must : Bool) → finds must (object_at r image number) ≡ true → must ≡ true → IsSome (object_at r image number).head
  must_find true is same = is
  must_find false is same = absurd (true≢false (sym same))

  zeros : (context : SnapContext) (must : Bool) (parts : List Part) (owns : OwnsBy k site image (MayZero k.turn number context parts))
      → (found : Bool) → finds must (object_at r image number) ≡ found → Teaches (object.Zero context must parts) (done_where found)
  zeros context must parts owns false is =
      refused (object.Zero context must parts)
      (ap (λ b. where_object_done (done_where b) (data_change (object_at r image number) (object.Zero context must parts)) (r.objects image number)) is)
  zeros context must parts owns true is = zeroed _ owns context must parts (must_find must is) lie (ap done_where is)
    where
      lie : (h : HeaderView) → known_header k site image ≡ Some h → All (IsPart h.layout number) parts
      lie h known =
          let same : owns.header ≡ h = same_Some owns.header h (sym (own_known k site image (MayZero k.turn number context parts) owns) ∙ known) in
          subst (λ (v : HeaderView). All (IsPart v.layout number) parts) same (All-weaker (LiesBelow owns.header number) (IsPart owns.header.layout number) (λ p lies. lies.part) parts owns.meets.within)

  removal : (context : SnapContext) → PermitsOnObject k site image number (object.Remove context) → IsTrueAt site (doing (object.Remove context)) me (told (removed number known_of_it))
  removal context (inl left) = gone context (λ drawn. true≢false (sym drawn ∙ t.apart image left.gone))
  removal context (inr owns) = gone context (undrawn _ owns)

  -- a read leaves all as it is
  looked : (snap : Option ℕ) (parts : List Part) → data_after (r.objects image number) (object.Read snap parts) ≡ r.objects image number
  looked snap parts = same (view (versioned (object_at r image number)) snap)
    where
      same : (content : Option (List ℕ)) → where_object_done (parts_read parts content) (object_at r image number) (r.objects image number) ≡ r.objects image number
      same None = refl
      same (Some bytes) = refl

  -- the object is there
  shown : (parts : List Part) → IsSome (object_at r image number).head → IsTrueAt site (doing (object.Read None parts)) me (told (found number known_of_it))
  shown parts some =
      known_true (object.Read None parts) (found number known_of_it) (λ drawn. subst (λ s. IsWaiting s image) (sym there) (t.drawn image drawn))
      (λ h known. subst (λ s. AreObjectsTrue (is_alone_on k site image) h.layout (object_at s image) (found number known_of_it)) (sym there)
      (found_true (is_alone_on k site image) h.layout (object_at r image) known_of_it number (t.objects free image h known) some))
    where
      there : doing (object.Read None parts) ≡ r
      there = with_object_same image number (data_after (r.objects image number) (object.Read None parts)) r (looked None parts)

  shown_where : (counts : Bool) (parts : List Part) → IsSome (object_at r image number).head → IsTrueAt site (doing (object.Read None parts)) me (with_objects_where counts site image (found number) k)
  shown_where true parts some = shown parts some
  shown_where false parts some = refused (object.Read None parts) (looked None parts)

  read : (snap : Option ℕ) (parts : List Part) (content : Option (List ℕ)) → view (versioned (object_at r image number)) snap ≡ content → Teaches (object.Read snap parts) (parts_read parts content)
  read snap parts None is = refused (object.Read snap parts) (looked snap parts)
  read (Some t) parts (Some bytes) is = refused (object.Read (Some t) parts) (looked (Some t) parts)
  read None parts (Some bytes) is = shown_where (keeps_object (own_of k.owns site image) k.turn number) parts (ap is_some is)

  pub object_taught : (o : DataOp) → PermitsOnObject k site image number o → Teaches o (answer_served r me (op.Data image number o))
  object_taught (object.Read snap parts) permits = read snap parts (view (versioned (object_at r image number)) snap) refl
  object_taught (object.Write context must parts bytes) permits = written context must parts bytes _ permits (finds must (object_at r image number)) refl
  object_taught (object.WriteFull context bytes) permits = overwritten _ permits (object.WriteFull context bytes) (ap is_some (head_then (object.WriteFull context bytes) refl))
  object_taught (object.Zero context must parts) permits = zeros context must parts permits (finds must (object_at r image number)) refl
  object_taught (object.Empty context) permits = emptied _ permits context
  object_taught (object.Remove context) permits = removal context permits
  object_taught _ permits = elim permits [ ]

-- What is permitted has its effect.
use Rattle.std.proofs.Common.{◌≡◌, ◌⊎◌, inl, inr, ℕ, ◌+◌, Bool, true, false, List, [], unwrap_or, Option, Some, None, is_some, refl, sym, ap, ◌∙◌, subst, true≢false}
use Rattle.std.specs.FinSet as finset
use Rattle.std.specs.Prelude.{All, IsFalse, slice_index}
use Rattle.std.proofs.lemmas.List.Elements.{All-weaker}
use Rattle.std.proofs.lemmas.Option.{none-some, same_Some}
use Rattle.rbd_kinds.specs.declared.answer.Answer.{Answer}
use Rattle.rbd_kinds.specs.declared.answer.Answer.TheVariants as answer
use Rattle.rbd_kinds.specs.declared.children_op.ChildrenOp.{ChildrenOp}
use Rattle.rbd_kinds.specs.declared.children_op.ChildrenOp.TheVariants as child
use Rattle.rbd_kinds.specs.declared.data_op.DataOp.{DataOp}
use Rattle.rbd_kinds.specs.declared.data_op.DataOp.TheVariants as object
use Rattle.rbd_kinds.specs.declared.directory_op.DirectoryOp.{DirectoryOp}
use Rattle.rbd_kinds.specs.declared.directory_op.DirectoryOp.TheVariants as directory
use Rattle.rbd_kinds.specs.declared.header.HeaderView.{HeaderView}
use Rattle.rbd_kinds.specs.declared.header.ParentLink.{ParentLink}
use Rattle.rbd_kinds.specs.declared.header.SnapContext.{SnapContext}
use Rattle.rbd_kinds.specs.declared.header_op.HeaderOp.{HeaderOp}
use Rattle.rbd_kinds.specs.declared.header_op.HeaderOp.TheVariants as header
use Rattle.rbd_kinds.specs.declared.id.Instance.{Instance}
use Rattle.rbd_kinds.specs.declared.id.SiteId.{SiteId}
use Rattle.rbd_kinds.specs.declared.layout.Part.{Part}
use Rattle.rbd_kinds.specs.declared.operation.Op.{Op}
use Rattle.rbd_kinds.specs.declared.operation.Op.TheVariants as op
use Rattle.rbd_kinds.specs.declared.sharing.Sharing.{Sharing}
use Rattle.rbd_kinds.specs.Sharing.{is_alone}
use Rattle.rbd_kinds.specs.Striping.{IsLayout, byte_at, object_of, offset_of}
use Rattle.rbd_layout.specs.Pieces.{IsPart, parts_at, places_in}
use Rattle.rbd_layout.proofs.Listed.{parts_listed}
use Rattle.rbd_header.specs.Header.{context_of, cut, snap_in}
use Rattle.rbd_map.specs.Covers.{Covers}
use Rattle.rbd_registry.specs.Directory.{holds_id, id_of}
use Rattle.rbd_registry.specs.Directory as listing
use Rattle.rbd_flat.specs.Flat.{Flat, FlatImage, image_at}
use Rattle.rbd_flat.specs.declared.effect.Effect.{Effect}
use Rattle.rbd_flat.specs.declared.effect.Effect.TheVariants as effect
use Rattle.rbd_machine.specs.Knowledge.{Blank, Knowledge, maps_of, objects_known_of}
use Rattle.rbd_machine.specs.Permits.{Permits, PermitsOnChildren, PermitsOnHeader, PermitsOnObject, IsInParts, IsOtherThan, IsZeroByChange, IsZeroByState, LiesBelow, MayEmpty, MayReplace, MaySize, MayUnlink, MayWrite, MayZero, OwnsAlone, OwnsBy}
use Rattle.rbd_site.specs.ChildrenStep.{entry}
use Rattle.rbd_site.specs.DataStep.{finds}
use Rattle.rbd_site.specs.DirectoryStep.{name_added, name_changed}
use Rattle.rbd_site.specs.Found.{done_where}
use Rattle.rbd_site.specs.HeaderStep.{header_answer}
use Rattle.rbd_site.specs.InForm.{AreInForm}
use Rattle.rbd_site.specs.Laws.{is_look, may_have_changed}
use Rattle.rbd_site.specs.Records.{Records, object_at}
use Rattle.rbd_site.specs.Step.{is_fenced, after, answer_to, answer_served}
use Rattle.rbd_site.specs.declared.done.DoneOp.TheVariants as done
use Rattle.rbd_site.proofs.GenerationLemmas.{looked_at}
use Rattle.rbd_site.proofs.StepLemmas.{refused}
use Rattle.rbd_stands.specs.Condition.{IsContextOf, IsFree, ArePartsBelow, AreWhole, IsPartBelow, NamesOther, IsZeroPast, IsZeroedFrom, extents_of}
use Rattle.rbd_stands.specs.Covering.{IsCovered, exists_at}
use Rattle.rbd_stands.specs.Effect.{effect_of, effect_of_data, effect_of_op, effect_of_making}
use Rattle.rbd_stands.specs.Image.{IsInside}
use Rattle.rbd_stands.specs.Shown.{IsInOverlap, snapshots_of, links_of}
use Rattle.rbd_stands.specs.Site.{StandsFor, StandsAt}
use Rattle.rbd_stands.specs.Unseen.{is_unseen}
use Rattle.rbd_stands.specs.View.{EachView}
use Rattle.rbd_stands.proofs.ChildSteps.{link_stands, unlink_stands}
use Rattle.rbd_stands.proofs.Contexts.{reversed_context}
use Rattle.rbd_stands.proofs.DataSteps.{empty_stands, remove_stands, replace_stands, write_stands, zero_stands}
use Rattle.rbd_stands.proofs.DirectorySteps.{free_stands, name_stands, rename_stands}
use Rattle.rbd_stands.proofs.EditSteps.{gone_stands, size_stands, status_stands, unnamed}
use Rattle.rbd_stands.proofs.EffectLemmas.{empty_effect, remove_effect, replace_effect, write_effect, zero_effect}
use Rattle.rbd_stands.proofs.ImageSteps.{create_stands, snap_stands, unsnap_stands}
use Rattle.rbd_stands.proofs.MapSteps.{map_stands}
use Rattle.rbd_stands.proofs.NoEffect.{listed_none, look_none, mapped_none, missing_none, refused_none, unseen_none}
use Rattle.rbd_stands.proofs.Served.{fenced_answer, free_answer}
use Rattle.rbd_stands.proofs.StoreSteps.{data_of_none, listed_stands, unseen_change}
use Rattle.rbd_interference.specs.Truth.{AreMapped, AreStatesOf, AreZeros, IsTrueAt, AreStandalone, changed_by, is_alone_on, is_own_alone, known_header}
use Rattle.rbd_interference.proofs.Done.{may_write}
use Rattle.rbd_interference.proofs.Headers.{IsThere, own_known, owned_there}
use Rattle.rbd_interference.proofs.Learned.{marks, takes, removes}
use Rattle.rbd_interference.proofs.Sharing.{alone_unshared}

module _ (site : SiteId) (r : Records) (f : Flat) (k : Knowledge) (me : Instance) (most : ℕ) (stands : StandsFor [] r f) (form : AreInForm r most) (standalone : AreStandalone r) (mapped : AreMapped r) (t : IsTrueAt site r me k) where
  abbrev HasItsEffect : Op → Type 0
  HasItsEffect o = StandsFor [] (after r me o) (changed_by f (effect_of r (done.Op o) (answer_to r me o)))

  -- with the effect of the answer that it has
  effects : (o : Op) (a : Answer) (e : Option Effect) → answer_to r me o ≡ a → effect_of r (done.Op o) a ≡ e → StandsFor [] (after r me o) (changed_by f e) → HasItsEffect o
  effects o a e answered is after_it = subst (λ a. StandsFor [] (after r me o) (changed_by f (effect_of r (done.Op o) a))) (sym answered) (subst (λ e. StandsFor [] (after r me o) (changed_by f e)) (sym is) after_it)

  look_effect : (o : Op) → is_look o ≡ true → HasItsEffect o
  look_effect o look = effects o (answer_to r me o) None refl (look_none r o (answer_to r me o) look) (subst (λ s. StandsFor [] s f) (sym (looked_at r me o look)) stands)

  refused_effect : (o : Op) (a : Answer) → answer_to r me o ≡ a → may_have_changed a ≡ false → HasItsEffect o
  refused_effect o a answered unchanged =
      effects o a None answered (refused_none r o a unchanged)
      (subst (λ s. StandsFor [] s f) (sym (refused r me o (ap may_have_changed answered ∙ unchanged))) stands)

  -- A fenced instance has none, so it is enough that what is served has its effect.
  where_served : (o : Op) → (IsFalse (is_fenced r me) → answer_to r me o ≡ answer_served r me o → HasItsEffect o) → HasItsEffect o
  where_served o served = go (is_fenced r me) refl
    where
      go : (b : Bool) → is_fenced r me ≡ b → HasItsEffect o
      go true fenced = refused_effect o answer.Fenced (fenced_answer r me o fenced) refl
      go false free = served free (sym (free_answer r me o free))

  add_effect : (name : List ℕ) (held : Option ℕ) (full : Bool) → answer_to r me (op.Directory (directory.Add name)) ≡ name_added held full (r.directory.drawn + 1) → HasItsEffect (op.Directory (directory.Add name))
  add_effect name (Some image) full answered = refused_effect (op.Directory (directory.Add name)) answer.Exists answered refl
  add_effect name None true answered = refused_effect (op.Directory (directory.Add name)) answer.Full answered refl
  add_effect name None false answered =
      effects (op.Directory (directory.Add name)) (answer.Id (r.directory.drawn + 1)) (Some (effect.Name name (r.directory.drawn + 1))) answered refl
      (name_stands [] r f me name (r.directory.drawn + 1) stands answered)

  rename_effect : (from to : List ℕ) (held taken : Option ℕ) → answer_to r me (op.Directory (directory.Rename from to)) ≡ name_changed held taken → HasItsEffect (op.Directory (directory.Rename from to))
  rename_effect from to None taken answered = refused_effect (op.Directory (directory.Rename from to)) answer.Absent answered refl
  rename_effect from to (Some image) (Some other) answered = refused_effect (op.Directory (directory.Rename from to)) answer.Exists answered refl
  rename_effect from to (Some image) None answered =
      effects (op.Directory (directory.Rename from to)) answer.Done (Some (effect.Rename from to)) answered refl (rename_stands [] r f me from to stands answered)

  free_effect : (image : ℕ) (held : Bool) → answer_to r me (op.Directory (directory.Remove image)) ≡ done_where held → HasItsEffect (op.Directory (directory.Remove image))
  free_effect image false answered = refused_effect (op.Directory (directory.Remove image)) answer.Absent answered refl
  free_effect image true answered = effects (op.Directory (directory.Remove image)) answer.Done (Some (effect.NameFree image)) answered refl (free_stands [] r f me image stands answered)

  directory_effect : (o : DirectoryOp) → HasItsEffect (op.Directory o)
  directory_effect (directory.Find name) = look_effect (op.Directory (directory.Find name)) refl
  directory_effect directory.List = look_effect (op.Directory directory.List) refl
  directory_effect (directory.Add name) = where_served (op.Directory (directory.Add name)) (λ free served. add_effect name (id_of r.directory name) (listing.is_full r.directory) served)
  directory_effect (directory.Rename from to) = where_served (op.Directory (directory.Rename from to)) (λ free served. rename_effect from to (id_of r.directory from) (id_of r.directory to) served)
  directory_effect (directory.Remove image) = where_served (op.Directory (directory.Remove image)) (λ free served. free_effect image (holds_id image r.directory) served)

  -- an image without a header isn't there
  no_image : (image : ℕ) → r.headers image ≡ None → image_at f image ≡ None
  no_image image none =
      by (image_at f image) (subst (λ h. StandsAt (snapshots_of f) (links_of f image) h (object_at r image) (image_at f image)) none (stands.images image))
    where
      by : (there : Option FlatImage) → StandsAt (snapshots_of f) (links_of f image) None (object_at r image) there → there ≡ None
      by None at = refl
      by (Some i) at = elim at [ ]

  -- a parent that is no view's
  other_parent : (image snap : ℕ) (parent : Option ParentLink) → IsOtherThan image snap parent → NamesOther image snap parent
  other_parent image snap None other = tt
  other_parent image snap (Some link) other = other link refl

  -- Who takes a link away makes the child, and so it has no header yet; or removed its header; or
  -- knows its header, but for a parent that is gone.
  link_is_free : IsFalse (is_fenced r me) → (parent snap image : ℕ) → MayUnlink k site parent snap image → IsFree [] r parent snap image
  link_is_free free parent snap image may = record { views = by may; awaited = λ n p is. cc }
    where
      by : MayUnlink k site parent snap image → (h : HeaderView) → r.headers image ≡ Some h → EachView h (λ v shape. NamesOther parent snap shape.parent)
      by (inl makes) h is = absurd (none-some h (sym (t.drawn image makes).header ∙ is))
      by (inr (inl gone)) h is = absurd (none-some h (sym (t.gone image gone).header ∙ is))
      by (inr (inr owns)) h is =
          let there = owned_there site r me k image _ t free owns in
          let same : h ≡ there.view = same_Some h there.view (sym is ∙ there.is) in
          subst (λ v. EachView v (λ w shape. NamesOther parent snap shape.parent)) (sym same) (record {
            head = head there.view.parent there.still.parent;
            snap = λ n s listed. other_parent parent snap s.parent (owns.meets.snaps n s (ap (λ (v : HeaderView). snap_in v.snaps n) (sym there.still.same) ∙ listed));
          })
        where
          head : (now : Option ParentLink) → (now ≡ owns.header.parent) ⊎ (now ≡ None) → NamesOther parent snap now
          head now (inl same) = subst (NamesOther parent snap) (sym same) (other_parent parent snap owns.header.parent owns.meets.head)
          head now (inr none) = subst (NamesOther parent snap) (sym none) tt

  unlink_effect : (parent snap image : ℕ) → MayUnlink k site parent snap image → IsFalse (is_fenced r me) → (there : Bool)
      → answer_to r me (op.Children (child.Remove parent snap image)) ≡ done_where there → HasItsEffect (op.Children (child.Remove parent snap image))
  unlink_effect parent snap image may free false answered = refused_effect (op.Children (child.Remove parent snap image)) answer.Absent answered refl
  unlink_effect parent snap image may free true answered =
      effects (op.Children (child.Remove parent snap image)) answer.Done (Some (effect.Unlink parent snap image)) answered refl
      (unlink_stands [] r f me parent snap image stands (link_is_free free parent snap image may) answered)

  children_effect : (o : ChildrenOp) → PermitsOnChildren k site o → HasItsEffect (op.Children o)
  children_effect (child.Add parent snap image) permits = where_served (op.Children (child.Add parent snap image)) (λ free served.
      effects (op.Children (child.Add parent snap image)) answer.Done (Some (effect.Link parent snap image)) served refl (link_stands [] r f me parent snap image stands served))
  children_effect (child.Remove parent snap image) permits = where_served (op.Children (child.Remove parent snap image)) (λ free served.
      unlink_effect parent snap image permits free (finset.contains r.children (entry parent snap image)) served)
  children_effect (child.List parent snap) permits = look_effect (op.Children (child.List parent snap)) refl

  -- a flat site has neither locks nor watchers, nor a blocklist
  unseen_effect : (image : ℕ) (o : HeaderOp) → is_unseen o ≡ true → HasItsEffect (op.Header image o)
  unseen_effect image o unseen =
      effects (op.Header image o) (answer_to r me (op.Header image o)) None refl (unseen_none r image o (answer_to r me (op.Header image o)) unseen) (unseen_change [] r f me image o stands unseen)

  listed_effect : (i : Instance) → HasItsEffect (op.BlockAdd i)
  listed_effect i = effects (op.BlockAdd i) (answer_to r me (op.BlockAdd i)) None refl (listed_none r i (answer_to r me (op.BlockAdd i))) (listed_stands [] r f me i stands)

  -- A shrink leaves zeros: by the states of the map, which cover the objects, or by its own
  -- changes.
  module _ (free : IsFalse (is_fenced r me)) (image to : ℕ) (owns : OwnsAlone k site image (MaySize (maps_of k.maps site image) (objects_known_of k.objects site image) to)) where
    abbrev there_is : IsThere owns.sharing owns.header (r.headers image)
    there_is = owned_there site r me k image _ t free owns

    exact : there_is.view ≡ record owns.header { owner = there_is.view.owner }
    exact = there_is.still.exact (inl (alone_unshared owns.sharing owns.meets.0))

    alone : is_alone_on k site image ≡ true
    alone = ap is_own_alone owns.is ∙ ap is_alone owns.meets.0

    known : known_header k site image ≡ Some owns.header
    known = own_known k site image _ owns

    abbrev head_at : (x : ℕ) → Option (List ℕ)
    head_at x = (object_at r image (object_of owns.header.layout x)).head

    zero_where_absent : (x : ℕ) → head_at x ≡ None → slice_index (unwrap_or (head_at x) []) (offset_of owns.header.layout x) ≡ 0
    zero_where_absent x none = ap (λ head. slice_index (unwrap_or head []) (offset_of owns.header.layout x)) none

    zero_by_state : (x : ℕ) → IsZeroByState (maps_of k.maps site image) owns.header x → slice_index (unwrap_or (head_at x) []) (offset_of owns.header.layout x) ≡ 0
    zero_by_state x state = zero_where_absent x (missing (head_at x) (covers.absent (object_of owns.header.layout x) (sym (are.same (object_of owns.header.layout x)) ∙ state.none)))
      where
        are : AreStatesOf state.states (r.maps image None)
        are = (t.mapped free image (ap is_some known)).states alone state.states state.told

        covers : Covers are.there (exists_at (object_at r image) None)
        covers = subst (λ map. IsCovered map (exists_at (object_at r image) None)) are.is (mapped.images image there_is.view there_is.is).covered.head

        missing : (head : Option (List ℕ)) → is_some head ≡ false → head ≡ None
        missing None absent = refl
        missing (Some bytes) absent = absurd (true≢false absent)

    zero_by_change : (x : ℕ) → IsZeroByChange (objects_known_of k.objects site image) owns.header x → slice_index (unwrap_or (head_at x) []) (offset_of owns.header.layout x) ≡ 0
    zero_by_change x (n, b, within, is, at) =
        subst (λ o. slice_index (unwrap_or (object_at r image o).head []) (offset_of owns.header.layout x) ≡ 0) at.0
        (by b.parts at.1
        (subst (λ (c : Blank). AreZeros owns.header.layout (object_at r image c.object).head c.parts) is ((t.objects free image owns.header known).blank alone n b within)))
      where
        by : (parts : Option (List Part)) → IsInParts parts x → AreZeros owns.header.layout (object_at r image b.object).head parts
            → slice_index (unwrap_or (object_at r image b.object).head []) (offset_of owns.header.layout x) ≡ 0
        by None among zeros = zeros (offset_of owns.header.layout x)
        by (Some parts) among zeros = zeros x among

    zeroed_of_own : IsZeroedFrom owns.header to (object_at r image)
    zeroed_of_own = record {
      zeros = λ x past before. by x (owns.meets.1.zeroed x past before);
      copied_up = λ x past before inside. elim (subst (λ parent. IsInOverlap (cut to parent) (byte_at owns.header.layout (object_of owns.header.layout x) 0)) no_parent inside) [ ];
    }
      where
        no_parent : owns.header.parent ≡ None
        no_parent = sym (ap (λ (h : HeaderView). h.parent) exact) ∙ (standalone image there_is.view there_is.is).no_parent

        by : (x : ℕ) → IsZeroByState (maps_of k.maps site image) owns.header x ⊎ IsZeroByChange (objects_known_of k.objects site image) owns.header x
            → slice_index (unwrap_or (head_at x) []) (offset_of owns.header.layout x) ≡ 0
        by x (inl state) = zero_by_state x state
        by x (inr change) = zero_by_change x change

    zeroed_from : IsZeroedFrom there_is.view to (object_at r image)
    zeroed_from = subst (λ h. IsZeroedFrom h to (object_at r image)) (sym exact) (record { zeros = zeroed_of_own.zeros; copied_up = zeroed_of_own.copied_up })

  header_effect : (image : ℕ) (o : HeaderOp) → PermitsOnHeader k site image o → HasItsEffect (op.Header image o)
  header_effect image header.Get permits = look_effect (op.Header image header.Get) refl
  header_effect image (header.Create view) permits = where_served (op.Header image (header.Create view)) (λ free served.
      let waiting = t.drawn image permits.drawn in
      let answered : answer_to r me (op.Header image (header.Create view)) ≡ answer.Done = served ∙ ap (λ h. header_answer me h (r.watchers image) (header.Create view)) waiting.header in
      effects (op.Header image (header.Create view)) answer.Done (Some (effect.Create image view.size view.role)) answered
      (ap (λ parent. Some (effect_of_making image view.size view.role parent)) permits.no_parent)
      (create_stands [] r f me image view stands waiting.drawn (record { header = waiting.header; flat = no_image image waiting.header; blank = waiting.blank }) permits.new permits.no_parent answered))
  header_effect image (header.SetSize to) permits = where_served (op.Header image (header.SetSize to)) (λ free served.
      let there = owned_there site r me k image _ t free permits in
      let answered : answer_to r me (op.Header image (header.SetSize to)) ≡ answer.Done = served ∙ ap (λ h. header_answer me h (r.watchers image) (header.SetSize to)) there.is in
      effects (op.Header image (header.SetSize to)) answer.Done (Some (effect.Size image to)) answered refl
      (size_stands [] r f me image to there.view stands there.is (zeroed_from free image to permits) answered))
  header_effect image header.Remove permits = where_served (op.Header image header.Remove) (λ free served.
      let there = owned_there site r me k image _ t free permits in
      let answered : answer_to r me (op.Header image header.Remove) ≡ answer.Done = served ∙ ap (λ h. header_answer me h (r.watchers image) header.Remove) there.is in
      effects (op.Header image header.Remove) answer.Done (Some (effect.Gone image)) answered refl
      (gone_stands [] r f me image there.view stands there.is (ap (λ (h : HeaderView). h.snaps) there.still.same ∙ permits.meets.1) answered))
  header_effect image (header.SnapAdd name) permits = where_served (op.Header image (header.SnapAdd name)) (λ free served.
      let edits = takes site r me k t free image name permits in
      let snap = (owned_there site r me k image _ t free permits).view.snap_seq + 1 in
      effects (op.Header image (header.SnapAdd name)) (answer.Snap snap) (Some (effect.Snap image snap name)) (served ∙ edits.answered) refl
      (snap_stands [] r f me image snap name stands (served ∙ edits.answered)))
  header_effect image (header.SnapRemove snap) permits = where_served (op.Header image (header.SnapRemove snap)) (λ free served.
      let there = owned_there site r me k image _ t free permits in
      let edits = removes site r me k t free image snap permits in
      let may = permits.meets.1 in
      effects (op.Header image (header.SnapRemove snap)) answer.Done (Some (effect.Unsnap image snap)) (served ∙ edits.answered) refl
      (unsnap_stands [] r f me image snap stands
      (unnamed [] r f image snap there.view may.view stands there.is (ap (λ (h : HeaderView). snap_in h.snaps snap) there.still.same ∙ may.listed) may.unprotected)
      (served ∙ edits.answered)))
  header_effect image (header.SnapStatus snap status) permits = where_served (op.Header image (header.SnapStatus snap status)) (λ free served.
      let edits = marks site r me k t free image snap status permits in
      effects (op.Header image (header.SnapStatus snap status)) answer.Done (Some (effect.Status image snap status)) (served ∙ edits.answered) refl
      (status_stands [] r f me image snap status stands (λ freed. (t.children.childless free image snap (permits.meets.1.frees freed)).unnamed) (served ∙ edits.answered)))
  header_effect image header.LockTake permits = unseen_effect image header.LockTake refl
  header_effect image header.LockDrop permits = unseen_effect image header.LockDrop refl
  header_effect image (header.LockBreak owner) permits = unseen_effect image (header.LockBreak owner) refl
  header_effect image header.Watch permits = unseen_effect image header.Watch refl
  header_effect image header.Unwatch permits = unseen_effect image header.Unwatch refl
  header_effect image header.WatchersGet permits = unseen_effect image header.WatchersGet refl
  header_effect image (header.Notify kind) permits = unseen_effect image (header.Notify kind) refl
  header_effect image _ permits = elim permits [ ]

  -- ---- objects of an image that it owns

  module _ (free : IsFalse (is_fenced r me)) (image number : ℕ) (condition : Sharing → HeaderView → Type 0) (owns : OwnsBy k site image condition) where
    abbrev there : IsThere owns.sharing owns.header (r.headers image)
    there = owned_there site r me k image condition t free owns

    abbrev now : HeaderView
    now = there.view

    laid : IsLayout now.layout
    laid = (form.form image now there.is).layout

    under : (context : SnapContext) → context ≡ context_of owns.header → IsContextOf now context
    under context same = subst (IsContextOf now) (ap context_of there.still.same ∙ sym same) (reversed_context now)

    -- no image has a parent yet
    outside : IsInside now number → ⊥
    outside inside = elim (subst (λ parent. IsInOverlap parent (byte_at now.layout number 0)) (standalone image now there.is).no_parent inside) [ ]

    parts_lie : (parts : List Part) → All (LiesBelow owns.header number) parts → ArePartsBelow now now.size number parts
    parts_lie parts lie =
        subst (λ w. ArePartsBelow w w.size number parts) (sym there.still.same)
        (All-weaker (LiesBelow owns.header number) (IsPartBelow (record owns.header { owner = now.owner; generation = now.generation; parent = now.parent }) owns.header.size number) (λ p lies. record { part = lies.part; below = lies.below }) parts lie)

    -- all places of the object
    abbrev all_parts : List Part
    all_parts = parts_at now.layout (places_in now.layout (record { at = 0; len = now.size }) number)

    are_whole : AreWhole now number all_parts
    are_whole = parts_listed now.layout laid (record { at = 0; len = now.size }) number

    -- where it was done, and has this effect
    done_so : (o : DataOp) (e : Effect) → answer_to r me (op.Data image number o) ≡ answer.Done → effect_of_data image number now o ≡ Some e
        → StandsFor [] (after r me (op.Data image number o)) (changed_by f (Some e)) → HasItsEffect (op.Data image number o)
    done_so o e answered is after_it =
        effects (op.Data image number o) answer.Done (Some e) answered (ap (λ h. effect_of_op h (op.Data image number o) answer.Done) there.is ∙ is) after_it

  write_effects : (image number : ℕ) (context : SnapContext) (must : Bool) (parts : List Part) (bytes : List ℕ) → OwnsBy k site image (MayWrite (maps_of k.maps site image) k.turn number context parts bytes)
      → IsFalse (is_fenced r me) → answer_to r me (op.Data image number (object.Write context must parts bytes)) ≡ answer_served r me (op.Data image number (object.Write context must parts bytes))
      → (found : Bool) → finds must (object_at r image number) ≡ found → HasItsEffect (op.Data image number (object.Write context must parts bytes))
  write_effects image number context must parts bytes owns free served false lacks =
      refused_effect (op.Data image number (object.Write context must parts bytes)) answer.Absent (served ∙ ap done_where lacks) refl
  write_effects image number context must parts bytes owns free served true has =
      let place = there free image number _ owns in
      let may = may_write site r me k most form t free image number context parts bytes owns in
      let answered : answer_to r me (op.Data image number (object.Write context must parts bytes)) ≡ answer.Done = served ∙ ap done_where has in
      let lie = parts_lie free image number _ owns parts owns.meets.within in
      done_so free image number _ owns (object.Write context must parts bytes) (effect.Piece image (extents_of parts) bytes) answered
      (write_effect place.view image number context must parts bytes (laid free image number _ owns) lie may)
      (write_stands [] r f me image number place.view context must parts bytes stands place.is (under free image number _ owns context owns.meets.under) may lie
      (λ inside. absurd (outside free image number _ owns inside)) answered)

  zero_effects : (image number : ℕ) (context : SnapContext) (must : Bool) (parts : List Part) → OwnsBy k site image (MayZero k.turn number context parts)
      → IsFalse (is_fenced r me) → answer_to r me (op.Data image number (object.Zero context must parts)) ≡ answer_served r me (op.Data image number (object.Zero context must parts))
      → (found : Bool) → finds must (object_at r image number) ≡ found → HasItsEffect (op.Data image number (object.Zero context must parts))
  zero_effects image number context must parts owns free served false lacks =
      refused_effect (op.Data image number (object.Zero context must parts)) answer.Absent (served ∙ ap done_where lacks) refl
  zero_effects image number context must parts owns free served true has =
      let place = there free image number _ owns in
      let answered : answer_to r me (op.Data image number (object.Zero context must parts)) ≡ answer.Done = served ∙ ap done_where has in
      let lie = parts_lie free image number _ owns parts owns.meets.within in
      done_so free image number _ owns (object.Zero context must parts) (effect.Zero image (extents_of parts)) answered
      (zero_effect place.view image number context must parts (laid free image number _ owns) lie)
      (zero_stands [] r f me image number place.view context must parts stands place.is (under free image number _ owns context owns.meets.under)
      (All-weaker (IsPartBelow place.view place.view.size number) (IsPart place.view.layout number) (λ p lies. lies.part) parts lie)
      (λ inside. absurd (outside free image number _ owns inside)) answered)

  empty_effects : (image number : ℕ) (context : SnapContext) → OwnsBy k site image (MayEmpty (maps_of k.maps site image) k.turn number context)
      → IsFalse (is_fenced r me) → answer_to r me (op.Data image number (object.Empty context)) ≡ answer.Done → HasItsEffect (op.Data image number (object.Empty context))
  empty_effects image number context owns free answered =
      let place = there free image number _ owns in
      let whole = are_whole free image number _ owns in
      let parts = all_parts free image number _ owns in
      done_so free image number _ owns (object.Empty context) (effect.Zero image (extents_of parts)) answered
      (empty_effect place.view image number context parts (laid free image number _ owns) whole)
      (empty_stands [] r f me image number place.view context parts stands place.is (under free image number _ owns context owns.meets.under) whole answered)

  removal_effects : (image number : ℕ) (context : SnapContext) → PermitsOnObject k site image number (object.Remove context)
      → IsFalse (is_fenced r me) → answer_to r me (op.Data image number (object.Remove context)) ≡ answer.Done → HasItsEffect (op.Data image number (object.Remove context))
  removal_effects image number context (inl left) free answered =
      let g = t.gone image left.gone in
      effects (op.Data image number (object.Remove context)) answer.Done None answered (missing_none r image number (object.Remove context) answer.Done g.header)
      (data_of_none [] r f me image number (object.Remove context) stands g.header g.drawn)
  removal_effects image number context (inr owns) free answered =
      let place = there free image number _ owns in
      let whole = are_whole free image number _ owns in
      let parts = all_parts free image number _ owns in
      done_so free image number _ owns (object.Remove context) (effect.Zero image (extents_of parts)) answered
      (remove_effect place.view image number context parts (laid free image number _ owns) whole)
      (remove_stands [] r f me image number place.view context parts stands place.is (under free image number _ owns context owns.meets.under) whole (outside free image number _ owns) answered)

  replace_effects : (image number : ℕ) (context : SnapContext) (bytes : List ℕ) → OwnsBy k site image (MayReplace (maps_of k.maps site image) k.turn number context bytes)
      → IsFalse (is_fenced r me) → answer_to r me (op.Data image number (object.WriteFull context bytes)) ≡ answer.Done → HasItsEffect (op.Data image number (object.WriteFull context bytes))
  replace_effects image number context bytes owns free answered =
      let place = there free image number _ owns in
      let whole = are_whole free image number _ owns in
      let parts = all_parts free image number _ owns in
      let clear : IsZeroPast place.view number bytes = subst (λ h. IsZeroPast h number bytes) (sym place.still.same) owns.meets.clear in
      done_so free image number _ owns (object.WriteFull context bytes) (effect.Piece image (extents_of parts) bytes) answered
      (replace_effect place.view image number context bytes parts (laid free image number _ owns) whole)
      (replace_stands [] r f me image number place.view context bytes parts stands place.is (under free image number _ owns context owns.meets.under) whole clear answered)

  object_effect : (image number : ℕ) (o : DataOp) → PermitsOnObject k site image number o → HasItsEffect (op.Data image number o)
  object_effect image number (object.Read snap parts) permits = look_effect (op.Data image number (object.Read snap parts)) refl
  object_effect image number (object.Write context must parts bytes) permits = where_served (op.Data image number (object.Write context must parts bytes)) (λ free served.
      write_effects image number context must parts bytes permits free served (finds must (object_at r image number)) refl)
  object_effect image number (object.WriteFull context bytes) permits =
      where_served (op.Data image number (object.WriteFull context bytes)) (λ free served. replace_effects image number context bytes permits free served)
  object_effect image number (object.Zero context must parts) permits = where_served (op.Data image number (object.Zero context must parts)) (λ free served.
      zero_effects image number context must parts permits free served (finds must (object_at r image number)) refl)
  object_effect image number (object.Empty context) permits = where_served (op.Data image number (object.Empty context)) (λ free served. empty_effects image number context permits free served)
  object_effect image number (object.Remove context) permits = where_served (op.Data image number (object.Remove context)) (λ free served. removal_effects image number context permits free served)
  object_effect image number _ permits = elim permits [ ]

  pub has_its_effect : (o : Op) → Permits k site o → HasItsEffect o
  has_its_effect (op.Directory o) permits = directory_effect o
  has_its_effect (op.Children o) permits = children_effect o permits
  has_its_effect (op.BlockAdd i) permits = listed_effect i
  has_its_effect (op.Header image o) permits = header_effect image o permits
  has_its_effect (op.Data image number o) permits = object_effect image number o permits
  has_its_effect (op.Map image o) permits = effects (op.Map image o) (answer_to r me (op.Map image o)) None refl (mapped_none r image o (answer_to r me (op.Map image o))) (map_stands [] r f me image o stands)
  has_its_effect _ permits = elim permits [ ]

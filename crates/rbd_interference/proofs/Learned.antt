-- What a request learns by its own operations, and behind its waits, is true.
use Rattle.std.proofs.Common.{◌≡◌, ◌≢◌, ◌⊎◌, inl, inr, ℕ, ◌<◌, ◌≤◌, ◌==◌, ◌+◌, cond, Bool, true, false, List, [], Option, Some, None, option_map, refl, sym, ap, ◌∙◌, subst, arith}
use Rattle.std.specs.Prelude.{IsFalse, IsSome, is_some}
use Rattle.std.proofs.lemmas.Bool.{true≢false, cases_lt, eqb-true, and_parts}
use Rattle.std.proofs.lemmas.Option.{none-some, same_Some}
use Rattle.rbd_kinds.specs.declared.answer.Answer.{Answer}
use Rattle.rbd_kinds.specs.declared.answer.Answer.TheVariants as answer
use Rattle.rbd_kinds.specs.declared.children_op.ChildrenOp.TheVariants as child
use Rattle.rbd_kinds.specs.declared.data_op.DataOp.{DataOp}
use Rattle.rbd_kinds.specs.declared.data_op.DataOp.TheVariants as object
use Rattle.rbd_kinds.specs.declared.directory_op.DirectoryOp.{DirectoryOp}
use Rattle.rbd_kinds.specs.declared.directory_op.DirectoryOp.TheVariants as directory
use Rattle.rbd_kinds.specs.declared.header.HeaderView.{HeaderView}
use Rattle.rbd_kinds.specs.declared.header.SnapStatus.{SnapStatus}
use Rattle.rbd_kinds.specs.declared.header_op.HeaderOp.{HeaderOp}
use Rattle.rbd_kinds.specs.declared.header_op.HeaderOp.TheVariants as header
use Rattle.rbd_kinds.specs.declared.id.Instance.{Instance}
use Rattle.rbd_kinds.specs.declared.id.SiteId.{SiteId}
use Rattle.rbd_kinds.specs.declared.map_op.MapOp.{MapOp}
use Rattle.rbd_kinds.specs.declared.map_op.MapOp.TheVariants as states
use Rattle.rbd_kinds.specs.declared.operation.Op.{Op}
use Rattle.rbd_kinds.specs.declared.operation.Op.TheVariants as op
use Rattle.rbd_machine.specs.Ancestors.{ChildBase, ChildLink, HeaderSeen, ObjectTold, SnapPlace, has_seen, seen_by, told_by}
use Rattle.rbd_machine.specs.Children.{based_by, childless_by, linked_by}
use Rattle.rbd_machine.specs.Knowledge.{Knowledge, Own, afresh, first_told, header_alone, header_told, is_at, is_drawn, is_fence_of, is_fenced_by, is_gone, learned, learned_of_directory, learned_of_header, learned_of_listing, learned_of_map, learned_of_object, learned_own, looked_by, looked_under_lock, maps_of, objects_known_of, only_there, own_of, removed_header, same_site, unmapped, unmarked, with_drawn, with_fence, without_drawn, without_fence}
use Rattle.rbd_kinds.specs.declared.sharing.Sharing.{Sharing}
use Rattle.rbd_kinds.specs.Sharing.{is_alone}
use Rattle.rbd_machine.specs.Permits.{Permits, PermitsOnHeader, OwnsBy, OwnsAlone, MayMake, MayMark, MaySize, MayTakeSnap, MayRemove}
use Rattle.rbd_kinds.specs.Header.{snap_named}
use Rattle.rbd_kinds.specs.Instances.{same_instance}
use Rattle.rbd_kinds.proofs.Images.{at_itself}
use Rattle.rbd_kinds.proofs.Instances.{same_instance_is}
use Rattle.rbd_header.specs.Header.{with_size, with_snap, with_status, without_snap, snap_in, is_full}
use Rattle.rbd_header.specs.Later.{IsLaterOf}
use Rattle.rbd_header.proofs.Later.{later_itself}
use Rattle.rbd_machine.proofs.AtLeast.{own_as_before}
use Rattle.rbd_machine.proofs.Lawful.{left_here, told_first}
use Rattle.rbd_registry.specs.Directory.{added, id_of}
use Rattle.rbd_registry.specs.Directory as listing
use Rattle.rbd_flat.specs.Flat.{Flat, image_at}
use Rattle.rbd_site.specs.DirectoryStep.{name_added, where_added}
use Rattle.rbd_site.specs.HeaderStep.{header_after, header_answer, snap_added, where_made}
use Rattle.rbd_site.specs.Found.{done_where}
use Rattle.rbd_site.specs.InForm.{AreInForm}
use Rattle.rbd_site.specs.Records.{Records, object_at, with_directory}
use Rattle.rbd_site.specs.Step.{is_fenced, after, after_served, answer_to, answer_served}
use Rattle.rbd_site.proofs.GenerationLemmas.{looked_at}
use Rattle.rbd_stands.specs.Site.{StandsFor}
use Rattle.rbd_stands.proofs.ObjectSteps.{put_there, put_elsewhere}
use Rattle.rbd_stands.proofs.Served.{where_either}
use Rattle.rbd_stands.specs.Condition.{IsDrawn}
use Rattle.rbd_stands.specs.Shown.{links_of, snapshots_of}
use Rattle.rbd_stands.proofs.SiteSteps.{here}
use Rattle.rbd_stands.proofs.EditSteps.{drawn_served}
use Rattle.rbd_interference.specs.Ancestors.{AreSeenTrue, DrewNoneOf, IsSeenTrue}
use Rattle.rbd_interference.specs.Truth.{AreChildrenTrue, AreMapped, AreMapsTrue, AreObjectsTrue, HasAtLeast, IsCountTrue, IsGoneAt, IsStill, IsTrueAt, IsWaiting, KnowsNoHeader, header_of_own, is_alone_on, is_own_alone, known_header, sharing_of_own, sharing_on, IsStillOwn}
use Rattle.rbd_interference.proofs.Children.{keeps_header}
use Rattle.rbd_interference.proofs.ChildrenLearned.{children_served}
use Rattle.rbd_interference.proofs.Drawn.{drawn_elsewhere, drawn_left}
use Rattle.rbd_interference.proofs.Each.{AreImagesTrue, IsKnownAs, IsThereAs, IsTrueOfImage, alike_true, each_true, of_image, of_images, true_as}
use Rattle.rbd_interference.proofs.Fenced.{served_is, where_free, is_put_up, stays_put_up}
use Rattle.rbd_interference.proofs.Headers.{own_known, owned_there, not_waiting, unknown_of_none, still_exactly}
use Rattle.rbd_interference.proofs.Kept.{kept_by, seen_kept}
use Rattle.rbd_interference.proofs.Less.{Told, afresh_less, left_there, less_true, nothing_of, telling_true, told_then, unfenced_less, with_told}
use Rattle.rbd_interference.proofs.MapsBehind.{nothing_mapped}
use Rattle.rbd_interference.proofs.MapsLearned.{at_no_other, map_taught, told_of_others}
use Rattle.rbd_interference.proofs.ObjectsLearned.{object_taught}
use Rattle.rbd_interference.proofs.Seen.{among_seen, header_got, seen_after, seen_drawn}
use Rattle.rbd_interference.proofs.Told.{header_changed, told_sharing, told_apart, told_here}
use Rattle.rbd_interference.proofs.Sharing.{alone_unshared}

-- ---- what it is told of a header

-- what it is told of an image's header is true, and so is what else it knows of the image
pub record IsTold (site : SiteId) (new : Records) (k : Knowledge) (image : ℕ) (sharing : Sharing) (h : HeaderView) : Type 0 where
  pub still : IsStill sharing (Some h) (new.headers image)
  pub mapped : AreMapsTrue (is_alone sharing) (new.maps image) (maps_of k.maps site image)
  pub objects : AreObjectsTrue (is_alone sharing) h.layout (object_at new image) (objects_known_of k.objects site image)

module _ (site : SiteId) (r new : Records) (me : Instance) (k : Knowledge) (t : IsTrueAt site r me k) (was : IsFalse (is_fenced new me) → IsFalse (is_fenced r me))
    (fences : (i : Instance) → is_fenced_by k.fenced site i ≡ true → is_fenced new i ≡ true) (image : ℕ) (others : (i : ℕ) → i ≢ image → IsThereAs r new i)
    (change : Option HeaderView → Option HeaderView) (o : Option Own) (at : own_of k.owns site image ≡ o) where
  -- what it was told of one image
  pub told_true : (is_drawn k.drawn site image ≡ true → IsWaiting new image) → (is_gone k.gone site image ≡ true → IsGoneAt new image)
      → ((h : HeaderView) → IsSeenTrue r image h → IsSeenTrue new image h)
      → new.maps image ≡ r.maps image → ((h : HeaderView) → header_changed change o ≡ Some h → IsTold site new k image (sharing_of_own o) h)
      → AreImagesTrue site new me (header_told site image change k)
  told_true waits goes sees maps told =
      each_true site r new me k learnt image t was fences it
      (λ i other. record { own = told_apart site site image i change (at_no_other site image i other) k.owns; drawn = refl; maps = refl; objects = refl; gone = refl; seen = refl })
      others
    where
      learnt : Knowledge
      learnt = header_told site image change k

      header_is : known_header learnt site image ≡ header_changed change o
      header_is = told_here site image change k.owns ∙ ap (header_changed change) at

      sharing_is : sharing_on learnt site image ≡ sharing_of_own o
      sharing_is = told_sharing site site image image change k.owns ∙ ap sharing_of_own at

      alone_is : is_alone_on learnt site image ≡ is_own_alone o
      alone_is = ap is_alone sharing_is

      still : (known : Option HeaderView) → header_changed change o ≡ known → IsStill (sharing_of_own o) known (new.headers image)
      still None is = tt
      still (Some h) is = (told h is).still

      mapped : (known : Option HeaderView) → header_changed change o ≡ known → IsSome known → AreMapsTrue (is_own_alone o) (new.maps image) (maps_of k.maps site image)
      mapped None is some = absurd (true≢false (sym some))
      mapped (Some h) is some = (told h is).mapped

      it : IsTrueOfImage site new me learnt image
      it = record {
        owned = λ free.
            subst (λ sharing. IsStill sharing (known_header learnt site image) (new.headers image)) (sym sharing_is)
            (subst (λ known. IsStill (sharing_of_own o) known (new.headers image)) (sym header_is) (still (header_changed change o) refl));
        drawn = waits;
        mapped = λ free some.
            subst (λ alone. AreMapsTrue alone (new.maps image) (maps_of k.maps site image)) (sym alone_is)
            (mapped (header_changed change o) refl (ap is_some (sym header_is) ∙ some));
        objects = λ free h known.
            subst (λ alone. AreObjectsTrue alone h.layout (object_at new image) (objects_known_of k.objects site image)) (sym alone_is) (told h (sym header_is ∙ known)).objects;
        gone = goes;
        apart = t.apart image;
        counted = λ without. subst (λ m. IsCountTrue (maps_of k.maps site image).count (m None)) (sym maps) (t.counted image without);
        seen = λ h among. sees h (t.seen image h among);
        strange = t.strange image;
      }

-- ---- the directory

-- a fresh id waits for its header
module _ (site : SiteId) (r : Records) (f : Flat) (me : Instance) (k : Knowledge) (stands : StandsFor [] r f) (mapped : AreMapped r) (t : IsTrueAt site r me k) where
  abbrev fresh : ℕ
  fresh = r.directory.drawn + 1

  fresh_waits : (name : List ℕ) → IsWaiting (with_directory (added name r.directory) r) fresh
  fresh_waits name =
      let untouched = stands.fresh fresh (omega arith) in
      record { drawn = omega arith; header = untouched.header; blank = untouched.blank; unraised = mapped.fresh fresh (omega arith) }

  -- it is none whose header was removed
  not_gone : is_gone k.gone site fresh ≡ true → ⊥
  not_gone gone = let before = (t.gone fresh gone).drawn in omega (arith, before)

  -- nor one of which a header was told
  not_seen : has_seen k.seen site fresh ≡ true → ⊥
  not_seen saw = let before = seen_drawn site r k.seen t.seen fresh saw in omega (arith, before)

  drawn_true : (name : List ℕ) → AreImagesTrue site (with_directory (added name r.directory) r) me (with_drawn site fresh k)
  drawn_true name =
      each_true site r new me k learnt fresh t (λ f. f) t.fenced it
      (λ i other. record {
        own = refl;
        drawn = ap (λ b. cond b true (is_drawn k.drawn site i)) (at_no_other site fresh i other);
        maps = ap (λ b. cond b unmapped (maps_of k.maps site i)) (at_no_other site fresh i other);
        objects = refl;
        gone = refl;
        seen = refl;
      })
      (λ i other. record { header = refl; maps = refl; objects = λ n. refl; drawn = omega arith })
    where
      new : Records
      new = with_directory (added name r.directory) r

      learnt : Knowledge
      learnt = with_drawn site fresh k

      unmapped_now : maps_of learnt.maps site fresh ≡ unmapped
      unmapped_now = ap (λ b. cond b unmapped (maps_of k.maps site fresh)) (at_itself site fresh)

      it : IsTrueOfImage site new me learnt fresh
      it = record {
        owned = λ free. t.owned free fresh;
        drawn = λ drawn. fresh_waits name;
        mapped = λ free known. subst (AreMapsTrue (is_alone_on k site fresh) (r.maps fresh)) (sym unmapped_now) (nothing_mapped (is_alone_on k site fresh) (r.maps fresh));
        objects = λ free. t.objects free fresh;
        gone = λ gone. absurd (not_gone gone);
        apart = λ gone. absurd (not_gone gone);
        counted = λ without. subst (λ m. IsCountTrue m.count (r.maps fresh None)) (sym unmapped_now) tt;
        seen = λ h among. absurd (not_seen (among_seen site fresh h k.seen among));
        strange = λ saw. absurd (not_seen saw);
      }

  added_true : (name : List ℕ) (held : Option ℕ) (full : Bool)
      → AreImagesTrue site (with_directory (where_added (name_added held full (r.directory.drawn + 1)) (added name r.directory) r.directory) r) me
      (learned_of_directory k site (directory.Add name) (name_added held full (r.directory.drawn + 1)))
  added_true name (Some image) full = of_images site r me k t
  added_true name None true = of_images site r me k t
  added_true name None false = drawn_true name

  -- a change of names draws no id
  renamed_true : (o : DirectoryOp) → AreImagesTrue site (after_served r me (op.Directory o)) me k
  renamed_true o =
      alike_true site r (after_served r me (op.Directory o)) me k t (λ f. f) t.fenced
      (λ i. record { header = refl; maps = refl; objects = λ n. refl; drawn = drawn_served r me (op.Directory o) r.directory.drawn (omega arith) })

  directory_learned : (o : DirectoryOp) → AreImagesTrue site (after_served r me (op.Directory o)) me (learned_of_directory k site o (answer_served r me (op.Directory o)))
  directory_learned (directory.Find name) = of_images site r me k t
  directory_learned directory.List = of_images site r me k t
  directory_learned (directory.Add name) = added_true name (id_of r.directory name) (listing.is_full r.directory)
  directory_learned (directory.Rename from to) = renamed_true (directory.Rename from to)
  directory_learned (directory.Remove image) = renamed_true (directory.Remove image)

-- ---- headers

-- of an instance that isn't fenced
module _ (site : SiteId) (r : Records) (me : Instance) (k : Knowledge) (t : IsTrueAt site r me k) (free : IsFalse (is_fenced r me)) where
  abbrev pub doing : (image : ℕ) → HeaderOp → Records
  doing image o = after_served r me (op.Header image o)

  elsewhere : (image : ℕ) (o : HeaderOp) (i : ℕ) → i ≢ image → (doing image o).headers i ≡ r.headers i
  elsewhere image o i differ = put_elsewhere r.headers image (header_after me (r.headers image) o) i differ

  -- what a look teaches of an image that it owns, or doesn't
  got : (image : ℕ) (there : Option HeaderView) → r.headers image ≡ there → AreImagesTrue site r me (learned_of_header k site image header.Get (header_answer me there (r.watchers image) header.Get))
  got image None is = of_images site r me k t
  got image (Some h) is = by (own_of k.owns site image) refl
    where
      look : (known : Knowledge) → IsTrueAt site r me known → (o : Option Own) → own_of known.owns site image ≡ o
          → ((v : HeaderView) → header_changed (first_told h) o ≡ Some v → IsTold site r known image (sharing_of_own o) v) → AreImagesTrue site r me (header_told site image (first_told h) known)
      look known true_of_it o at told =
          told_true site r r me known true_of_it (λ f. f) true_of_it.fenced image (λ i other. record { header = refl; maps = refl; objects = λ n. refl; drawn = omega arith }) (first_told h) o at
          (true_of_it.drawn image) (true_of_it.gone image) (λ v saw. saw) refl told

      -- one that it knows already tells nothing new
      again : (o : Own) (own : HeaderView) → o.header ≡ Some own → own_of k.owns site image ≡ Some o → (v : HeaderView) → first_told h o.header ≡ Some v → IsTold site r k image o.sharing v
      again o own had at v told =
          let known : known_header k site image ≡ Some v = ap header_of_own at ∙ had ∙ sym (ap (first_told h) had) ∙ told in
          let some : IsSome (known_header k site image) = ap is_some known in
          let alone : is_alone_on k site image ≡ is_alone o.sharing = ap is_own_alone at in
          record {
            still =
                subst (λ q. IsStill o.sharing q (r.headers image)) known
                (subst (λ sharing. IsStill sharing (known_header k site image) (r.headers image)) (ap sharing_of_own at) (t.owned free image));
            mapped = subst (λ b. AreMapsTrue b (r.maps image) (maps_of k.maps site image)) alone (t.mapped free image some);
            objects = subst (λ b. AreObjectsTrue b v.layout (object_at r image) (objects_known_of k.objects site image)) alone (t.objects free image v known);
          }

      -- the first one tells the header that is there
      first : (o : Own) → o.header ≡ None → (v : HeaderView) → first_told h o.header ≡ Some v → IsTold site r (afresh site image k) image o.sharing v
      first o unknown v told =
          let same : h ≡ v = same_Some h v (sym (ap (first_told h) unknown) ∙ told) in
          let unmapped_now : maps_of (afresh site image k).maps site image ≡ unmapped = told_first site image unmapped (unmarked k.maps) in
          record {
            still = subst (λ q. IsStill o.sharing (Some q) (r.headers image)) same (subst (IsStill o.sharing (Some h)) (sym is) (still_exactly o.sharing h h refl));
            mapped = subst (AreMapsTrue (is_alone o.sharing) (r.maps image)) (sym unmapped_now) (nothing_mapped (is_alone o.sharing) (r.maps image));
            objects = nothing_of (is_alone o.sharing) v.layout (object_at r image);
          }

      owning : (o : Own) (header : Option HeaderView) → o.header ≡ header → own_of k.owns site image ≡ Some o → AreImagesTrue site r me (header_told site image (first_told h) (looked_by header site image k))
      owning o None unknown at = look (afresh site image k) (less_true site (afresh site image k) k (afresh_less site site image k) r me t) (Some o) at (first o unknown)
      owning o (Some own) had at = look k t (Some o) at (again o own had at)

      by : (o : Option Own) → own_of k.owns site image ≡ o → AreImagesTrue site r me (header_told site image (first_told h) (looked_under_lock o site image k))
      by None at = look k t None at (λ v told. absurd (none-some v told))
      by (Some o) at = owning o o.header refl at

  -- what is done to its header leaves the others
  others_there : (image : ℕ) (o : HeaderOp) (i : ℕ) → i ≢ image → IsThereAs r (doing image o) i
  others_there image o i other = record { header = elsewhere image o i other; maps = refl; objects = λ n. refl; drawn = omega arith }

  made : (image : ℕ) (view : HeaderView) → MayMake k site image view → AreImagesTrue site (doing image (header.Create view)) me (without_drawn site image k)
  made image view may =
      each_true site r (doing image (header.Create view)) me k (without_drawn site image k) image t (λ f. f) t.fenced it
      (λ i other. record { own = refl; drawn = drawn_elsewhere site image i other k.drawn; maps = refl; objects = refl; gone = refl; seen = refl })
      (others_there image (header.Create view))
    where
      undrawn : is_drawn (without_drawn site image k).drawn site image ≡ true → ⊥
      undrawn drawn = (drawn_left site image image k.drawn drawn).1 refl

      remains : is_gone k.gone site image ≡ true → ⊥
      remains gone = true≢false (sym may.drawn ∙ t.apart image gone)

      unseen : has_seen k.seen site image ≡ true → ⊥
      unseen saw = true≢false (sym may.drawn ∙ t.strange image saw)

      it : IsTrueOfImage site (doing image (header.Create view)) me (without_drawn site image k) image
      it = record {
        owned = λ f. unknown_of_none (sharing_on k site image) (known_header k site image) ((doing image (header.Create view)).headers image) (subst (IsStillOwn (own_of k.owns site image)) (t.drawn image may.drawn).header (t.owned free image));
        drawn = λ drawn. absurd (undrawn drawn);
        mapped = λ f. t.mapped free image;
        objects = λ f. t.objects free image;
        gone = λ gone. absurd (remains gone);
        apart = λ gone. absurd (remains gone);
        counted = counted;
        seen = λ h among. absurd (unseen (among_seen site image h k.seen among));
        strange = λ saw. absurd (unseen saw);
      }
        where
          counted : KnowsNoHeader (without_drawn site image k) site image → IsCountTrue (maps_of k.maps site image).count (r.maps image None)
          counted (inl drawn) = absurd (undrawn drawn)
          counted (inr gone) = absurd (remains gone)

  -- ---- a header that it owns

  -- an image that it owns has a header
  module _ (image : ℕ) (condition : Sharing → HeaderView → Type 0) (owns : OwnsBy k site image condition) where
    owned_undrawn : is_drawn k.drawn site image ≡ true → ⊥
    owned_undrawn drawn = not_waiting site r me k image condition t free owns (t.drawn image drawn).header

    owned_remains : is_gone k.gone site image ≡ true → ⊥
    owned_remains gone = not_waiting site r me k image condition t free owns (t.gone image gone).header

  -- a change of the header by the one who owns it
  edited : (image : ℕ) (o : HeaderOp) (condition : Sharing → HeaderView → Type 0) (owns : OwnsBy k site image condition) (edit : HeaderView → HeaderView)
      → ((h : HeaderView) (owner : Option Instance) → edit (record h { owner = owner }) ≡ record (edit h) { owner = owner }) → ((h : HeaderView) → (edit h).layout ≡ h.layout)
      → (v : HeaderView) → v ≡ record owns.header { owner = v.owner } → (edit v).owner ≡ v.owner
      → header_after me (r.headers image) o ≡ Some (edit v) → AreImagesTrue site (doing image o) me (header_told site image (option_map edit) k)
  edited image o condition owns edit keeps laid v same owner is =
      told_true site r (doing image o) me k t (λ f. f) t.fenced image (others_there image o) (option_map edit) (Some own) owns.is
      (λ drawn. absurd (owned_undrawn image condition owns drawn)) (λ gone. absurd (owned_remains image condition owns gone)) sees refl told
    where
      own : Own
      own = record { site = site; image = image; sharing = owns.sharing; header = Some owns.header }

      known : known_header k site image ≡ Some owns.header
      known = own_known k site image condition owns

      alone : is_alone_on k site image ≡ is_alone owns.sharing
      alone = ap is_own_alone owns.is

      sees : (h : HeaderView) → IsSeenTrue r image h → IsSeenTrue (doing image o) image h
      sees h saw =
          subst (λ s. IsSeenTrue s image h) (served_is r me (op.Header image o) free)
          (seen_after r me (op.Header image o) image h (λ none. absurd (not_waiting site r me k image condition t free owns none)) saw)

      still : IsStill owns.sharing (Some (edit owns.header)) ((doing image o).headers image)
      still =
          subst (IsStill owns.sharing (Some (edit owns.header))) (sym (put_there r.headers image (header_after me (r.headers image) o) ∙ is))
          (still_exactly owns.sharing (edit owns.header) (edit v) (ap edit same ∙ keeps owns.header v.owner ∙ ap (λ w. record (edit owns.header) { owner = w }) (sym owner)))

      told : (w : HeaderView) → Some (edit owns.header) ≡ Some w → IsTold site (doing image o) k image owns.sharing w
      told w at =
          let now : edit owns.header ≡ w = same_Some (edit owns.header) w at in
          let layout : owns.header.layout ≡ w.layout = sym (laid owns.header) ∙ ap (λ (h : HeaderView). h.layout) now in
          record {
            still = subst (λ q. IsStill owns.sharing (Some q) ((doing image o).headers image)) now still;
            mapped = subst (λ b. AreMapsTrue b (r.maps image) (maps_of k.maps site image)) alone (t.mapped free image (ap is_some known));
            objects = subst (λ l. AreObjectsTrue (is_alone owns.sharing) l (object_at r image) (objects_known_of k.objects site image)) layout
                (subst (λ b. AreObjectsTrue b owns.header.layout (object_at r image) (objects_known_of k.objects site image)) alone (t.objects free image owns.header known));
          }

  -- ---- snapshots

  -- what becomes of a header and what is answered, where it is changed
  pub record Edits (image : ℕ) (o : HeaderOp) (edit : HeaderView → HeaderView) (v : HeaderView) (a : Answer) : Type 0 where
    pub answered : header_answer me (r.headers image) (r.watchers image) o ≡ a
    pub is : header_after me (r.headers image) o ≡ Some (edit v)

  pub takes : (image : ℕ) (name : List ℕ) (owns : OwnsAlone k site image (MayTakeSnap (maps_of k.maps site image) name))
      → Edits image (header.SnapAdd name) (with_snap name) (owned_there site r me k image _ t free owns).view (answer.Snap ((owned_there site r me k image _ t free owns).view.snap_seq + 1))
  takes image name owns =
      let there = owned_there site r me k image _ t free owns in
      let unlisted : is_some (snap_named there.view.snaps name) ≡ false =
      ap (λ (h : HeaderView). is_some (snap_named h.snaps name)) there.still.same ∙ ap is_some owns.meets.1.unlisted in
      let room : is_full there.view ≡ false = ap is_full there.still.same ∙ owns.meets.1.has_room in
      record {
        answered = ap (λ h. header_answer me h (r.watchers image) (header.SnapAdd name)) there.is
            ∙ ap (λ listed. snap_added listed (is_full there.view) (there.view.snap_seq + 1)) unlisted
            ∙ ap (λ full. snap_added false full (there.view.snap_seq + 1)) room;
        is = ap (λ h. header_after me h (header.SnapAdd name)) there.is
            ∙ ap (λ listed. Some (where_made listed (is_full there.view) (with_snap name there.view) there.view)) unlisted
            ∙ ap (λ full. Some (where_made false full (with_snap name there.view) there.view)) room;
      }

  pub removes : (image snap : ℕ) (owns : OwnsAlone k site image (MayRemove snap))
      → Edits image (header.SnapRemove snap) (without_snap snap) (owned_there site r me k image _ t free owns).view answer.Done
  removes image snap owns =
      let there = owned_there site r me k image _ t free owns in
      let listed : is_some (snap_in there.view.snaps snap) ≡ true =
      ap (λ (h : HeaderView). is_some (snap_in h.snaps snap)) there.still.same ∙ ap is_some owns.meets.1.listed in
      record {
        answered = ap (λ h. header_answer me h (r.watchers image) (header.SnapRemove snap)) there.is ∙ ap done_where listed;
        is = ap (λ h. header_after me h (header.SnapRemove snap)) there.is ∙ ap (λ b. Some (cond b (without_snap snap there.view) there.view)) listed;
      }

  taken : (image : ℕ) (name : List ℕ) → OwnsAlone k site image (MayTakeSnap (maps_of k.maps site image) name)
      → AreImagesTrue site (doing image (header.SnapAdd name)) me (learned_of_header k site image (header.SnapAdd name) (header_answer me (r.headers image) (r.watchers image) (header.SnapAdd name)))
  taken image name owns =
      let there = owned_there site r me k image _ t free owns in
      let edits = takes image name owns in
      subst (λ a. AreImagesTrue site (doing image (header.SnapAdd name)) me (learned_of_header k site image (header.SnapAdd name) a)) (sym edits.answered)
      (edited image (header.SnapAdd name) _ owns (with_snap name) (λ h owner. refl) (λ h. refl) there.view (there.still.exact (inl (alone_unshared owns.sharing owns.meets.0))) refl edits.is)

  removed : (image snap : ℕ) → OwnsAlone k site image (MayRemove snap)
      → AreImagesTrue site (doing image (header.SnapRemove snap)) me (learned_of_header k site image (header.SnapRemove snap) (header_answer me (r.headers image) (r.watchers image) (header.SnapRemove snap)))
  removed image snap owns =
      let there = owned_there site r me k image _ t free owns in
      let edits = removes image snap owns in
      subst (λ a. AreImagesTrue site (doing image (header.SnapRemove snap)) me (learned_of_header k site image (header.SnapRemove snap) a)) (sym edits.answered)
      (edited image (header.SnapRemove snap) _ owns (without_snap snap) (λ h owner. refl) (λ h. refl) there.view (there.still.exact (inl (alone_unshared owns.sharing owns.meets.0))) refl edits.is)

  pub marks : (image snap : ℕ) (status : SnapStatus) (owns : OwnsAlone k site image (MayMark k.childless site image snap status))
      → Edits image (header.SnapStatus snap status) (with_status snap status) (owned_there site r me k image _ t free owns).view answer.Done
  marks image snap status owns =
      let there = owned_there site r me k image _ t free owns in
      let listed : is_some (snap_in there.view.snaps snap) ≡ true =
      ap (λ (h : HeaderView). is_some (snap_in h.snaps snap)) there.still.same ∙ ap is_some owns.meets.1.listed in
      record {
        answered = ap (λ h. header_answer me h (r.watchers image) (header.SnapStatus snap status)) there.is ∙ ap done_where listed;
        is = ap (λ h. header_after me h (header.SnapStatus snap status)) there.is ∙ ap (λ b. Some (cond b (with_status snap status there.view) there.view)) listed;
      }

  marked : (image snap : ℕ) (status : SnapStatus) → OwnsAlone k site image (MayMark k.childless site image snap status)
      → AreImagesTrue site (doing image (header.SnapStatus snap status)) me
      (learned_of_header k site image (header.SnapStatus snap status) (header_answer me (r.headers image) (r.watchers image) (header.SnapStatus snap status)))
  marked image snap status owns =
      let there = owned_there site r me k image _ t free owns in
      let edits = marks image snap status owns in
      subst (λ a. AreImagesTrue site (doing image (header.SnapStatus snap status)) me (learned_of_header k site image (header.SnapStatus snap status) a)) (sym edits.answered)
      (edited image (header.SnapStatus snap status) _ owns (with_status snap status) (λ h owner. refl) (λ h. refl) there.view (there.still.exact (inl (alone_unshared owns.sharing owns.meets.0))) refl edits.is)

  -- ---- its size, and its end

  sized : (image to : ℕ) → OwnsAlone k site image (MaySize (maps_of k.maps site image) (objects_known_of k.objects site image) to)
      → AreImagesTrue site (doing image (header.SetSize to)) me (learned_of_header k site image (header.SetSize to) (header_answer me (r.headers image) (r.watchers image) (header.SetSize to)))
  sized image to owns =
      let there = owned_there site r me k image _ t free owns in
      subst (λ a. AreImagesTrue site (doing image (header.SetSize to)) me (learned_of_header k site image (header.SetSize to) a)) (sym (ap (λ h. header_answer me h (r.watchers image) (header.SetSize to)) there.is))
      (edited image (header.SetSize to) _ owns (with_size to) (λ h owner. refl) (λ h. refl) there.view (there.still.exact (inl (alone_unshared owns.sharing owns.meets.0))) refl (ap (λ h. header_after me h (header.SetSize to)) there.is))

  -- It has no header any more, but its id was drawn, and its head's map is still there.
  gone : (image : ℕ) → IsDrawn r image → IsSome (r.maps image None) → OwnsAlone k site image (λ h. h.snaps ≡ [])
      → AreImagesTrue site (doing image header.Remove) me (learned_of_header k site image header.Remove (header_answer me (r.headers image) (r.watchers image) header.Remove))
  gone image drawn has_map owns =
      let there = owned_there site r me k image _ t free owns in
      subst (λ a. AreImagesTrue site (doing image header.Remove) me (learned_of_header k site image header.Remove a)) (sym (ap (λ h. header_answer me h (r.watchers image) header.Remove) there.is))
      (each_true site r (doing image header.Remove) me k learnt image t (λ f. f) t.fenced (it there.view there.is) known_elsewhere (others_there image header.Remove))
    where
      learnt : Knowledge
      learnt = removed_header site image k

      known_elsewhere : (i : ℕ) → i ≢ image → IsKnownAs site learnt k i
      known_elsewhere i other = record {
        own = left_there site site image i (at_no_other site image i other) k.owns;
        drawn = refl;
        maps = told_of_others site image only_there k.maps i other;
        objects = refl;
        gone = ap (λ b. cond b true (is_gone k.gone site i)) (at_no_other site image i other);
        seen = refl;
      }

      unowned : known_header learnt site image ≡ None
      unowned = ap header_of_own (left_here site image k.owns)

      unknown : (h : HeaderView) → known_header learnt site image ≡ Some h → ⊥
      unknown h known = none-some h (sym unowned ∙ known)

      unsome : IsSome (known_header learnt site image) → ⊥
      unsome some = true≢false (sym some ∙ ap is_some unowned)

      it : (h : HeaderView) → r.headers image ≡ Some h → IsTrueOfImage site (doing image header.Remove) me learnt image
      it h is = record {
        owned = λ f. subst (λ q. IsStill (sharing_on learnt site image) q ((doing image header.Remove).headers image)) (sym unowned) tt;
        drawn = λ d. absurd (owned_undrawn image _ owns d);
        mapped = λ f some. absurd (unsome some);
        objects = λ f v known. absurd (unknown v known);
        gone = λ g. record { drawn = drawn; header = header_then };
        apart = λ g. unlisted (is_drawn k.drawn site image) refl;
        counted = λ without. subst (λ m. IsCountTrue m.count (r.maps image None)) (sym (told_first site image only_there k.maps)) (at_least (r.maps image None) has_map);
        seen = λ v among. let saw = t.seen image v among in record { drawn = saw.drawn; later = λ now there. absurd (none_now now there); numbered = saw.numbered };
        strange = t.strange image;
      }
        where
          header_then : (doing image header.Remove).headers image ≡ None
          header_then = put_there r.headers image (header_after me (r.headers image) header.Remove) ∙ ap (λ q. header_after me q header.Remove) is

          none_now : (now : HeaderView) → (doing image header.Remove).headers image ≡ Some now → ⊥
          none_now now there = none-some now (sym header_then ∙ there)

          unlisted : (b : Bool) → is_drawn k.drawn site image ≡ b → b ≡ false
          unlisted false d = refl
          unlisted true d = absurd (owned_undrawn image _ owns d)

          at_least : (map : Option (List ℕ)) → IsSome map → HasAtLeast 0 map
          at_least None some = absurd (true≢false (sym some))
          at_least (Some there) some = record { there = there; is = refl; long = omega arith }

-- ---- fences

broken_true : (site : SiteId) (r : Records) (me : Instance) (k : Knowledge) (image : ℕ) (owner : Instance) (a : Answer) → IsTrueAt site r me k
    → AreImagesTrue site r me (learned_of_header k site image (header.LockBreak owner) a)
broken_true site r me k image owner answer.Done t = of_images site r me (without_fence site owner k) (less_true site (without_fence site owner k) k (unfenced_less site site owner k) r me t)
broken_true site r me k image owner answer.Changed t = of_images site r me (without_fence site owner k) (less_true site (without_fence site owner k) k (unfenced_less site site owner k) r me t)
broken_true site r me k image owner _ t = of_images site r me k t

listed_true : (site : SiteId) (r : Records) (me : Instance) (k : Knowledge) (i : Instance) → IsTrueAt site r me k → IsFalse (is_fenced r me)
    → AreImagesTrue site (after_served r me (op.BlockAdd i)) me (with_fence site i k)
listed_true site r me k i t free = record {
  fenced = λ other known. by other (is_fence_of site other (record { site = site; instance = i })) refl known;
  each = λ image.
      true_as site r new me k learnt image (of_image site r me k t image) (record { own = refl; drawn = refl; maps = refl; objects = refl; gone = refl; seen = refl })
      (record { header = refl; maps = refl; objects = λ n. refl; drawn = omega arith }) (λ f. free);
}
  where
    new : Records
    new = after_served r me (op.BlockAdd i)

    learnt : Knowledge
    learnt = with_fence site i k

    by : (other : Instance) (b : Bool) → is_fence_of site other (record { site = site; instance = i }) ≡ b → cond b true (is_fenced_by k.fenced site other) ≡ true
        → is_fenced (after_served r me (op.BlockAdd i)) other ≡ true
    by other true is known =
        subst (λ j. is_fenced (after_served r me (op.BlockAdd i)) j ≡ true) (same_instance_is i other (and_parts (same_site site site) (same_instance i other) is).1) (is_put_up r me i free)
    by other false is known = stays_put_up r me i free other (t.fenced other known)

-- ---- headers, whether it is fenced or not

-- the id of an image that has a header was drawn
has_drawn : (r : Records) (f : Flat) → StandsFor [] r f → (image : ℕ) (h : HeaderView) → r.headers image ≡ Some h → IsDrawn r image
has_drawn r f stands image h is = by (cases_lt r.directory.drawn image)
  where
    by : (r.directory.drawn < image) ⊎ (image ≤ r.directory.drawn) → IsDrawn r image
    by (inl past) = absurd (none-some h (sym (stands.fresh image past).header ∙ is))
    by (inr within) = within

module _ (site : SiteId) (r : Records) (f : Flat) (me : Instance) (k : Knowledge) (stands : StandsFor [] r f) (mapped : AreMapped r) (t : IsTrueAt site r me k) where
  abbrev HeaderTeaches : (image : ℕ) → HeaderOp → Answer → Records → Type 0
  HeaderTeaches image o a s = AreImagesTrue site s me (learned_of_header k site image o a)

  -- what leaves the header but for its owner
  lock_teaches : (image : ℕ) (o : HeaderOp) → keeps_header o ≡ true → AreImagesTrue site (after r me (op.Header image o)) me k
  lock_teaches image o keeps = of_images site (after r me (op.Header image o)) me k (kept_by site r me me k image o keeps t)

  header_learned : (image : ℕ) (o : HeaderOp) → PermitsOnHeader k site image o
      → HeaderTeaches image o (answer_to r me (op.Header image o)) (after r me (op.Header image o))
  header_learned image header.Get permits =
      subst (HeaderTeaches image header.Get (answer_to r me (op.Header image header.Get))) (sym (looked_at r me (op.Header image header.Get) refl))
      (where_free (λ a s. HeaderTeaches image header.Get a r) r me (op.Header image header.Get) (of_images site r me k t) (λ free. got site r me k t free image (r.headers image) refl))
  header_learned image (header.Create view) permits =
      where_free (HeaderTeaches image (header.Create view)) r me (op.Header image (header.Create view)) (of_images site r me k t) (λ free.
      subst (λ h. HeaderTeaches image (header.Create view) (header_answer me h (r.watchers image) (header.Create view)) (after_served r me (op.Header image (header.Create view)))) (sym (t.drawn image permits.drawn).header)
      (made site r me k t free image view permits))
  header_learned image (header.SnapAdd name) permits =
      where_free (HeaderTeaches image (header.SnapAdd name)) r me (op.Header image (header.SnapAdd name)) (of_images site r me k t) (λ free. taken site r me k t free image name permits)
  header_learned image (header.SnapRemove snap) permits =
      where_free (HeaderTeaches image (header.SnapRemove snap)) r me (op.Header image (header.SnapRemove snap)) (of_images site r me k t) (λ free. removed site r me k t free image snap permits)
  header_learned image (header.SnapStatus snap status) permits =
      where_free (HeaderTeaches image (header.SnapStatus snap status)) r me (op.Header image (header.SnapStatus snap status)) (of_images site r me k t)
      (λ free. marked site r me k t free image snap status permits)
  header_learned image (header.SetSize to) permits =
      where_free (HeaderTeaches image (header.SetSize to)) r me (op.Header image (header.SetSize to)) (of_images site r me k t) (λ free. sized site r me k t free image to permits)
  header_learned image header.Remove permits =
      where_free (HeaderTeaches image header.Remove) r me (op.Header image header.Remove) (of_images site r me k t) (λ free.
      let there = owned_there site r me k image _ t free permits in
      gone site r me k t free image (has_drawn r f stands image there.view there.is) (mapped.images image there.view there.is).there.head permits)
  header_learned image (header.LockBreak owner) permits =
      broken_true site (after r me (op.Header image (header.LockBreak owner))) me k image owner (answer_to r me (op.Header image (header.LockBreak owner)))
      (kept_by site r me me k image (header.LockBreak owner) refl t)
  header_learned image header.LockTake permits = lock_teaches image header.LockTake refl
  header_learned image header.LockDrop permits = lock_teaches image header.LockDrop refl
  header_learned image header.Watch permits = lock_teaches image header.Watch refl
  header_learned image header.Unwatch permits = lock_teaches image header.Unwatch refl
  header_learned image header.WatchersGet permits = lock_teaches image header.WatchersGet refl
  header_learned image (header.Notify kind) permits = lock_teaches image (header.Notify kind) refl
  header_learned image _ permits = elim permits [ ]

-- ---- all operations

-- a fenced answer teaches nothing
map_of_fence : (k : Knowledge) (site : SiteId) (image : ℕ) (o : MapOp) → learned_of_map k site image o answer.Fenced ≡ k
map_of_fence k site image (states.Resize count) = refl
map_of_fence k site image (states.Get None) = refl
map_of_fence k site image (states.Get (Some snap)) = refl
map_of_fence k site image (states.Put None bits) = refl
map_of_fence k site image (states.Put (Some snap) bits) = refl
map_of_fence k site image (states.Set view object state) = refl
map_of_fence k site image (states.Remove view) = refl

object_of_fence : (k : Knowledge) (site : SiteId) (image number : ℕ) (o : DataOp) → learned_of_object k site image number o answer.Fenced ≡ k
object_of_fence k site image number (object.Read snap parts) = refl
object_of_fence k site image number (object.Write context must parts bytes) = refl
object_of_fence k site image number (object.WriteFull context bytes) = refl
object_of_fence k site image number (object.Zero context must parts) = refl
object_of_fence k site image number (object.Empty context) = refl
object_of_fence k site image number (object.Remove context) = refl
object_of_fence k site image number (object.CopyUp bytes) = refl

own_of_fence : (k : Knowledge) (site : SiteId) (o : Op) → learned_own k site o answer.Fenced ≡ k
own_of_fence k site (op.Directory (directory.Add name)) = refl
own_of_fence k site (op.Directory o) = refl
own_of_fence k site (op.Header image header.Get) = refl
own_of_fence k site (op.Header image (header.Create view)) = refl
own_of_fence k site (op.Header image (header.SetSize to)) = refl
own_of_fence k site (op.Header image header.Remove) = refl
own_of_fence k site (op.Header image (header.SnapAdd name)) = refl
own_of_fence k site (op.Header image (header.SnapRemove snap)) = refl
own_of_fence k site (op.Header image header.Detach) = refl
own_of_fence k site (op.Header image (header.SnapStatus snap status)) = refl
own_of_fence k site (op.Header image (header.LockBreak owner)) = refl
own_of_fence k site (op.Header image o) = refl
own_of_fence k site (op.BlockAdd i) = refl
own_of_fence k site (op.Map image o) = map_of_fence k site image o
own_of_fence k site (op.Data image number o) = object_of_fence k site image number o
own_of_fence k site o = refl

-- it tells nothing of other images either
seen_of_fence : (seen : List HeaderSeen) (site : SiteId) (o : Op) → seen_by seen site o answer.Fenced ≡ seen
seen_of_fence seen site (op.Header image header.Get) = refl
seen_of_fence seen site (op.Header image o) = refl
seen_of_fence seen site o = refl

told_of_fence : (seen : List HeaderSeen) (told : List ObjectTold) (site : SiteId) (o : Op) → told_by seen told site o answer.Fenced ≡ told
told_of_fence seen told site (op.Data image number (object.Read (Some snap) parts)) = refl
told_of_fence seen told site (op.Data image number (object.Read None parts)) = refl
told_of_fence seen told site (op.Data image number o) = refl
told_of_fence seen told site o = refl

linked_of_fence : (linked : List ChildLink) (site : SiteId) (o : Op) → linked_by linked site o answer.Fenced ≡ linked
linked_of_fence linked site (op.Children (child.Add parent snap image)) = refl
linked_of_fence linked site (op.Children (child.Remove parent snap image)) = refl
linked_of_fence linked site (op.Children (child.List parent snap)) = refl
linked_of_fence linked site (op.Header image (header.Create view)) = refl
linked_of_fence linked site (op.Header image o) = refl
linked_of_fence linked site o = refl

based_of_fence : (linked : List ChildLink) (based : List ChildBase) (site : SiteId) (o : Op) → based_by linked based site o answer.Fenced ≡ based
based_of_fence linked based site (op.Children (child.Add parent snap image)) = refl
based_of_fence linked based site (op.Children (child.Remove parent snap image)) = refl
based_of_fence linked based site (op.Children (child.List parent snap)) = refl
based_of_fence linked based site (op.Header image header.Get) = refl
based_of_fence linked based site (op.Header image (header.Create view)) = refl
based_of_fence linked based site (op.Header image o) = refl
based_of_fence linked based site o = refl

childless_of_fence : (own : ℕ → Option HeaderView) (childless : List SnapPlace) (site : SiteId) (o : Op) → childless_by own childless site o answer.Fenced ≡ childless
childless_of_fence own childless site (op.Children (child.Add parent snap image)) = refl
childless_of_fence own childless site (op.Children (child.Remove parent snap image)) = refl
childless_of_fence own childless site (op.Children (child.List parent snap)) = refl
childless_of_fence own childless site (op.Header image (header.SnapStatus snap status)) = refl
childless_of_fence own childless site (op.Header image header.Remove) = refl
childless_of_fence own childless site (op.Header image o) = refl
childless_of_fence own childless site o = refl

same_told : (x y : Told) → x.seen ≡ y.seen → x.told ≡ y.told → x.linked ≡ y.linked → x.based ≡ y.based → x.childless ≡ y.childless → (k : Knowledge) → with_told x k ≡ with_told y k
same_told x y seen told linked based childless k =
    ap (λ s. record k { seen = s; told = x.told; linked = x.linked; based = x.based; childless = x.childless }) seen
    ∙ ap (λ s. record k { seen = y.seen; told = s; linked = x.linked; based = x.based; childless = x.childless }) told
    ∙ ap (λ s. record k { seen = y.seen; told = y.told; linked = s; based = x.based; childless = x.childless }) linked
    ∙ ap (λ s. record k { seen = y.seen; told = y.told; linked = y.linked; based = s; childless = x.childless }) based
    ∙ ap (λ s. record k { seen = y.seen; told = y.told; linked = y.linked; based = y.based; childless = s }) childless

pub learned_of_fence : (k : Knowledge) (site : SiteId) (o : Op) → learned k site o answer.Fenced ≡ k
learned_of_fence k site o =
    ap (with_told (told_then k site o answer.Fenced)) (own_of_fence k site o)
    ∙ same_told (told_then k site o answer.Fenced) (record { seen = k.seen; told = k.told; linked = k.linked; based = k.based; childless = k.childless })
    (seen_of_fence k.seen site o) (told_of_fence k.seen k.told site o) (linked_of_fence k.linked site o) (based_of_fence k.linked k.based site o)
    (childless_of_fence (λ image. header_alone (own_of k.owns site image)) k.childless site o) k

own_taught : (site : SiteId) (r : Records) (f : Flat) (k : Knowledge) (me : Instance) (o : Op) (most : ℕ) → StandsFor [] r f → AreInForm r most → AreMapped r → IsTrueAt site r me k → Permits k site o
    → AreImagesTrue site (after r me o) me (learned_own k site o (answer_to r me o))
own_taught site r f k me (op.Directory o) most stands form mapped t permits =
    where_either (λ a s. AreImagesTrue site s me (learned_own k site (op.Directory o) a)) r me (op.Directory o)
    (subst (AreImagesTrue site r me) (sym (own_of_fence k site (op.Directory o))) (of_images site r me k t)) (directory_learned site r f me k stands mapped t o)
own_taught site r f k me (op.Children o) most stands form mapped t permits =
    where_free (λ a s. AreImagesTrue site s me k) r me (op.Children o) (of_images site r me k t) (λ free.
    alike_true site r (after_served r me (op.Children o)) me k t (λ f. f) t.fenced (λ i. record { header = refl; maps = refl; objects = λ n. refl; drawn = omega arith }))
own_taught site r f k me (op.BlockAdd i) most stands form mapped t permits =
    where_free (λ a s. AreImagesTrue site s me (learned_of_listing k site i a)) r me (op.BlockAdd i) (of_images site r me k t) (λ free. listed_true site r me k i t free)
own_taught site r f k me (op.Header image o) most stands form mapped t permits = header_learned site r f me k stands mapped t image o permits
own_taught site r f k me (op.Data image number o) most stands form mapped t permits =
    of_images site (after r me (op.Data image number o)) me (learned_of_object k site image number o (answer_to r me (op.Data image number o)))
    (where_free (λ a s. IsTrueAt site s me (learned_of_object k site image number o a)) r me (op.Data image number o) (subst (IsTrueAt site r me) (sym (object_of_fence k site image number o)) t)
    (λ free. object_taught site r me k most form t free image number o permits))
own_taught site r f k me (op.Map image o) most stands form mapped t permits =
    of_images site (after r me (op.Map image o)) me (learned_of_map k site image o (answer_to r me (op.Map image o)))
    (where_free (λ a s. IsTrueAt site s me (learned_of_map k site image o a)) r me (op.Map image o) (subst (IsTrueAt site r me) (sym (map_of_fence k site image o)) t)
    (λ free. map_taught site r me k most form mapped t free image o permits))
own_taught site r f k me _ most stands form mapped t permits = elim permits [ ]

-- ---- headers that were told

module _ (site : SiteId) (r : Records) (f : Flat) (me : Instance) (stands : StandsFor [] r f) where
  header_true : (image : ℕ) (h : HeaderView) → r.headers image ≡ Some h → IsSeenTrue r image h
  header_true image h is = record {
    drawn = has_drawn r f stands image h is;
    later = λ now at. subst (IsLaterOf h) (same_Some h now (sym is ∙ at)) (later_itself h);
    numbered = λ t s listed. ((here (snapshots_of f) (links_of f image) (r.headers image) (object_at r image) (image_at f image) h is (stands.images image)).stands.numbered.snap t s listed).1;
  }

  -- a header that is told is the one that is there
  pub header_told_true : (image : ℕ) (h : HeaderView) (seen : List HeaderSeen) → answer_to r me (op.Header image header.Get) ≡ answer.Header h → AreSeenTrue site r seen
      → AreSeenTrue site r (seen_by seen site (op.Header image header.Get) (answer.Header h))
  header_told_true image h seen answered was i k (inl same) =
      subst (λ (e : HeaderSeen). IsSeenTrue r e.image e.header) same (header_true image h (header_got r me image h answered))
  header_told_true image h seen answered was i k (inr among) = was i k among

  -- so are all that were told, behind an operation that leaves those before
  seen_taught : (seen : List HeaderSeen) (o : Op) (a : Answer) → answer_to r me o ≡ a → AreSeenTrue site r seen → AreSeenTrue site (after r me o) seen → AreSeenTrue site (after r me o) (seen_by seen site o a)
  seen_taught seen (op.Header image header.Get) (answer.Header h) answered was kept =
      subst (λ s. AreSeenTrue site s (seen_by seen site (op.Header image header.Get) (answer.Header h))) (sym (looked_at r me (op.Header image header.Get) refl)) (header_told_true image h seen answered was)
  seen_taught seen _ _ answered was kept = kept

-- a header that is told is there
abbrev pub TellsThere : Records → Op → Answer → Type 0
TellsThere s (op.Header image header.Get) (answer.Header h) = s.headers image ≡ Some h
TellsThere s o a = Unit {0}

pub told_there : (r : Records) (me : Instance) (o : Op) (a : Answer) → answer_to r me o ≡ a → TellsThere r o a
told_there r me (op.Header image header.Get) (answer.Header h) answered = header_got r me image h answered
told_there r me _ _ answered = tt

told_behind : (r : Records) (me : Instance) (o : Op) (a : Answer) → answer_to r me o ≡ a → TellsThere (after r me o) o a
told_behind r me (op.Header image header.Get) (answer.Header h) answered =
    ap (λ (s : Records). s.headers image) (looked_at r me (op.Header image header.Get) refl) ∙ header_got r me image h answered
told_behind r me _ _ answered = tt

-- So whose header is told is no id that somebody drew, and that waits for one.
pub strange_taught : (site : SiteId) (s : Records) (seen : List HeaderSeen) (j : Knowledge) (o : Op) (a : Answer) → TellsThere s o a → ((image : ℕ) → is_drawn j.drawn site image ≡ true → s.headers image ≡ None)
    → DrewNoneOf site seen j → DrewNoneOf site (seen_by seen site o a) j
strange_taught site s seen j (op.Header image header.Get) (answer.Header h) there waits was i saw = by (is_at site i site image) refl saw (is_drawn j.drawn site i) refl
  where
    by : (b : Bool) → is_at site i site image ≡ b → cond b true (has_seen seen site i) ≡ true → (c : Bool) → is_drawn j.drawn site i ≡ c → c ≡ false
    by b at found false drawn = refl
    by true at found true drawn = absurd (none-some h (sym (ap s.headers (eqb-true image i (and_parts (same_site site site) (image == i) at).1) ∙ waits i drawn) ∙ there))
    by false at found true drawn = absurd (true≢false (sym drawn ∙ was i found))
strange_taught site s seen j _ _ there waits was i saw = was i saw

children_taught : (site : SiteId) (r : Records) (f : Flat) (k : Knowledge) (me : Instance) (o : Op) → StandsFor [] r f → IsTrueAt site r me k → Permits k site o
    → AreChildrenTrue site (after r me o) me (learned k site o (answer_to r me o))
children_taught site r f k me o stands t permits =
    where_free (λ a s. AreChildrenTrue site s me (learned k site o a)) r me o (subst (AreChildrenTrue site r me) (sym (learned_of_fence k site o)) t.children)
    (λ free. children_served site r f me k stands t free o permits)

pub own_learned : (site : SiteId) (r : Records) (f : Flat) (k : Knowledge) (me : Instance) (o : Op) (most : ℕ) → StandsFor [] r f → AreInForm r most → AreMapped r → IsTrueAt site r me k → Permits k site o
    → IsTrueAt site (after r me o) me (learned k site o (answer_to r me o))
own_learned site r f k me o most stands form mapped t permits =
    let a = answer_to r me o in
    let own : Knowledge = learned_own k site o a in
    let taught = own_taught site r f k me o most stands form mapped t permits in
    let before = own_as_before k site o a in
    let strange : DrewNoneOf site k.seen own = subst (λ seen. DrewNoneOf site seen own) before.0 (λ image. (taught.each image).strange) in
    telling_true site (after r me o) me own (told_then k site o a)
    (seen_taught site r f me stands k.seen o a refl t.seen (seen_kept site r me k o permits k.seen t.strange t.seen))
    (strange_taught site (after r me o) k.seen own o a (told_behind r me o a refl) (λ image drawn. ((taught.each image).drawn drawn).header) strange)
    (children_taught site r f k me o stands t permits) taught

-- Changes of the header of one image, at the site.
use Rattle.std.proofs.Common.{◌≡◌, ◌≢◌, ℕ, ◌+◌, Bool, true, false, cond, eqb, ◌&&◌, List, [], map, get_or, replicate, Option, Some, None, is_some, unwrap_or, refl, sym, ◌∙◌, ap, subst, arith}
use Rattle.std.specs.Option.{option_or}
use Rattle.std.specs.FinMap as finmap
use Rattle.std.specs.Ordering.{nat_cmp}
use Rattle.std.proofs.lemmas.Bool.{and_parts, eq-eqb, eqb-true}
use Rattle.std.proofs.lemmas.Option.{none-some}
use Rattle.std.proofs.lemmas.List.{length-replicate, get_or-replicate}
use Rattle.rbd_kinds.specs.declared.answer.Answer.TheVariants as answer
use Rattle.rbd_kinds.specs.declared.header.HeaderView.{HeaderView}
use Rattle.rbd_kinds.specs.declared.header.ParentLink.{ParentLink}
use Rattle.rbd_kinds.specs.declared.header.SnapView.{SnapView}
use Rattle.rbd_kinds.specs.declared.header_op.HeaderOp.{HeaderOp}
use Rattle.rbd_kinds.specs.declared.header_op.HeaderOp.TheVariants as header_op
use Rattle.rbd_kinds.specs.declared.id.Instance.{Instance}
use Rattle.rbd_kinds.specs.declared.operation.Op.TheVariants as op
use Rattle.rbd_kinds.specs.Form.{IsNewHeader}
use Rattle.rbd_kinds.specs.Header.{snap_named}
use Rattle.rbd_kinds.specs.Striping.{object_of, offset_of, byte_at}
use Rattle.rbd_header.specs.Header.{snap_in, is_full, with_snap, without_snap}
use Rattle.rbd_object.specs.Mapped.{Mapped, versioned, mapped_blank}
use Rattle.rbd_object.specs.Versioned.{IsTidy, view}
use Rattle.rbd_flat.specs.declared.effect.Effect.{Effect}
use Rattle.rbd_flat.specs.declared.effect.Effect.TheVariants as effect
use Rattle.rbd_flat.specs.Flat.{Flat, FlatImage, FlatSnap, image_at, snap_of}
use Rattle.rbd_flat.specs.Flat as flat
use Rattle.rbd_flat.specs.Laws.{snap_at}
use Rattle.rbd_flat.proofs.Images.{image_law}
use Rattle.rbd_flat.proofs.Steps.{snap_law, names_stay, links_stay}
use Rattle.rbd_site.specs.HeaderStep.{header_answer, header_after, there_after, snap_added, where_made}
use Rattle.rbd_site.specs.Records.{Records, object_at}
use Rattle.rbd_site.specs.WatchStep.{watchers_after}
use Rattle.rbd_site.specs.Step.{answer_to, answer_served, after, after_served}
use Rattle.rbd_stands.specs.Shown.{Snapshots, snapshots_of, shown, HasParent, Links, links_of, IsInOverlap}
use Rattle.rbd_stands.specs.Image.{ImageStands, line_of_snap}
use Rattle.rbd_stands.specs.Site.{StandsFor, IsUntouched, Pending}
use Rattle.rbd_stands.specs.Condition.{IsDrawn, IsUnnamed, NamesOther}
use Rattle.rbd_stands.proofs.Frame.{KeepsParent}
use Rattle.rbd_stands.proofs.HeaderSteps as header
use Rattle.rbd_stands.proofs.ObjectSteps.{put_there}
use Rattle.rbd_stands.proofs.SiteSteps.{here, stands_at, KeepsParents, keep_all, site_change, is_drawn, other_header, with_headed, flat_there, flat_elsewhere}
use Rattle.rbd_stands.proofs.Lookups.{unless}
use Rattle.rbd_stands.proofs.Served.{was_there, where_served}

-- what an image stands for after a change
pub record After (below : Snapshots) (linked : Links) (k : HeaderView) (objects : ℕ → Mapped) (o : Option FlatImage) : Type 0 where
  pub image : FlatImage
  pub is : o ≡ Some image
  pub stands : ImageStands below linked k objects image

pub header_change : (pending : List Pending) (r : Records) (f g : Flat) (me : Instance) (image : ℕ) (o : HeaderOp) (h k : HeaderView) → StandsFor pending r f → r.headers image ≡ Some h → there_after me h o ≡ Some k
    → g.names ≡ f.names → g.links ≡ f.links → ((j : ℕ) → j ≢ image → image_at g j ≡ image_at f j)
    → KeepsParents pending r (snapshots_of f) (snapshots_of g)
    → ((i : FlatImage) → image_at f image ≡ Some i → ImageStands (snapshots_of g) (links_of g image) h (object_at r image) i → After (snapshots_of g) (links_of g image) k (object_at r image) (image_at g image))
    → StandsFor pending (after_served r me (op.Header image o)) g
header_change pending r f g me image o h k stands is made names links elsewhere keeps step =
    let header : Option HeaderView = header_after me (r.headers image) o in
    let watchers : List Instance = watchers_after me (r.headers image) (r.watchers image) o in
    let now : header ≡ Some k = ap (λ (p : Option HeaderView). header_after me p o) is ∙ made in
    site_change pending image r (with_headed image header watchers r) f g stands
    (other_header image header watchers r f g names links elsewhere)
    keeps
    (λ st.
    let was = here (snapshots_of g) (links_of g image) (r.headers image) (object_at r image) (image_at f image) h is st in
    let a = step was.image was.is was.stands in
    stands_at (snapshots_of g) (links_of g image) ((with_headed image header watchers r).headers image) (object_at r image) (image_at g image) k a.image (put_there r.headers image header ∙ now) a.is a.stands)
    (is_drawn pending r f stands image h is (with_headed image header watchers r) g)

-- ---- a header is made

module _ (below : Snapshots) (linked : Links) (h : HeaderView) (objects : ℕ → Mapped) (new : IsNewHeader h) (alone : h.parent ≡ None) (blank : (n : ℕ) → objects n ≡ mapped_blank) where
  abbrev pub zeros : FlatImage
  zeros = record { bytes = replicate h.size 0; snaps = []; role = h.role }

  none_listed : {P : Type 0} (t : ℕ) (s : SnapView) → snap_in h.snaps t ≡ Some s → P
  none_listed t s is = absurd (none-some s (sym (ap (λ snaps. snap_in snaps t) new.snaps) ∙ is))

  blank_tidy : IsTidy (versioned mapped_blank)
  blank_tidy = record { above = λ snap above. finmap.get-empty nat_cmp snap }

  pub image_made : ImageStands below linked h objects zeros
  image_made = record {
    same = ap (map line_of_snap) new.snaps;
    role = refl;
    long = record { head = length-replicate h.size 0; snap = λ t s is. none_listed t s is };
    bytes = record {
      head = λ x within. get_or-replicate h.size x 0 0 within
          ∙ sym (ap (λ (o : Mapped). shown below h.parent o.head (offset_of h.layout x) x) (blank (object_of h.layout x)) ∙ ap (λ parent. shown below parent None (offset_of h.layout x) x) alone);
      snap = λ t s is. none_listed t s is;
    };
    parents = record { head = subst (HasParent below linked) (sym alone) tt; snap = λ t s is. none_listed t s is };
    within = record { head = new.form.overlap; snap = λ t s is. none_listed t s is };
    untouched = λ n inside absent. absurd (subst (λ parent. IsInOverlap parent (byte_at h.layout n 0)) alone inside);
    alike = record { head = λ x inside absent. refl; snap = λ t s is. none_listed t s is };
    clear = λ x past. ap (λ (o : Mapped). get_or (unwrap_or o.head []) (offset_of h.layout x) 0) (blank (object_of h.layout x));
    tidy = λ n. subst (λ (o : Mapped). IsTidy (versioned o)) (sym (blank n)) blank_tidy;
    seen = λ n. let e : (objects n).seq ≡ 0 = ap (λ o. o.seq) (blank n) in omega arith;
    numbered = record { head = tt; snap = λ t s is. none_listed t s is };
    laid = new.form.layout;
  }

no_snap_of_none : (f : Flat) (image i t : ℕ) (s : FlatSnap) → image_at f image ≡ None → i ≡ image → snap_at f i t ≡ Some s → ⊥
no_snap_of_none f image i t s none same is = none-some s (sym (ap (λ o. snap_of o t) (ap (image_at f) same ∙ none)) ∙ is)

create_served : (pending : List Pending) (r : Records) (f : Flat) (me : Instance) (image : ℕ) (view : HeaderView) → StandsFor pending r f
    → IsDrawn r image → IsUntouched r f image → IsNewHeader view → view.parent ≡ None → answer_served r me (op.Header image (header_op.Create view)) ≡ answer.Done
    → StandsFor pending (after_served r me (op.Header image (header_op.Create view))) (flat.after f (effect.Create image view.size view.role))
create_served pending r f me image view stands drawn untouched new alone done =
    let e : Effect = effect.Create image view.size view.role in
    let g = flat.after f e in
    let header : Option HeaderView = header_after me (r.headers image) (header_op.Create view) in
    let watchers : List Instance = watchers_after me (r.headers image) (r.watchers image) (header_op.Create view) in
    let now : header ≡ Some view = ap (λ (p : Option HeaderView). header_after me p (header_op.Create view)) untouched.header in
    let made : image_at g image ≡ Some (zeros (snapshots_of g) (links_of g image) view (object_at r image) new alone untouched.blank) =
    image_law f e image ∙ ap (λ b. cond b (Some (zeros (snapshots_of g) (links_of g image) view (object_at r image) new alone untouched.blank)) (image_at f image)) (eq-eqb image image refl) in
    site_change pending image r (with_headed image header watchers r) f g stands
    (other_header image header watchers r f g (names_stay f e refl) (links_stay f e refl) (flat_elsewhere f e image refl))
    (keep_all pending r (snapshots_of f) (snapshots_of g) (λ i t s is. snap_law f e i t ∙ kept i t s is (eqb i image) refl))
    (λ st. stands_at (snapshots_of g) (links_of g image) ((with_headed image header watchers r).headers image) (object_at r image) (image_at g image) view _
    (put_there r.headers image header ∙ now) made (image_made (snapshots_of g) (links_of g image) view (object_at r image) new alone untouched.blank))
    (λ above. absurd (omega (arith, above, drawn)))
  where
    kept : (i t : ℕ) (s : FlatSnap) → snap_at f i t ≡ Some s → (b : Bool) → eqb i image ≡ b → cond b None (snap_at f i t) ≡ Some s
    kept i t s is true e = absurd (no_snap_of_none f image i t s untouched.flat (eqb-true i image e) is)
    kept i t s is false e = is

pub create_stands : (pending : List Pending) (r : Records) (f : Flat) (me : Instance) (image : ℕ) (view : HeaderView) → StandsFor pending r f
    → IsDrawn r image → IsUntouched r f image → IsNewHeader view → view.parent ≡ None → answer_to r me (op.Header image (header_op.Create view)) ≡ answer.Done
    → StandsFor pending (after r me (op.Header image (header_op.Create view))) (flat.after f (effect.Create image view.size view.role))
create_stands pending r f me image view stands drawn untouched new alone =
    where_served (λ (s : Records). StandsFor pending s (flat.after f (effect.Create image view.size view.role))) r me (op.Header image (header_op.Create view)) answer.Done refl
    (create_served pending r f me image view stands drawn untouched new alone)

-- ---- a snapshot is taken

record IsTaken (listed full : Bool) (next snap : ℕ) : Type 0 where
  pub unlisted : listed ≡ false
  pub room : full ≡ false
  pub answered : next ≡ snap

taken : (listed full : Bool) (next snap : ℕ) → snap_added listed full next ≡ answer.Snap snap → IsTaken listed full next snap
taken true full next snap e = absurd (cc)
taken false true next snap e = absurd (cc)
taken false false next snap e = record { unlisted = refl; room = refl; answered = cc }

still_first : (b : Bool) (o more : Option FlatSnap) (s : FlatSnap) → o ≡ Some s → cond b (option_or o more) o ≡ Some s
still_first true o more s is = ap (λ p. option_or p more) is
still_first false o more s is = is

snap_served : (pending : List Pending) (r : Records) (f : Flat) (me : Instance) (image snap : ℕ) (name : List ℕ) → StandsFor pending r f
    → answer_served r me (op.Header image (header_op.SnapAdd name)) ≡ answer.Snap snap
    → StandsFor pending (after_served r me (op.Header image (header_op.SnapAdd name))) (flat.after f (effect.Snap image snap name))
snap_served pending r f me image snap name stands answered = go (r.headers image) refl
  where
    go : (header : Option HeaderView) → r.headers image ≡ header → StandsFor pending (after_served r me (op.Header image (header_op.SnapAdd name))) (flat.after f (effect.Snap image snap name))
    go None is = absurd (let e = sym (ap (λ (p : Option HeaderView). header_answer me p (r.watchers image) (header_op.SnapAdd name)) is) ∙ answered in cc)
    go (Some h) is =
        let a = taken (is_some (snap_named h.snaps name)) (is_full h) (h.snap_seq + 1) snap
        (sym (ap (λ (p : Option HeaderView). header_answer me p (r.watchers image) (header_op.SnapAdd name)) is) ∙ answered) in
        let made : there_after me h (header_op.SnapAdd name) ≡ Some (with_snap name h) =
        ap (λ b. Some (where_made b (is_full h) (with_snap name h) h)) a.unlisted ∙ ap (λ b. Some (where_made false b (with_snap name h) h)) a.room in
        let e : Effect = effect.Snap image (h.snap_seq + 1) name in
        let g = flat.after f e in
        subst (λ n. StandsFor pending (after_served r me (op.Header image (header_op.SnapAdd name))) (flat.after f (effect.Snap image n name))) a.answered
        (header_change pending r f g me image (header_op.SnapAdd name) h (with_snap name h) stands is made (names_stay f e refl) (links_stay f e refl) (flat_elsewhere f e image refl)
        (keep_all pending r (snapshots_of f) (snapshots_of g) (λ i t s is. snap_law f e i t ∙ still_first (eqb i image && eqb t (h.snap_seq + 1)) (snap_at f i t) _ s is))
        (λ i at st. record {
          image = header.with_flat_snap (snapshots_of g) (links_of g image) name h (object_at r image) i st;
          is = flat_there f image _ i at;
          stands = header.snap_added (snapshots_of g) (links_of g image) name h (object_at r image) i st;
        }))

pub snap_stands : (pending : List Pending) (r : Records) (f : Flat) (me : Instance) (image snap : ℕ) (name : List ℕ) → StandsFor pending r f
    → answer_to r me (op.Header image (header_op.SnapAdd name)) ≡ answer.Snap snap
    → StandsFor pending (after r me (op.Header image (header_op.SnapAdd name))) (flat.after f (effect.Snap image snap name))
snap_stands pending r f me image snap name stands =
    where_served (λ (s : Records). StandsFor pending s (flat.after f (effect.Snap image snap name))) r me (op.Header image (header_op.SnapAdd name)) (answer.Snap snap) refl
    (snap_served pending r f me image snap name stands)

-- ---- a snapshot is removed

unsnap_served : (pending : List Pending) (r : Records) (f : Flat) (me : Instance) (image snap : ℕ) → StandsFor pending r f → IsUnnamed pending r image snap
    → answer_served r me (op.Header image (header_op.SnapRemove snap)) ≡ answer.Done
    → StandsFor pending (after_served r me (op.Header image (header_op.SnapRemove snap))) (flat.after f (effect.Unsnap image snap))
unsnap_served pending r f me image snap stands unnamed answered = go (r.headers image) refl
  where
    kept : (parent : Option ParentLink) → NamesOther image snap parent → KeepsParent (snapshots_of f) (snapshots_of (flat.after f (effect.Unsnap image snap))) parent
    kept None other = tt
    kept (Some link) other = λ s is. record {
      snap = s;
      is = snap_law f (effect.Unsnap image snap) link.image link.snap
          ∙ unless (eqb link.image image && eqb link.snap snap) (snap_at f link.image link.snap) s
          (λ both. let t = and_parts (eqb link.image image) (eqb link.snap snap) both in other (eqb-true link.image image t.0) (eqb-true link.snap snap t.1)) is;
      bytes = refl;
      kept = λ k. k;
    }

    go : (header : Option HeaderView) → r.headers image ≡ header → StandsFor pending (after_served r me (op.Header image (header_op.SnapRemove snap))) (flat.after f (effect.Unsnap image snap))
    go None is = absurd (let a = sym (ap (λ (p : Option HeaderView). header_answer me p (r.watchers image) (header_op.SnapRemove snap)) is) ∙ answered in cc)
    go (Some h) is =
        let there = was_there (is_some (snap_in h.snaps snap)) (sym (ap (λ (p : Option HeaderView). header_answer me p (r.watchers image) (header_op.SnapRemove snap)) is) ∙ answered) in
        let made : there_after me h (header_op.SnapRemove snap) ≡ Some (without_snap snap h) = ap (λ b. Some (cond b (without_snap snap h) h)) there in
        let x : Effect = effect.Unsnap image snap in
        let g = flat.after f x in
        header_change pending r f g me image (header_op.SnapRemove snap) h (without_snap snap h) stands is made (names_stay f x refl) (links_stay f x refl) (flat_elsewhere f x image refl)
        (record {
          awaited = λ k p at. kept (Some p.link) (unnamed.awaited k p at);
          each = λ child k at. let u = unnamed.views child k at in record { head = kept k.parent u.head; snap = λ t s listed. kept s.parent (u.snap t s listed) };
        })
        (λ i at st. record {
          image = header.without_flat_snap (snapshots_of g) (links_of g image) snap h (object_at r image) i st;
          is = flat_there f image _ i at;
          stands = header.snap_removed (snapshots_of g) (links_of g image) snap h (object_at r image) i st;
        })

pub unsnap_stands : (pending : List Pending) (r : Records) (f : Flat) (me : Instance) (image snap : ℕ) → StandsFor pending r f → IsUnnamed pending r image snap
    → answer_to r me (op.Header image (header_op.SnapRemove snap)) ≡ answer.Done
    → StandsFor pending (after r me (op.Header image (header_op.SnapRemove snap))) (flat.after f (effect.Unsnap image snap))
unsnap_stands pending r f me image snap stands unnamed =
    where_served (λ (s : Records). StandsFor pending s (flat.after f (effect.Unsnap image snap))) r me (op.Header image (header_op.SnapRemove snap)) answer.Done refl
    (unsnap_served pending r f me image snap stands unnamed)

-- A copy-up, and the header of a clone.
use Rattle.std.proofs.Common.{◌≡◌, ℕ, ◌<◌, ◌≤◌, Bool, true, false, cond, eqb, List, [], length, get_or, Option, Some, None, is_some, unwrap_or, refl, sym, ◌∙◌, ap, subst, arith, map, ◌&&◌}
use Rattle.std.specs.FinMap as finmap
use Rattle.std.specs.List.{slice_get}
use Rattle.std.specs.Ordering.{nat_cmp}
use Rattle.std.proofs.lemmas.Bool.{true≢false, lt-ltb, eqb-true, eq-eqb}
use Rattle.std.proofs.lemmas.Option.{none-some}
use Rattle.rbd_kinds.specs.declared.answer.Answer.TheVariants as answer
use Rattle.rbd_kinds.specs.declared.data_op.DataOp.TheVariants as data_op
use Rattle.rbd_kinds.specs.declared.header.HeaderView.{HeaderView}
use Rattle.rbd_kinds.specs.declared.header.ParentLink.{ParentLink}
use Rattle.rbd_kinds.specs.declared.header.Role.TheVariants.{Plain}
use Rattle.rbd_kinds.specs.declared.header.SnapView.{SnapView}
use Rattle.rbd_kinds.specs.declared.header_op.HeaderOp.TheVariants as header_op
use Rattle.rbd_kinds.specs.declared.id.Instance.{Instance}
use Rattle.rbd_kinds.specs.declared.operation.Op.TheVariants as op
use Rattle.rbd_kinds.specs.Striping.{object_of, offset_of}
use Rattle.rbd_header.specs.Header.{snap_in}
use Rattle.rbd_object.specs.Mapped.{Mapped, versioned, mapped_blank, mapped_copy_up}
use Rattle.rbd_object.specs.Versioned.{IsTidy, view}
use Rattle.rbd_flat.specs.declared.effect.Effect.{Effect}
use Rattle.rbd_flat.specs.declared.effect.Effect.TheVariants as effect
use Rattle.rbd_flat.specs.Flat.{Flat, FlatImage, FlatSnap, image_at, snap_of}
use Rattle.rbd_flat.specs.Flat as flat
use Rattle.rbd_flat.specs.Laws.{snap_at, snap_byte}
use Rattle.rbd_flat.proofs.Images.{clone_of, image_law}
use Rattle.rbd_flat.proofs.Steps.{snap_law, names_stay, links_stay}
use Rattle.rbd_site.specs.HeaderStep.{header_after}
use Rattle.rbd_site.specs.Records.{Records, object_at, put, with_object}
use Rattle.rbd_site.specs.WatchStep.{watchers_after}
use Rattle.rbd_site.specs.Step.{answer_to, answer_served, after, after_served}
use Rattle.rbd_site.proofs.OneChange.{none_from_test}
use Rattle.rbd_stands.specs.Condition.{IsCloneHeader, IsDrawn, IsGathered, MayCopyUp}
use Rattle.rbd_stands.specs.Image.{ImageStands, IsInside, line_of_snap}
use Rattle.rbd_stands.specs.Shown.{Snapshots, Links, HasParent, inherited, links_of, shown, snapshots_of}
use Rattle.rbd_stands.specs.Site.{StandsFor, IsAwaited, IsUntouched, Pending}
use Rattle.rbd_stands.proofs.DataSteps.{done_after}
use Rattle.rbd_stands.proofs.HeaderEdits.{past_inherited}
use Rattle.rbd_stands.proofs.ObjectSteps.{put_both, put_there}
use Rattle.rbd_stands.proofs.SiteSteps.{here, is_drawn, keep_all, links_same, object_there, other_header, with_headed, other_object, site_change, stands_at, flat_elsewhere}
use Rattle.rbd_stands.proofs.Served.{where_served}

-- ---- an object that was never changed is copied up

module _ (below : Snapshots) (linked : Links) (h : HeaderView) (objects : ℕ → Mapped) (i : FlatImage) (stands : ImageStands below linked h objects i)
    (n : ℕ) (bytes : List ℕ) (inside : IsInside h n) (absent : (objects n).head ≡ None) (gathered : IsGathered below h n bytes) where
  abbrev now : Mapped
  now = mapped_copy_up bytes (objects n)

  blank : objects n ≡ mapped_blank
  blank = stands.untouched n inside absent

  head_now : now.head ≡ Some bytes
  head_now = ap (λ (o : Mapped). Some (unwrap_or o.head bytes)) blank

  -- each snapshot that is listed shows the head, and showed nothing
  view_now : (t : ℕ) → 0 < t → view (versioned now) (Some t) ≡ Some bytes
  view_now t later =
      ap (λ (o : Mapped). view (versioned (mapped_copy_up bytes o)) (Some t)) blank
      ∙ ap (λ b. cond b (Some bytes) ((versioned mapped_blank).kept t)) (lt-ltb 0 t later)

  view_was : (t : ℕ) → 0 < t → view (versioned (objects n)) (Some t) ≡ None
  view_was t later =
      ap (λ (o : Mapped). view (versioned o) (Some t)) blank
      ∙ ap (λ b. cond b None ((versioned mapped_blank).kept t)) (lt-ltb 0 t later)

  head_bytes : (x : ℕ) → x < h.size → (m : ℕ) → object_of h.layout x ≡ m → get_or i.bytes x 0 ≡ shown below h.parent (put objects n now m).head (offset_of h.layout x) x
  head_bytes x within = put_both (λ m o. object_of h.layout x ≡ m → get_or i.bytes x 0 ≡ shown below h.parent o.head (offset_of h.layout x) x) objects n now
      (λ same. stands.bytes.head x within
      ∙ ap (λ k. shown below h.parent (objects k).head (offset_of h.layout x) x) same
      ∙ ap (λ content. shown below h.parent content (offset_of h.layout x) x) absent
      ∙ sym (gathered x same)
      ∙ sym (ap (λ content. shown below h.parent content (offset_of h.layout x) x) head_now))
      (λ m other same. stands.bytes.head x within ∙ ap (λ k. shown below h.parent (objects k).head (offset_of h.layout x) x) same)

  snap_bytes : (t : ℕ) (s : SnapView) → snap_in h.snaps t ≡ Some s → (bs : List ℕ) (x : ℕ)
      → get_or bs x 0 ≡ shown below s.parent (view (versioned (objects (object_of h.layout x))) (Some t)) (offset_of h.layout x) x
      → (m : ℕ) → object_of h.layout x ≡ m → get_or bs x 0 ≡ shown below s.parent (view (versioned (put objects n now m)) (Some t)) (offset_of h.layout x) x
  snap_bytes t s is bs x was = put_both (λ m o. object_of h.layout x ≡ m → get_or bs x 0 ≡ shown below s.parent (view (versioned o) (Some t)) (offset_of h.layout x) x) objects n now
      (λ same. was
      ∙ ap (λ k. shown below s.parent (view (versioned (objects k)) (Some t)) (offset_of h.layout x) x) same
      ∙ ap (λ content. shown below s.parent content (offset_of h.layout x) x) (view_was t (stands.numbered.snap t s is).0)
      ∙ stands.alike.snap t s is x (subst (IsInside h) (sym same) inside) (ap (λ k. (objects k).head) same ∙ absent)
      ∙ sym (gathered x same)
      ∙ sym (ap (λ content. shown below s.parent content (offset_of h.layout x) x) (view_now t (stands.numbered.snap t s is).0)))
      (λ m other same. was ∙ ap (λ k. shown below s.parent (view (versioned (objects k)) (Some t)) (offset_of h.layout x) x) same)

  -- no head that is there is absent
  not_absent : {P : Type 0} → now.head ≡ None → P
  not_absent none = absurd (true≢false (sym (ap is_some head_now) ∙ ap is_some none))

  pub object_copied : ImageStands below linked h (put objects n now) i
  object_copied = record {
    same = stands.same;
    role = stands.role;
    long = stands.long;
    bytes = record {
      head = λ x within. head_bytes x within (object_of h.layout x) refl;
      snap = λ t s is x within. snap_bytes t s is _ x (stands.bytes.snap t s is x within) (object_of h.layout x) refl;
    };
    parents = stands.parents;
    within = stands.within;
    clear = λ x past. put_both (λ m o. object_of h.layout x ≡ m → get_or (unwrap_or o.head []) (offset_of h.layout x) 0 ≡ 0) objects n now
        (λ same. ap (λ (head : Option (List ℕ)). get_or (unwrap_or head []) (offset_of h.layout x) 0) head_now ∙ gathered x same ∙ past_inherited below h.parent h.size x stands.within.head past)
        (λ m other same. ap (λ k. get_or (unwrap_or (objects k).head []) (offset_of h.layout x) 0) (sym same) ∙ stands.clear x past)
        (object_of h.layout x) refl;
    untouched = put_both (λ m o. IsInside h m → o.head ≡ None → o ≡ mapped_blank) objects n now (λ _ none. not_absent none) (λ m other. stands.untouched m);
    alike = record {
      head = λ x _ none. refl;
      snap = λ t s is x in_it none. put_both (λ m o. IsInside h m → o.head ≡ None → object_of h.layout x ≡ m → inherited below s.parent x ≡ inherited below h.parent x) objects n now
          (λ _ gone same. not_absent gone)
          (λ m other at gone same. stands.alike.snap t s is x (subst (IsInside h) (sym same) at) (ap (λ k. (objects k).head) same ∙ gone))
          (object_of h.layout x) in_it none refl;
    };
    tidy = put_both (λ m o. IsTidy (versioned o)) objects n now (record { above = (stands.tidy n).above }) (λ m other. stands.tidy m);
    seen = put_both (λ m o. o.seq ≤ h.snap_seq) objects n now (stands.seen n) (λ m other. stands.seen m);
    numbered = stands.numbered;
    laid = stands.laid;
  }

not_there : (b : Bool) → cond b answer.Exists answer.Done ≡ answer.Done → b ≡ false
not_there true e = absurd (cc)
not_there false e = refl

copy_served : (pending : List Pending) (r : Records) (f : Flat) (me : Instance) (image number : ℕ) (h : HeaderView) (bytes : List ℕ)
    → StandsFor pending r f → r.headers image ≡ Some h → MayCopyUp (snapshots_of f) h number (object_at r image number) bytes
    → answer_served r me (op.Data image number (data_op.CopyUp bytes)) ≡ answer.Done
    → StandsFor pending (after_served r me (op.Data image number (data_op.CopyUp bytes))) f
copy_served pending r f me image number h bytes stands is may done =
    let absent : (object_at r image number).head ≡ None = none_from_test (object_at r image number).head (not_there (is_some (object_at r image number).head) done) in
    let now : Mapped = mapped_copy_up bytes (object_at r image number) in
    let s = with_object image number (Some now) r in
    subst (λ (object : Option Mapped). StandsFor pending (with_object image number object r) f) (sym (done_after (r.objects image number) (data_op.CopyUp bytes) done))
    (site_change pending image r s f f stands (other_object image number (Some now) r f f refl refl (λ j other. refl))
    (keep_all pending r (snapshots_of f) (snapshots_of f) (λ i t u at. at))
    (λ st. let k = here (snapshots_of f) (links_of f image) (r.headers image) (object_at r image) (image_at f image) h is st in
    stands_at (snapshots_of f) (links_of f image) (r.headers image) (object_at s image) (image_at f image) h k.image is k.is
    (subst (λ (objects : ℕ → Mapped). ImageStands (snapshots_of f) (links_of f image) h objects k.image) (sym (object_there image number now r))
    (object_copied (snapshots_of f) (links_of f image) h (object_at r image) k.image k.stands number bytes (may.inside absent) absent (may.gathered absent))))
    (is_drawn pending r f stands image h is s f))

pub copy_stands : (pending : List Pending) (r : Records) (f : Flat) (me : Instance) (image number : ℕ) (h : HeaderView) (bytes : List ℕ)
    → StandsFor pending r f → r.headers image ≡ Some h → MayCopyUp (snapshots_of f) h number (object_at r image number) bytes
    → answer_to r me (op.Data image number (data_op.CopyUp bytes)) ≡ answer.Done
    → StandsFor pending (after r me (op.Data image number (data_op.CopyUp bytes))) f
copy_stands pending r f me image number h bytes stands is may =
    where_served (λ (s : Records). StandsFor pending s f) r me (op.Data image number (data_op.CopyUp bytes)) answer.Done refl
    (copy_served pending r f me image number h bytes stands is may)

-- ---- a clone's header is made

module _ (below : Snapshots) (linked : Links) (h : HeaderView) (link : ParentLink) (objects : ℕ → Mapped) (s : FlatSnap) (made : IsCloneHeader h link) (blank : (n : ℕ) → objects n ≡ mapped_blank)
    (is : below link.image link.snap ≡ Some s) (whole : length s.bytes ≡ link.overlap) (waits : IsAwaited below linked link) where
  abbrev pub copied : FlatImage
  copied = record { bytes = s.bytes; snaps = []; role = Plain }

  none_listed : {P : Type 0} (t : ℕ) (u : SnapView) → snap_in h.snaps t ≡ Some u → P
  none_listed t u listed = absurd (none-some u (sym (ap (λ snaps. snap_in snaps t) made.new.snaps) ∙ listed))

  inherited_whole : (x : ℕ) → x < h.size → get_or s.bytes x 0 ≡ inherited below h.parent x
  inherited_whole x within =
      sym (ap (λ parent. inherited below parent x) made.parent
      ∙ ap (λ b. cond b (snap_byte (below link.image link.snap) 0 x) 0) (lt-ltb x link.overlap (omega (arith, within, made.whole)))
      ∙ ap (λ o. snap_byte o 0 x) is)

  pub clone_made : ImageStands below linked h objects copied
  clone_made = record {
    same = ap (map line_of_snap) made.new.snaps;
    role = made.role;
    long = record { head = whole ∙ sym made.whole; snap = λ t u listed. none_listed t u listed };
    bytes = record {
      head = λ x within. inherited_whole x within ∙ sym (ap (λ (o : Mapped). shown below h.parent o.head (offset_of h.layout x) x) (blank (object_of h.layout x)));
      snap = λ t u listed. none_listed t u listed;
    };
    parents = record {
      head = subst (HasParent below linked) (sym made.parent) (record { snap = waits.snap; is = waits.is; long = omega (arith, waits.long); kept = waits.kept; child = waits.child });
      snap = λ t u listed. none_listed t u listed;
    };
    within = record { head = made.new.form.overlap; snap = λ t u listed. none_listed t u listed };
    clear = λ x past. ap (λ (o : Mapped). get_or (unwrap_or o.head []) (offset_of h.layout x) 0) (blank (object_of h.layout x));
    untouched = λ n inside absent. blank n;
    alike = record { head = λ x inside absent. refl; snap = λ t u listed. none_listed t u listed };
    tidy = λ n. subst (λ (o : Mapped). IsTidy (versioned o)) (sym (blank n)) (record { above = λ snap above. finmap.get-empty nat_cmp snap });
    seen = λ n. let e : (objects n).seq ≡ 0 = ap (λ o. o.seq) (blank n) in omega arith;
    numbered = record { head = tt; snap = λ t u listed. none_listed t u listed };
    laid = made.new.form.layout;
  }

clone_served : (pending : List Pending) (r : Records) (f : Flat) (me : Instance) (image k : ℕ) (view : HeaderView) (link : ParentLink) → StandsFor pending r f
    → slice_get pending k ≡ Some (record { child = image; link = link }) → IsDrawn r image → IsUntouched r f image → IsCloneHeader view link
    → answer_served r me (op.Header image (header_op.Create view)) ≡ answer.Done
    → StandsFor pending (after_served r me (op.Header image (header_op.Create view))) (flat.after f (effect.Clone image link.image link.snap))
clone_served pending r f me image k view link stands at drawn untouched made done =
    let e : Effect = effect.Clone image link.image link.snap in
    let g = flat.after f e in
    let waits : IsAwaited (snapshots_of f) (links_of f image) link = stands.awaited k (record { child = image; link = link }) at in
    let header : Option HeaderView = header_after me (r.headers image) (header_op.Create view) in
    let watchers : List Instance = watchers_after me (r.headers image) (r.watchers image) (header_op.Create view) in
    let now : header ≡ Some view = ap (λ (p : Option HeaderView). header_after me p (header_op.Create view)) untouched.header in
    let stays : (i t : ℕ) (s : FlatSnap) → snap_at f i t ≡ Some s → snap_at g i t ≡ Some s = λ i t s is. snap_law f e i t ∙ kept i t s is (eqb i image) refl in
    let there : snap_at g link.image link.snap ≡ Some waits.snap = stays link.image link.snap waits.snap waits.is in
    let linked : links_of g image ≡ links_of f image = links_same f g (links_stay f e refl) image in
    let waits_now : IsAwaited (snapshots_of g) (links_of g image) link =
    subst (λ (l : Links). IsAwaited (snapshots_of g) l link) (sym linked) (record { snap = waits.snap; is = there; long = waits.long; kept = waits.kept; child = waits.child }) in
    let flat_now : image_at g image ≡ Some (record { bytes = waits.snap.bytes; snaps = []; role = Plain }) =
    image_law f e image ∙ ap (λ b. cond b (clone_of (snap_at f link.image link.snap) (image_at f image)) (image_at f image)) (eq-eqb image image refl) ∙ ap (λ o. clone_of o (image_at f image)) waits.is in
    site_change pending image r (with_headed image header watchers r) f g stands
    (other_header image header watchers r f g (names_stay f e refl) (links_stay f e refl) (flat_elsewhere f e image refl))
    (keep_all pending r (snapshots_of f) (snapshots_of g) stays)
    (λ st. stands_at (snapshots_of g) (links_of g image) ((with_headed image header watchers r).headers image) (object_at r image) (image_at g image) view _
    (put_there r.headers image header ∙ now) flat_now
    (clone_made (snapshots_of g) (links_of g image) view link (object_at r image) waits.snap made untouched.blank there waits.long waits_now))
    (λ above. absurd (omega (arith, above, drawn)))
  where
    kept : (i t : ℕ) (s : FlatSnap) → snap_at f i t ≡ Some s → (b : Bool) → eqb i image ≡ b → cond (b && is_some (snap_at f link.image link.snap)) None (snap_at f i t) ≡ Some s
    kept i t s is true e = absurd (none-some s (sym (ap (λ o. snap_of o t) (ap (image_at f) (eqb-true i image e) ∙ untouched.flat)) ∙ is))
    kept i t s is false e = is

pub clone_stands : (pending : List Pending) (r : Records) (f : Flat) (me : Instance) (image k : ℕ) (view : HeaderView) (link : ParentLink) → StandsFor pending r f
    → slice_get pending k ≡ Some (record { child = image; link = link }) → IsDrawn r image → IsUntouched r f image → IsCloneHeader view link
    → answer_to r me (op.Header image (header_op.Create view)) ≡ answer.Done
    → StandsFor pending (after r me (op.Header image (header_op.Create view))) (flat.after f (effect.Clone image link.image link.snap))
clone_stands pending r f me image k view link stands at drawn untouched made =
    where_served (λ (s : Records). StandsFor pending s (flat.after f (effect.Clone image link.image link.snap))) r me (op.Header image (header_op.Create view)) answer.Done refl
    (clone_served pending r f me image k view link stands at drawn untouched made)

-- Size, status, role and parent are set and a header is removed, at the site; and what an id needs
-- that has no header yet.
use Rattle.std.proofs.Common.{◌≡◌, ◌≢◌, ℕ, ◌≤◌, Bool, true, false, cond, eqb, ◌&&◌, List, [], map, Option, Some, None, option_map, is_some, refl, sym, ◌∙◌, ap, arith}
use Rattle.std.proofs.lemmas.Bool.{and_parts, eq-eqb, eqb-true, eqb-false}
use Rattle.std.proofs.lemmas.Option.{none-some, same_Some}
use Rattle.rbd_kinds.specs.declared.answer.Answer.{Answer}
use Rattle.rbd_kinds.specs.declared.answer.Answer.TheVariants as answer
use Rattle.rbd_kinds.specs.declared.directory_op.DirectoryOp.{DirectoryOp}
use Rattle.rbd_kinds.specs.declared.directory_op.DirectoryOp.TheVariants as directory_op
use Rattle.rbd_kinds.specs.declared.header.HeaderView.{HeaderView}
use Rattle.rbd_kinds.specs.declared.header.ParentLink.{ParentLink}
use Rattle.rbd_kinds.specs.declared.header.Role.{Role}
use Rattle.rbd_kinds.specs.declared.header.SnapStatus.{SnapStatus}
use Rattle.rbd_kinds.specs.declared.header.SnapStatus.TheVariants.{Unprotected}
use Rattle.rbd_kinds.specs.declared.header.SnapView.{SnapView}
use Rattle.rbd_kinds.specs.declared.header_op.HeaderOp.TheVariants as header_op
use Rattle.rbd_kinds.specs.declared.id.Instance.{Instance}
use Rattle.rbd_kinds.specs.declared.operation.Op.{Op}
use Rattle.rbd_kinds.specs.declared.operation.Op.TheVariants as op
use Rattle.rbd_header.specs.Header.{snap_in, with_size, with_status, with_role, detached}
use Rattle.rbd_registry.specs.Directory.{Listing, id_of, added, renamed, freed, holds_id}
use Rattle.rbd_flat.specs.declared.effect.Effect.{Effect}
use Rattle.rbd_flat.specs.declared.effect.Effect.TheVariants as effect
use Rattle.rbd_flat.specs.Flat.{Flat, FlatSnap, image_at, snap_of, resized}
use Rattle.rbd_flat.specs.Flat as flat
use Rattle.rbd_flat.specs.Laws.{snap_at}
use Rattle.rbd_flat.proofs.Images.{image_law}
use Rattle.rbd_flat.proofs.Steps.{snap_law, names_stay, links_stay}
use Rattle.rbd_site.specs.DirectoryStep.{directory_answer, directory_after, where_added, where_done}
use Rattle.rbd_site.specs.DataStep.{data_after}
use Rattle.rbd_site.specs.HeaderStep.{header_answer, header_after, there_after}
use Rattle.rbd_site.specs.Records.{Records, put, or_blank, object_at}
use Rattle.rbd_site.specs.WatchStep.{watchers_after}
use Rattle.rbd_site.proofs.StepLemmas.{where_fenced}
use Rattle.rbd_site.specs.Step.{answer_to, answer_served, after, after_served}
use Rattle.rbd_stands.specs.Shown.{Snapshots, snapshots_of, HasParent, Links, links_of}
use Rattle.rbd_stands.specs.Image.{SnapLine, line_of_snap, line_of_flat}
use Rattle.rbd_stands.specs.Unseen.{is_about}
use Rattle.rbd_stands.specs.Site.{StandsFor, IsUntouched, Pending, IsAwaited}
use Rattle.rbd_stands.specs.Condition.{IsCopiedUp, IsZeroedFrom, IsUnnamed, IsDrawn, NamesOther}
use Rattle.rbd_stands.proofs.Frame.{KeepsParent}
use Rattle.rbd_stands.proofs.HeaderEdits.{size_set, role_set, status_set, parent_taken}
use Rattle.rbd_stands.proofs.ImageSteps.{header_change}
use Rattle.rbd_stands.proofs.Lookups.{flat_missing, line_at}
use Rattle.rbd_stands.proofs.ObjectSteps.{put_there, put_elsewhere}
use Rattle.rbd_stands.proofs.SiteSteps.{Here, here, stands_without, keep_all, site_change, is_drawn, other_header, with_headed, flat_there, flat_elsewhere}
use Rattle.rbd_stands.proofs.Served.{was_there, where_served}

-- ---- a size

size_served : (pending : List Pending) (r : Records) (f : Flat) (me : Instance) (image size : ℕ) (h : HeaderView) → StandsFor pending r f → r.headers image ≡ Some h → IsZeroedFrom h size (object_at r image)
    → answer_served r me (op.Header image (header_op.SetSize size)) ≡ answer.Done
    → StandsFor pending (after_served r me (op.Header image (header_op.SetSize size))) (flat.after f (effect.Size image size))
size_served pending r f me image size h stands is zeroed done =
    let e : Effect = effect.Size image size in
    let g = flat.after f e in
    header_change pending r f g me image (header_op.SetSize size) h (with_size size h) stands is refl (names_stay f e refl) (links_stay f e refl) (flat_elsewhere f e image refl)
    (keep_all pending r (snapshots_of f) (snapshots_of g) (λ i t s at. snap_law f e i t ∙ at))
    (λ i at st. record {
      image = record i { bytes = resized size i.bytes };
      is = flat_there f image _ i at;
      stands = size_set (snapshots_of g) (links_of g image) h (object_at r image) i st size zeroed;
    })

pub size_stands : (pending : List Pending) (r : Records) (f : Flat) (me : Instance) (image size : ℕ) (h : HeaderView) → StandsFor pending r f → r.headers image ≡ Some h → IsZeroedFrom h size (object_at r image)
    → answer_to r me (op.Header image (header_op.SetSize size)) ≡ answer.Done
    → StandsFor pending (after r me (op.Header image (header_op.SetSize size))) (flat.after f (effect.Size image size))
size_stands pending r f me image size h stands is zeroed =
    where_served (λ (s : Records). StandsFor pending s (flat.after f (effect.Size image size))) r me (op.Header image (header_op.SetSize size)) answer.Done refl
    (size_served pending r f me image size h stands is zeroed)

-- ---- a role

role_served : (pending : List Pending) (r : Records) (f : Flat) (me : Instance) (image : ℕ) (role : Role) → StandsFor pending r f
    → answer_served r me (op.Header image (header_op.Role role)) ≡ answer.Done
    → StandsFor pending (after_served r me (op.Header image (header_op.Role role))) (flat.after f (effect.Role image role))
role_served pending r f me image role stands answered = go (r.headers image) refl
  where
    go : (header : Option HeaderView) → r.headers image ≡ header → StandsFor pending (after_served r me (op.Header image (header_op.Role role))) (flat.after f (effect.Role image role))
    go None is = absurd (let a = sym (ap (λ (p : Option HeaderView). header_answer me p (r.watchers image) (header_op.Role role)) is) ∙ answered in cc)
    go (Some h) is =
        let e : Effect = effect.Role image role in
        let g = flat.after f e in
        header_change pending r f g me image (header_op.Role role) h (with_role role h) stands is refl (names_stay f e refl) (links_stay f e refl) (flat_elsewhere f e image refl)
        (keep_all pending r (snapshots_of f) (snapshots_of g) (λ i t s at. snap_law f e i t ∙ at))
        (λ i at st. record {
          image = record i { role = role };
          is = flat_there f image _ i at;
          stands = role_set (snapshots_of g) (links_of g image) h (object_at r image) i st role;
        })

pub role_stands : (pending : List Pending) (r : Records) (f : Flat) (me : Instance) (image : ℕ) (role : Role) → StandsFor pending r f
    → answer_to r me (op.Header image (header_op.Role role)) ≡ answer.Done
    → StandsFor pending (after r me (op.Header image (header_op.Role role))) (flat.after f (effect.Role image role))
role_stands pending r f me image role stands =
    where_served (λ (s : Records). StandsFor pending s (flat.after f (effect.Role image role))) r me (op.Header image (header_op.Role role)) answer.Done refl
    (role_served pending r f me image role stands)

-- ---- the status of a snapshot

status_served : (pending : List Pending) (r : Records) (f : Flat) (me : Instance) (image snap : ℕ) (status : SnapStatus) → StandsFor pending r f → (status ≡ Unprotected → IsUnnamed pending r image snap)
    → answer_served r me (op.Header image (header_op.SnapStatus snap status)) ≡ answer.Done
    → StandsFor pending (after_served r me (op.Header image (header_op.SnapStatus snap status))) (flat.after f (effect.Status image snap status))
status_served pending r f me image snap status stands free answered = go (r.headers image) refl
  where
    -- a parent's status may change, but not to unprotected
    given : (b : Bool) (parent : Option FlatSnap) (s : FlatSnap) → parent ≡ Some s → (b ≡ true → status ≢ Unprotected)
        → (u : FlatSnap) × (cond b (option_map {T = FlatSnap} {U = FlatSnap} (λ v. record v { status = status }) parent) parent ≡ Some u) × (u.bytes ≡ s.bytes) × (s.status ≢ Unprotected → u.status ≢ Unprotected)
    given true parent s is not_free = (record s { status = status }, ap (option_map {T = FlatSnap} {U = FlatSnap} (λ v. record v { status = status })) is, refl, λ k. not_free refl)
    given false parent s is not_free = (s, is, refl, λ k. k)

    kept : (parent : Option ParentLink) → (status ≡ Unprotected → NamesOther image snap parent) → KeepsParent (snapshots_of f) (snapshots_of (flat.after f (effect.Status image snap status))) parent
    kept None other = tt
    kept (Some link) other = λ s is.
        let found = given (eqb link.image image && eqb link.snap snap) (snap_at f link.image link.snap) s is
        (λ both unprotected. let t = and_parts (eqb link.image image) (eqb link.snap snap) both in other unprotected (eqb-true link.image image t.0) (eqb-true link.snap snap t.1)) in
        record { snap = found.0; is = snap_law f (effect.Status image snap status) link.image link.snap ∙ found.1; bytes = found.2; kept = found.3 }

    go : (header : Option HeaderView) → r.headers image ≡ header → StandsFor pending (after_served r me (op.Header image (header_op.SnapStatus snap status))) (flat.after f (effect.Status image snap status))
    go None is = absurd (let a = sym (ap (λ (p : Option HeaderView). header_answer me p (r.watchers image) (header_op.SnapStatus snap status)) is) ∙ answered in cc)
    go (Some h) is =
        let there = was_there (is_some (snap_in h.snaps snap)) (sym (ap (λ (p : Option HeaderView). header_answer me p (r.watchers image) (header_op.SnapStatus snap status)) is) ∙ answered) in
        let made : there_after me h (header_op.SnapStatus snap status) ≡ Some (with_status snap status h) = ap (λ b. Some (cond b (with_status snap status h) h)) there in
        let e : Effect = effect.Status image snap status in
        let g = flat.after f e in
        header_change pending r f g me image (header_op.SnapStatus snap status) h (with_status snap status h) stands is made (names_stay f e refl) (links_stay f e refl) (flat_elsewhere f e image refl)
        (record {
          awaited = λ k p at. kept (Some p.link) (λ u. (free u).awaited k p at);
          each = λ child k at. record { head = kept k.parent (λ u. ((free u).views child k at).head); snap = λ t s listed. kept s.parent (λ u. ((free u).views child k at).snap t s listed) };
        })
        (λ i at st. record {
          image = record i { snaps = map (flat.with_status snap status) i.snaps };
          is = flat_there f image _ i at;
          stands = status_set (snapshots_of g) (links_of g image) h (object_at r image) i st snap status;
        })

pub status_stands : (pending : List Pending) (r : Records) (f : Flat) (me : Instance) (image snap : ℕ) (status : SnapStatus) → StandsFor pending r f → (status ≡ Unprotected → IsUnnamed pending r image snap)
    → answer_to r me (op.Header image (header_op.SnapStatus snap status)) ≡ answer.Done
    → StandsFor pending (after r me (op.Header image (header_op.SnapStatus snap status))) (flat.after f (effect.Status image snap status))
status_stands pending r f me image snap status stands free =
    where_served (λ (s : Records). StandsFor pending s (flat.after f (effect.Status image snap status))) r me (op.Header image (header_op.SnapStatus snap status)) answer.Done refl
    (status_served pending r f me image snap status stands free)

-- a snapshot that is unprotected is no view's parent
other_of : (below : Snapshots) (linked : Links) (image snap : ℕ) (parent : Option ParentLink) (o : Option FlatSnap) → below image snap ≡ o → ((u : FlatSnap) → o ≡ Some u → u.status ≡ Unprotected) → HasParent below linked parent → NamesOther image snap parent
other_of below linked image snap None o at free has = tt
other_of below linked image snap (Some link) o at free has = λ same_image same_snap.
    has.kept (free has.snap (sym at ∙ ap (λ i. below i snap) (sym same_image) ∙ ap (below link.image) (sym same_snap) ∙ has.is))

awaited_other : (below : Snapshots) (linked : Links) (image snap : ℕ) (link : ParentLink) (o : Option FlatSnap) → below image snap ≡ o → ((u : FlatSnap) → o ≡ Some u → u.status ≡ Unprotected) → IsAwaited below linked link
    → NamesOther image snap (Some link)
awaited_other below linked image snap link o at free has = λ same_image same_snap.
    has.kept (free has.snap (sym at ∙ ap (λ i. below i snap) (sym same_image) ∙ ap (below link.image) (sym same_snap) ∙ has.is))

-- ---- the parent is taken away

detach_served : (pending : List Pending) (r : Records) (f : Flat) (me : Instance) (image : ℕ) (h : HeaderView) → StandsFor pending r f → r.headers image ≡ Some h → ((n : ℕ) → IsCopiedUp h n (object_at r image n))
    → answer_served r me (op.Header image header_op.Detach) ≡ answer.Done
    → StandsFor pending (after_served r me (op.Header image header_op.Detach)) f
detach_served pending r f me image h stands is up done =
    header_change pending r f f me image header_op.Detach h (detached h) stands is refl refl refl (λ j other. refl)
    (keep_all pending r (snapshots_of f) (snapshots_of f) (λ i t s at. at))
    (λ i at st. record { image = i; is = at; stands = parent_taken (snapshots_of f) (links_of f image) h (object_at r image) i st up })

pub detach_stands : (pending : List Pending) (r : Records) (f : Flat) (me : Instance) (image : ℕ) (h : HeaderView) → StandsFor pending r f → r.headers image ≡ Some h → ((n : ℕ) → IsCopiedUp h n (object_at r image n))
    → answer_to r me (op.Header image header_op.Detach) ≡ answer.Done
    → StandsFor pending (after r me (op.Header image header_op.Detach)) f
detach_stands pending r f me image h stands is up =
    where_served (λ (s : Records). StandsFor pending s f) r me (op.Header image header_op.Detach) answer.Done refl
    (detach_served pending r f me image h stands is up)

-- ---- the header is removed

gone_served : (pending : List Pending) (r : Records) (f : Flat) (me : Instance) (image : ℕ) (h : HeaderView) → StandsFor pending r f → r.headers image ≡ Some h → h.snaps ≡ []
    → answer_served r me (op.Header image header_op.Remove) ≡ answer.Done
    → StandsFor pending (after_served r me (op.Header image header_op.Remove)) (flat.after f (effect.Gone image))
gone_served pending r f me image h stands is alone done =
    let e : Effect = effect.Gone image in
    let g = flat.after f e in
    let header : Option HeaderView = header_after me (r.headers image) header_op.Remove in
    let watchers : List Instance = watchers_after me (r.headers image) (r.watchers image) header_op.Remove in
    let now : header ≡ None = ap (λ (p : Option HeaderView). header_after me p header_op.Remove) is in
    let none : image_at g image ≡ None = image_law f e image ∙ ap (λ b. cond b None (image_at f image)) (eq-eqb image image refl) in
    site_change pending image r (with_headed image header watchers r) f g stands
    (other_header image header watchers r f g (names_stay f e refl) (links_stay f e refl) (flat_elsewhere f e image refl))
    (keep_all pending r (snapshots_of f) (snapshots_of g) (λ i t s at. snap_law f e i t ∙ kept i t s at (eqb i image) refl))
    (λ st. stands_without (snapshots_of g) (links_of g image) ((with_headed image header watchers r).headers image) (object_at r image) (image_at g image) (put_there r.headers image header ∙ now) none)
    (is_drawn pending r f stands image h is (with_headed image header watchers r) g)
  where
    kept : (i t : ℕ) (s : FlatSnap) → snap_at f i t ≡ Some s → (b : Bool) → eqb i image ≡ b → cond b None (snap_at f i t) ≡ Some s
    kept i t s at true e =
        let was = here (snapshots_of f) (links_of f image) (r.headers image) (object_at r image) (image_at f image) h is (stands.images image) in
        let missing : snap_at f i t ≡ None =
        ap (λ k. snap_at f k t) (eqb-true i image e) ∙ ap (λ o. snap_of o t) was.is
        ∙ flat_missing h.snaps was.image.snaps was.stands.same t (ap (λ snaps. snap_in snaps t) alone) in
        absurd (none-some s (sym missing ∙ at))
    kept i t s at false e = at

pub gone_stands : (pending : List Pending) (r : Records) (f : Flat) (me : Instance) (image : ℕ) (h : HeaderView) → StandsFor pending r f → r.headers image ≡ Some h → h.snaps ≡ []
    → answer_to r me (op.Header image header_op.Remove) ≡ answer.Done
    → StandsFor pending (after r me (op.Header image header_op.Remove)) (flat.after f (effect.Gone image))
gone_stands pending r f me image h stands is alone =
    where_served (λ (s : Records). StandsFor pending s (flat.after f (effect.Gone image))) r me (op.Header image header_op.Remove) answer.Done refl
    (gone_served pending r f me image h stands is alone)

pub unnamed : (pending : List Pending) (r : Records) (f : Flat) (image snap : ℕ) (h : HeaderView) (s : SnapView) → StandsFor pending r f → r.headers image ≡ Some h → snap_in h.snaps snap ≡ Some s → s.status ≡ Unprotected
    → IsUnnamed pending r image snap
unnamed pending r f image snap h s stands is listed status = record {
  views = λ child k at. record {
    head = other_of (snapshots_of f) (links_of f child) image snap k.parent (snap_at f image snap) refl free (own child k at).stands.parents.head;
    snap = λ t u found. other_of (snapshots_of f) (links_of f child) image snap u.parent (snap_at f image snap) refl free ((own child k at).stands.parents.snap t u found);
  };
  awaited = λ k p at. let waits = stands.awaited k p at in awaited_other (snapshots_of f) (links_of f p.child) image snap p.link (snap_at f image snap) refl free waits;
}
  where
    own : (child : ℕ) (k : HeaderView) → r.headers child ≡ Some k → Here (snapshots_of f) (links_of f child) k (object_at r child) (image_at f child)
    own child k at = here (snapshots_of f) (links_of f child) (r.headers child) (object_at r child) (image_at f child) k at (stands.images child)

    was : Here (snapshots_of f) (links_of f image) h (object_at r image) (image_at f image)
    was = here (snapshots_of f) (links_of f image) (r.headers image) (object_at r image) (image_at f image) h is (stands.images image)

    free : (u : FlatSnap) → snap_at f image snap ≡ Some u → u.status ≡ Unprotected
    free u found =
        let lines : Some (line_of_flat u) ≡ Some (line_of_snap s) =
        ap (option_map line_of_flat) (sym found ∙ ap (λ o. snap_of o snap) was.is)
        ∙ line_at h.snaps was.image.snaps was.stands.same snap ∙ ap (option_map line_of_snap) listed in
        ap (λ (l : SnapLine). l.status) (same_Some (line_of_flat u) (line_of_snap s) lines) ∙ status

-- ---- an id that has no header yet

not_this : (other image : ℕ) → eqb other image ≡ false → image ≢ other
not_this other image e same = eqb-false other image e (sym same)

pub untouched_served : (r : Records) (f g : Flat) (me : Instance) (o : Op) (image : ℕ) → IsUntouched r f image → is_about image o ≡ false → image_at g image ≡ image_at f image
    → IsUntouched (after_served r me o) g image
untouched_served r f g me (op.Directory o) image was e same = record { header = was.header; flat = same ∙ was.flat; blank = was.blank }
untouched_served r f g me (op.Header other o) image was e same = record {
  header = put_elsewhere r.headers other (header_after me (r.headers other) o) image (not_this other image e) ∙ was.header;
  flat = same ∙ was.flat;
  blank = was.blank;
}
untouched_served r f g me (op.Data other number o) image was e same = record {
  header = was.header;
  flat = same ∙ was.flat;
  blank = λ n. ap (λ objects. or_blank (objects n)) (put_elsewhere r.objects other (put (r.objects other) number (data_after (r.objects other number) o)) image (not_this other image e)) ∙ was.blank n;
}
untouched_served r f g me _ image was e same = record { header = was.header; flat = same ∙ was.flat; blank = was.blank }

pub untouched_stays : (r : Records) (f g : Flat) (me : Instance) (o : Op) (image : ℕ) → IsUntouched r f image → is_about image o ≡ false → image_at g image ≡ image_at f image
    → IsUntouched (after r me o) g image
untouched_stays r f g me o image was e same =
    where_fenced (λ s. IsUntouched s g image) r me o (record { header = was.header; flat = same ∙ was.flat; blank = was.blank }) (untouched_served r f g me o image was e same)

drawn_added : (a : Answer) (changed old : Listing) → old.drawn ≤ changed.drawn → old.drawn ≤ (where_added a changed old).drawn
drawn_added (answer.Id image) changed old more = more
drawn_added _ changed old more = omega arith

drawn_done : (a : Answer) (o : Option ℕ) (from to : List ℕ) (d : Listing) → d.drawn ≤ (where_done a (renamed o from to d) d).drawn
drawn_done answer.Done None from to d = omega arith
drawn_done answer.Done (Some image) from to d = omega arith
drawn_done _ o from to d = omega arith

drawn_freed : (b : Bool) (image : ℕ) (d : Listing) → d.drawn ≤ (cond b (freed image d) d).drawn
drawn_freed true image d = omega arith
drawn_freed false image d = omega arith

directory_drawn : (d : Listing) (o : DirectoryOp) → d.drawn ≤ (directory_after d o).drawn
directory_drawn d (directory_op.Find name) = omega arith
directory_drawn d (directory_op.Add name) = drawn_added (directory_answer d (directory_op.Add name)) (added name d) d (omega arith)
directory_drawn d (directory_op.Remove image) = drawn_freed (holds_id image d) image d
directory_drawn d (directory_op.Rename from to) = drawn_done (directory_answer d (directory_op.Rename from to)) (id_of d from) from to d
directory_drawn d directory_op.List = omega arith

pub drawn_served : (r : Records) (me : Instance) (o : Op) (image : ℕ) → IsDrawn r image → IsDrawn (after_served r me o) image
drawn_served r me (op.Directory o) image was = let more = directory_drawn r.directory o in omega arith
drawn_served r me (op.Header other o) image was = was
drawn_served r me (op.Data other number o) image was = was
drawn_served r me _ image was = was

pub drawn_stays : (r : Records) (me : Instance) (o : Op) (image : ℕ) → IsDrawn r image → IsDrawn (after r me o) image
drawn_stays r me o image was = where_fenced (λ s. IsDrawn s image) r me o was (drawn_served r me o image was)

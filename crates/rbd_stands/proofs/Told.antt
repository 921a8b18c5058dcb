-- What was read of a snapshot stays so, and each operation leaves a later header.
use Rattle.std.proofs.Common.{◌≡◌, ℕ, ◌+◌, ◌≤◌, ◌==◌, Bool, true, false, cond, List, [], get_or, Option, Some, None, option_map, is_some, refl, sym, ◌∙◌, ap, subst, arith}
use Rattle.std.proofs.lemmas.Bool.{eqb-true}
use Rattle.std.proofs.lemmas.List.Elements.{All-weaker}
use Rattle.std.proofs.lemmas.Option.{none-some, same_Some}
use Rattle.rbd_kinds.specs.declared.answer.Answer.TheVariants as answer
use Rattle.rbd_kinds.specs.declared.data_op.DataOp.TheVariants as data_op
use Rattle.rbd_kinds.specs.declared.header.HeaderView.{HeaderView}
use Rattle.rbd_kinds.specs.declared.header.ParentLink.{ParentLink}
use Rattle.rbd_kinds.specs.declared.header.SnapView.{SnapView}
use Rattle.rbd_kinds.specs.declared.header_op.HeaderOp.{HeaderOp}
use Rattle.rbd_kinds.specs.declared.header_op.HeaderOp.TheVariants as header_op
use Rattle.rbd_kinds.specs.declared.id.Instance.{Instance}
use Rattle.rbd_kinds.specs.declared.layout.Part.{Part}
use Rattle.rbd_kinds.specs.declared.operation.Op.{Op}
use Rattle.rbd_kinds.specs.declared.operation.Op.TheVariants as op
use Rattle.rbd_kinds.specs.Header.{snap_named}
use Rattle.rbd_layout.specs.Pieces.{IsPart}
use Rattle.rbd_header.specs.Header.{is_full, snap_in, with_snap, with_status, without_snap}
use Rattle.rbd_header.specs.Later.{IsLaterOf, WasListed}
use Rattle.rbd_header.proofs.Later.{later_itself, later_size, later_taken, later_status, later_removed, later_detached, later_role, later_synced, later_locked}
use Rattle.rbd_flat.specs.Flat.{Flat, FlatImage, FlatSnap, image_at, snap_of}
use Rattle.rbd_flat.specs.Flat as flat
use Rattle.rbd_flat.specs.Laws.{snap_at}
use Rattle.rbd_flat.specs.Read.{view_at}
use Rattle.rbd_site.specs.HeaderStep.{header_after, header_then, is_owner, where_made}
use Rattle.rbd_site.specs.Records.{Records, object_at}
use Rattle.rbd_site.specs.Step.{MayDo, MayServe, is_fenced, answer_to, after, after_served}
use Rattle.rbd_stands.specs.Condition.{ArePartsBelow, IsPartBelow}
use Rattle.rbd_stands.specs.Image.{line_of_flat, line_of_snap}
use Rattle.rbd_stands.specs.Reading.{bytes_at_parts}
use Rattle.rbd_stands.specs.Shown.{Links, HasParent, links_of, snapshots_of}
use Rattle.rbd_stands.specs.Site.{StandsFor, Pending}
use Rattle.rbd_stands.specs.Told.{CouldList, IsDated, IsStillTold, IsTold, KeepsSnapshots}
use Rattle.rbd_stands.specs.View.{shape_of_snap}
use Rattle.rbd_stands.proofs.Frame.{KeepsParent, inherited_kept}
use Rattle.rbd_stands.proofs.Lookups.{a_value, flat_there, line_at}
use Rattle.rbd_stands.proofs.SiteSteps.{here, no_flat, parents_there}
use Rattle.rbd_stands.proofs.Telling.{absence_told, bytes_told}

-- ---- flat snapshots

-- a snapshot of a flat image, by the bytes that it shows
pub viewed_snap : (i : Option FlatImage) (snap : ℕ) (bytes : List ℕ) → view_at i (Some snap) ≡ Some bytes → (u : FlatSnap) × (snap_of i snap ≡ Some u) × (u.bytes ≡ bytes)
viewed_snap None snap bytes is = absurd (none-some bytes is)
viewed_snap (Some i) snap bytes is = a_value {X = FlatSnap} (λ u. u.bytes) (flat.snap_in i.snaps snap) bytes is

pub snap_viewed : (i : Option FlatImage) (snap : ℕ) (u : FlatSnap) → snap_of i snap ≡ Some u → view_at i (Some snap) ≡ Some u.bytes
snap_viewed None snap u is = absurd (none-some u is)
snap_viewed (Some i) snap u is = ap (option_map {T = FlatSnap} (λ u. u.bytes)) is

-- what a header lists, the flat image has
pub listed_flat : (pending : List Pending) (r : Records) (f : Flat) (image snap : ℕ) (h : HeaderView) (s : SnapView) → StandsFor pending r f → r.headers image ≡ Some h → snap_in h.snaps snap ≡ Some s
    → (u : FlatSnap) × (snap_at f image snap ≡ Some u)
listed_flat pending r f image snap h s stands is listed =
    let was = here (snapshots_of f) (links_of f image) (r.headers image) (object_at r image) (image_at f image) h is (stands.images image) in
    let found = flat_there h.snaps was.image.snaps was.stands.same snap s listed in
    (found.0, ap (λ i. snap_of i snap) was.is ∙ found.1)

-- and a header lists what the flat image has
pub flat_listed : (pending : List Pending) (r : Records) (f : Flat) (image snap : ℕ) (u : FlatSnap) → StandsFor pending r f → snap_at f image snap ≡ Some u
    → (h : HeaderView) × (s : SnapView) × (r.headers image ≡ Some h) × (snap_in h.snaps snap ≡ Some s)
flat_listed pending r f image snap u stands is = by (r.headers image) refl
  where
    by : (header : Option HeaderView) → r.headers image ≡ header → (h : HeaderView) × (s : SnapView) × (r.headers image ≡ Some h) × (snap_in h.snaps snap ≡ Some s)
    by None none =
        let missing = no_flat (snapshots_of f) (links_of f image) (r.headers image) (object_at r image) (image_at f image) none (stands.images image) in
        absurd (none-some u (sym (ap (λ i. snap_of i snap) missing) ∙ is))
    by (Some h) there =
        let was = here (snapshots_of f) (links_of f image) (r.headers image) (object_at r image) (image_at f image) h there (stands.images image) in
        let found : flat.snap_in was.image.snaps snap ≡ Some u = sym (ap (λ i. snap_of i snap) was.is) ∙ is in
        let listed = a_value line_of_snap (snap_in h.snaps snap) (line_of_flat u) (sym (line_at h.snaps was.image.snaps was.stands.same snap) ∙ ap (option_map line_of_flat) found) in
        (h, listed.0, there, listed.1)

-- ---- as it was read

pub bytes_still : (pending : List Pending) (r : Records) (f : Flat) (me : Instance) (image snap number : ℕ) (parts : List Part) (bytes : List ℕ) → StandsFor pending r f
    → answer_to r me (op.Data image number (data_op.Read (Some snap) parts)) ≡ answer.Bytes bytes → IsStillTold r f image snap number parts (Some bytes)
bytes_still pending r f me image snap number parts bytes stands answered h s is listed lie =
    bytes_told pending r f me image number h (Some snap) (shape_of_snap s) parts bytes stands is (ap (option_map shape_of_snap) listed) lie answered

pub absent_still : (pending : List Pending) (r : Records) (f : Flat) (me : Instance) (image snap number : ℕ) (parts : List Part) → StandsFor pending r f
    → answer_to r me (op.Data image number (data_op.Read (Some snap) parts)) ≡ answer.Absent → IsStillTold r f image snap number parts None
absent_still pending r f me image snap number parts stands answered h s is listed lie =
    absence_told pending r f me image number h (Some snap) (shape_of_snap s) parts stands is (ap (option_map shape_of_snap) listed) lie answered

-- ---- from one moment to another

-- a parent that is named at both moments is there at both, with the same bytes
keeps_parent : (f g : Flat) (linked : Links) (parent : Option ParentLink) → KeepsSnapshots f g → HasParent (snapshots_of g) linked parent → KeepsParent (snapshots_of f) (snapshots_of g) parent
keeps_parent f g linked None keeps has = tt
keeps_parent f g linked (Some link) keeps has = λ s is. record { snap = has.snap; is = has.is; bytes = keeps link.image link.snap s has.snap is has.is; kept = λ was. has.kept }

-- where the flat snapshot is there at both moments
module _ (f g : Flat) (keeps : KeepsSnapshots f g) (image snap : ℕ) (u : FlatSnap) (now : snap_at g image snap ≡ Some u) where
  same_flat : (bytes : List ℕ) → view_at (image_at f image) (Some snap) ≡ Some bytes → u.bytes ≡ bytes
  same_flat bytes is =
      let was = viewed_snap (image_at f image) snap bytes is in
      keeps image snap was.0 u was.1 now ∙ was.2

  told_behind : (of_f of_g : Links) (parent : Option ParentLink) (parts : List Part) (told : Option (List ℕ)) → HasParent (snapshots_of f) of_f parent → HasParent (snapshots_of g) of_g parent
      → IsTold f image snap parent parts told → IsTold g image snap parent parts told
  told_behind of_f of_g parent parts (Some bytes) before behind was =
      record { flat = u.bytes; is = snap_viewed (image_at g image) snap u now; same = was.same ∙ ap (bytes_at_parts parts) (sym (same_flat was.flat was.is)) }
  told_behind of_f of_g parent parts None before behind was =
      let same : u.bytes ≡ was.flat = same_flat was.flat was.is in
      record {
        flat = u.bytes;
        is = snap_viewed (image_at g image) snap u now;
        covered = λ x among inside.
            ap (λ bytes. get_or bytes x 0) same ∙ was.covered x among inside
            ∙ sym (inherited_kept (snapshots_of f) (snapshots_of g) of_f parent (keeps_parent f g of_g parent keeps behind) before x);
        zeros = λ x among outside. ap (λ bytes. get_or bytes x 0) same ∙ was.zeros x among outside;
      }

-- parts that lie below a size by one header lie so by another with that layout
parts_lie : (h k : HeaderView) (size other number : ℕ) (parts : List Part) → h.layout ≡ k.layout → size ≡ other → ArePartsBelow h size number parts → ArePartsBelow k other number parts
parts_lie h k size other number parts laid same lie =
    All-weaker (IsPartBelow h size number) (IsPartBelow k other number)
    (λ p lies. record { part = subst (λ l. IsPart l number p) laid lies.part; below = subst (λ n. p.at + p.len ≤ n) same lies.below }) parts lie

pub told_stays : (pending later : List Pending) (r s : Records) (f g : Flat) (image snap number : ℕ) (parts : List Part) (told : Option (List ℕ))
    → StandsFor pending r f → StandsFor later s g → KeepsSnapshots f g
    → ((h : HeaderView) (v : SnapView) → s.headers image ≡ Some h → snap_in h.snaps snap ≡ Some v → CouldList (r.headers image) snap h)
    → IsStillTold r f image snap number parts told → IsStillTold s g image snap number parts told
told_stays pending later r s f g image snap number parts told stands behind keeps could was h v is listed lie =
    let old = could h v is listed in
    let had : WasListed old.header.snaps snap v = old.later.snaps snap v old.dated listed in
    let flat_now = listed_flat later s g image snap h v behind is listed in
    let parents_before = (parents_there pending r f image old.header stands old.is).snap snap had.was had.listed in
    let parents_now = (parents_there later s g image h behind is).snap snap v listed in
    subst (λ parent. IsTold g image snap parent parts told) (sym had.parent)
    (told_behind f g keeps image snap flat_now.0 flat_now.1 (links_of f image) (links_of g image) had.was.parent parts told
    parents_before (subst (HasParent (snapshots_of g) (links_of g image)) had.parent parents_now)
    (was old.header had.was old.is had.listed (parts_lie h old.header v.size had.was.size number parts old.later.layout had.size lie)))

-- ---- headers

either_later : (h : HeaderView) (b : Bool) (one other : HeaderView) → IsLaterOf h one → IsLaterOf h other → IsLaterOf h (cond b one other)
either_later h true one other first second = first
either_later h false one other first second = second

made_later : (listed full : Bool) (h made : HeaderView) → IsLaterOf h made → IsLaterOf h (where_made listed full made h)
made_later true full h made later = later_itself h
made_later false true h made later = later_itself h
made_later false false h made later = later

-- whatever is done to a header, while it stays
later_then : (me : Instance) (h : HeaderView) (o : HeaderOp) → IsLaterOf h (header_then me h o)
later_then me h (header_op.SetSize size) = later_size size h
later_then me h (header_op.SnapAdd name) = made_later (is_some (snap_named h.snaps name)) (is_full h) h (with_snap name h) (later_taken name h)
later_then me h (header_op.SnapRemove snap) = either_later h (is_some (snap_in h.snaps snap)) (without_snap snap h) h (later_removed snap h) (later_itself h)
later_then me h (header_op.SnapStatus snap status) = either_later h (is_some (snap_in h.snaps snap)) (with_status snap status h) h (later_status snap status h) (later_itself h)
later_then me h header_op.Detach = later_detached h
later_then me h (header_op.Role role) = later_role role h
later_then me h header_op.Synced = later_synced h
later_then me h header_op.LockTake = later_locked (cond (is_some h.owner) h.owner (Some me)) h
later_then me h header_op.LockDrop = either_later h (is_owner me h.owner) (record h { owner = None }) h (later_locked None h) (later_itself h)
later_then me h (header_op.LockBreak owner) = either_later h (is_owner owner h.owner) (record h { owner = None }) h (later_locked None h) (later_itself h)
later_then me h o = later_itself h

-- a header that is there before and behind is later
abbrev IsLaterIf : (before behind : Option HeaderView) → Type 0
IsLaterIf before behind = (h k : HeaderView) → before ≡ Some h → behind ≡ Some k → IsLaterOf h k

same_later : (header : Option HeaderView) → IsLaterIf header header
same_later header h k was is = subst (IsLaterOf h) (same_Some h k (sym was ∙ is)) (later_itself h)

changed_later : (me : Instance) (before : Option HeaderView) (o : HeaderOp) → IsLaterIf before (header_after me before o)
changed_later me None o h k was is = absurd (none-some h was)
changed_later me (Some before) header_op.Remove h k was is = absurd (none-some k is)
changed_later me (Some before) o h k was is =
    subst (λ v. IsLaterOf v k) (same_Some before h was) (subst (IsLaterOf before) (same_Some (header_then me before o) k is) (later_then me before o))

served_later : (r : Records) (me : Instance) (o : Op) (image : ℕ) → IsLaterIf (r.headers image) ((after_served r me o).headers image)
served_later r me (op.Header other o) image = by (image == other) refl
  where
    by : (b : Bool) → (image == other) ≡ b → IsLaterIf (r.headers image) (cond b (header_after me (r.headers other) o) (r.headers image))
    by true same = subst (λ i. IsLaterIf (r.headers i) (header_after me (r.headers other) o)) (sym (eqb-true image other same)) (changed_later me (r.headers other) o)
    by false differ = same_later (r.headers image)
served_later r me o image = same_later (r.headers image)

pub later_behind : (r : Records) (me : Instance) (o : Op) (image : ℕ) (h k : HeaderView) → r.headers image ≡ Some h → (after r me o).headers image ≡ Some k → IsLaterOf h k
later_behind r me o image = by (is_fenced r me)
  where
    by : (b : Bool) → IsLaterIf (r.headers image) ((cond b r (after_served r me o)).headers image)
    by true = same_later (r.headers image)
    by false = served_later r me o image

-- ---- behind an operation

-- a header that is made lists no snapshot
made_unlisted : (r : Records) (me : Instance) (o : HeaderOp) (image snap : ℕ) (h : HeaderView) (v : SnapView) → MayServe r (op.Header image o) → header_after me None o ≡ Some h
    → snap_in h.snaps snap ≡ Some v → ⊥
made_unlisted r me (header_op.Create view) image snap h v may is listed =
    let no_snaps : h.snaps ≡ [] = sym (ap (λ (w : HeaderView). w.snaps) (same_Some view h is)) ∙ may.snaps in
    none-some v (sym (ap (λ snaps. snap_in snaps snap) no_snaps) ∙ listed)
made_unlisted r me o image snap h v may is listed = none-some h is

could_at : (r s : Records) (image snap : ℕ) → IsDated r image snap → IsLaterIf (r.headers image) (s.headers image)
    → ((h : HeaderView) (v : SnapView) → r.headers image ≡ None → s.headers image ≡ Some h → snap_in h.snaps snap ≡ Some v → ⊥)
    → (h : HeaderView) (v : SnapView) → s.headers image ≡ Some h → snap_in h.snaps snap ≡ Some v → CouldList (r.headers image) snap h
could_at r s image snap dated later fresh h v is listed = by (r.headers image) refl
  where
    by : (before : Option HeaderView) → r.headers image ≡ before → CouldList (r.headers image) snap h
    by None none = absurd (fresh h v none is listed)
    by (Some old) was = record { header = old; is = was; dated = dated old was; later = later old h was is }

fresh_served : (r : Records) (me : Instance) (o : Op) (image snap : ℕ) → MayServe r o → (h : HeaderView) (v : SnapView) → r.headers image ≡ None → (after_served r me o).headers image ≡ Some h
    → snap_in h.snaps snap ≡ Some v → ⊥
fresh_served r me (op.Header other o) image snap may h v none is listed = by (image == other) refl is
  where
    by : (b : Bool) → (image == other) ≡ b → cond b (header_after me (r.headers other) o) (r.headers image) ≡ Some h → ⊥
    by true same made =
        let at : r.headers other ≡ None = ap r.headers (sym (eqb-true image other same)) ∙ none in
        made_unlisted r me o other snap h v may (sym (ap (λ there. header_after me there o) at) ∙ made) listed
    by false differ made = none-some h (sym none ∙ made)
fresh_served r me o image snap may h v none is listed = none-some h (sym none ∙ is)

fresh_behind : (r : Records) (me : Instance) (o : Op) (image snap : ℕ) → MayDo r me o → (h : HeaderView) (v : SnapView) → r.headers image ≡ None → (after r me o).headers image ≡ Some h
    → snap_in h.snaps snap ≡ Some v → ⊥
fresh_behind r me o image snap may h v none = by (is_fenced r me) refl
  where
    by : (b : Bool) → is_fenced r me ≡ b → (cond b r (after_served r me o)).headers image ≡ Some h → snap_in h.snaps snap ≡ Some v → ⊥
    by true fenced is listed = none-some h (sym none ∙ is)
    by false free is listed = fresh_served r me o image snap (may free) h v none is listed

pub told_behind_operation : (pending later : List Pending) (r : Records) (f g : Flat) (me : Instance) (o : Op) (image snap number : ℕ) (parts : List Part) (told : Option (List ℕ))
    → StandsFor pending r f → StandsFor later (after r me o) g → KeepsSnapshots f g → MayDo r me o → IsDated r image snap
    → IsStillTold r f image snap number parts told → IsStillTold (after r me o) g image snap number parts told
told_behind_operation pending later r f g me o image snap number parts told stands behind keeps may dated =
    told_stays pending later r (after r me o) f g image snap number parts told stands behind keeps
    (could_at r (after r me o) image snap dated (later_behind r me o image) (fresh_behind r me o image snap may))

-- dates last
pub dated_behind : (r : Records) (me : Instance) (o : Op) (image snap : ℕ) (h : HeaderView) → r.headers image ≡ Some h → snap ≤ h.snap_seq → IsDated (after r me o) image snap
dated_behind r me o image snap h is dated k at =
    let later = (later_behind r me o image h k is at).seq in
    omega (arith, dated, later)

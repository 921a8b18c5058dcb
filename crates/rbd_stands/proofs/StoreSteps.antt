-- Steps that have no effect: on the lock and on who watches, those of a fenced instance, the
-- listing of one, late ones on objects of an image that is gone, the end of a watch, and the
-- store's trim.
use Rattle.std.proofs.Common.{◌≡◌, ℕ, ◌+◌, ◌<◌, ◌≤◌, Bool, true, false, cond, eqb, ◌||◌, List, [], ◌∷◌, map, get_or, Option, Some, None, option_map, is_some, unwrap_or, ltb, refl, sym, ◌∙◌, ap, subst, arith}
use Rattle.std.specs.Prelude.{IsTrue}
use Rattle.std.proofs.lemmas.Bool.{true≢false}
use Rattle.std.proofs.lemmas.Option.{none-some}
use Rattle.std.specs.FinMap.{FinMap, get-empty, empty, same_map, nat_cmp-IsAntisymmetric}
use Rattle.std.specs.Cmp.{nat_cmp_total}
use Rattle.std.specs.Ordering.{nat_cmp}
use Rattle.rbd_kinds.specs.declared.data_op.DataOp.{DataOp}
use Rattle.rbd_kinds.specs.declared.header.HeaderView.{HeaderView}
use Rattle.rbd_kinds.specs.declared.header.SnapContext.{SnapContext}
use Rattle.rbd_kinds.specs.declared.header.SnapView.{SnapView}
use Rattle.rbd_kinds.specs.declared.header_op.HeaderOp.{HeaderOp}
use Rattle.rbd_kinds.specs.declared.header_op.HeaderOp.TheVariants as header_op
use Rattle.rbd_kinds.specs.declared.id.Instance.{Instance}
use Rattle.rbd_kinds.specs.declared.operation.Op.{Op}
use Rattle.rbd_kinds.specs.declared.operation.Op.TheVariants as op
use Rattle.rbd_kinds.specs.Striping.{object_of, offset_of}
use Rattle.rbd_header.specs.Header.{snap_in}
use Rattle.rbd_object.specs.Kept.{is_listed}
use Rattle.rbd_object.specs.Mapped.{Mapped, versioned, mapped_blank, mapped_trim}
use Rattle.rbd_object.specs.Versioned.{IsTidy, view}
use Rattle.rbd_object.proofs.MappedLemmas.{looked-mapped_trim}
use Rattle.rbd_object.proofs.KeptLemmas.{get-live}
use Rattle.rbd_flat.specs.Flat.{Flat, FlatImage, image_at}
use Rattle.rbd_site.specs.HeaderStep.{header_after, there_after, header_then, is_owner}
use Rattle.rbd_site.specs.DataStep.{data_after}
use Rattle.rbd_site.specs.Log.{expired_by, live_in, trimmed}
use Rattle.rbd_site.specs.Records.{Records, put, or_blank, object_at, with_object, with_watchers}
use Rattle.rbd_site.specs.Step.{is_fenced, after, after_served}
use Rattle.rbd_site.specs.WatchStep.{watchers_after}
use Rattle.rbd_site.proofs.StepLemmas.{where_fenced}
use Rattle.rbd_stands.specs.Shown.{Snapshots, snapshots_of, shown, Links, links_of}
use Rattle.rbd_stands.specs.Image.{ImageStands, IsInside}
use Rattle.rbd_stands.specs.Site.{StandsFor, IsUntouched, Pending}
use Rattle.rbd_stands.specs.Condition.{IsContextOf, IsDrawn}
use Rattle.rbd_stands.specs.Unseen.{is_unseen}
use Rattle.rbd_stands.proofs.ObjectSteps.{put_both, put_there}
use Rattle.rbd_stands.proofs.Served.{fenced_after}
use Rattle.rbd_site.proofs.TrimLemmas.{with_header_same, with_object_same}
use Rattle.rbd_stands.proofs.SiteSteps.{here, stands_at, no_flat, stands_without, keep_all, site_change, is_drawn, other_header, with_headed, other_object, object_there}
use Rattle.rbd_object.proofs.SoundLemmas.{tidy_trim}

-- ---- what a flat image doesn't have

unseen : (below : Snapshots) (linked : Links) (h : HeaderView) (objects : ℕ → Mapped) (i : FlatImage) (owner : Option Instance) (generation : ℕ) (syncing : Bool) → ImageStands below linked h objects i
    → ImageStands below linked (record h { owner = owner; generation = generation; syncing = syncing }) objects i
unseen below linked h objects i owner generation syncing stands = record {
  same = stands.same;
  role = stands.role;
  long = record { head = stands.long.head; snap = stands.long.snap };
  bytes = record { head = stands.bytes.head; snap = stands.bytes.snap };
  parents = record { head = stands.parents.head; snap = stands.parents.snap };
  within = record { head = stands.within.head; snap = stands.within.snap };
  clear = stands.clear;
  tidy = stands.tidy;
  seen = stands.seen;
  untouched = stands.untouched;
  alike = record { head = stands.alike.head; snap = stands.alike.snap };
  numbered = record { head = stands.numbered.head; snap = stands.numbered.snap };
  laid = stands.laid;
}

where_mine : (P : HeaderView → Type 0) (mine : Bool) (changed old : HeaderView) → P changed → P old → P (cond mine changed old)
where_mine P true changed old p q = p
where_mine P false changed old p q = q

unseen_then : (below : Snapshots) (linked : Links) (me : Instance) (h : HeaderView) (objects : ℕ → Mapped) (i : FlatImage) (o : HeaderOp) → is_unseen o ≡ true → ImageStands below linked h objects i
    → ImageStands below linked (header_then me h o) objects i
unseen_then below linked me h objects i header_op.LockTake e stands = unseen below linked h objects i (cond (is_some h.owner) h.owner (Some me)) h.generation h.syncing stands
unseen_then below linked me h objects i header_op.LockDrop e stands =
    where_mine (λ k. ImageStands below linked k objects i) (is_owner me h.owner) (record h { owner = None }) h (unseen below linked h objects i None h.generation h.syncing stands) stands
unseen_then below linked me h objects i (header_op.LockBreak owner) e stands =
    where_mine (λ k. ImageStands below linked k objects i) (is_owner owner h.owner) (record h { owner = None }) h (unseen below linked h objects i None h.generation h.syncing stands) stands
unseen_then below linked me h objects i header_op.Synced e stands = unseen below linked h objects i h.owner (h.generation + 1) false stands
unseen_then below linked me h objects i header_op.Watch e stands = stands
unseen_then below linked me h objects i header_op.Unwatch e stands = stands
unseen_then below linked me h objects i header_op.WatchersGet e stands = stands
unseen_then below linked me h objects i (header_op.Notify kind) e stands = stands
unseen_then below linked me h objects i _ e stands = absurd (true≢false (sym e))

unseen_there : (me : Instance) (h : HeaderView) (o : HeaderOp) → is_unseen o ≡ true → there_after me h o ≡ Some (header_then me h o)
unseen_there me h header_op.Remove e = absurd (true≢false (sym e))
unseen_there me h _ e = refl

unseen_missing : (me : Instance) (o : HeaderOp) → is_unseen o ≡ true → header_after me None o ≡ None
unseen_missing me (header_op.Create view) e = absurd (true≢false (sym e))
unseen_missing me _ e = refl

-- who watches
watched_stands : (pending : List Pending) (r : Records) (f : Flat) (image : ℕ) (watchers : List Instance) → StandsFor pending r f → StandsFor pending (with_watchers image watchers r) f
watched_stands pending r f image watchers stands = record {
  names = stands.names;
  links = stands.links;
  images = stands.images;
  awaited = stands.awaited;
  fresh = λ i above. let was = stands.fresh i above in record { header = was.header; flat = was.flat; blank = was.blank };
}

unseen_served : (pending : List Pending) (r : Records) (f : Flat) (me : Instance) (image : ℕ) (o : HeaderOp) (watchers : List Instance) → StandsFor pending r f → is_unseen o ≡ true
    → StandsFor pending (with_headed image (header_after me (r.headers image) o) watchers r) f
unseen_served pending r f me image o watchers stands e = go (r.headers image) refl
  where
    go : (header : Option HeaderView) → r.headers image ≡ header → StandsFor pending (with_headed image (header_after me header o) watchers r) f
    go None is =
        subst (λ (s : Records). StandsFor pending s f) (sym (with_header_same image (header_after me None o) (with_watchers image watchers r) (unseen_missing me o e ∙ sym is)))
        (watched_stands pending r f image watchers stands)
    go (Some h) is =
        let s = with_headed image (there_after me h o) watchers r in
        site_change pending image r s f f stands (other_header image (there_after me h o) watchers r f f refl refl (λ j other. refl))
        (keep_all pending r (snapshots_of f) (snapshots_of f) (λ i t s is. is))
        (λ st. let k = here (snapshots_of f) (links_of f image) (r.headers image) (object_at r image) (image_at f image) h is st in
        stands_at (snapshots_of f) (links_of f image) (s.headers image) (object_at r image) (image_at f image) (header_then me h o) k.image
        (put_there r.headers image (there_after me h o) ∙ unseen_there me h o e) k.is (unseen_then (snapshots_of f) (links_of f image) me h (object_at r image) k.image o e k.stands))
        (is_drawn pending r f stands image h is s f)

pub unseen_change : (pending : List Pending) (r : Records) (f : Flat) (me : Instance) (image : ℕ) (o : HeaderOp) → StandsFor pending r f → is_unseen o ≡ true → StandsFor pending (after r me (op.Header image o)) f
unseen_change pending r f me image o stands e =
    where_fenced (λ s. StandsFor pending s f) r me (op.Header image o) stands
    (unseen_served pending r f me image o (watchers_after me (r.headers image) (r.watchers image) o) stands e)

-- ---- who is fenced

pub fenced_stands : (pending : List Pending) (r : Records) (f : Flat) (me : Instance) (o : Op) → StandsFor pending r f → IsTrue (is_fenced r me) → StandsFor pending (after r me o) f
fenced_stands pending r f me o stands fenced = subst (λ (s : Records). StandsFor pending s f) (sym (fenced_after r me o fenced)) stands

listed_served : (pending : List Pending) (r : Records) (f : Flat) (me i : Instance) → StandsFor pending r f → StandsFor pending (after_served r me (op.BlockAdd i)) f
listed_served pending r f me i stands = record {
  names = stands.names;
  links = stands.links;
  images = stands.images;
  awaited = stands.awaited;
  fresh = λ image above. let was = stands.fresh image above in record { header = was.header; flat = was.flat; blank = was.blank };
}

pub listed_stands : (pending : List Pending) (r : Records) (f : Flat) (me i : Instance) → StandsFor pending r f → StandsFor pending (after r me (op.BlockAdd i)) f
listed_stands pending r f me i stands = where_fenced (λ s. StandsFor pending s f) r me (op.BlockAdd i) stands (listed_served pending r f me i stands)

-- ---- a watch ends

pub expired_stands : (pending : List Pending) (r : Records) (f : Flat) (image : ℕ) (oldest : Option Instance) → StandsFor pending r f → StandsFor pending (expired_by image oldest r) f
expired_stands pending r f image None stands = stands
expired_stands pending r f image (Some i) stands = watched_stands pending r f image _ stands

-- ---- objects of no image

pub data_without : (pending : List Pending) (r : Records) (f : Flat) (image number : ℕ) (object : Option Mapped) → StandsFor pending r f → r.headers image ≡ None → (r.directory.drawn < image → IsUntouched (with_object image number object r) f image)
    → StandsFor pending (with_object image number object r) f
data_without pending r f image number object stands none untouched =
    site_change pending image r (with_object image number object r) f f stands (other_object image number object r f f refl refl (λ j other. refl))
    (keep_all pending r (snapshots_of f) (snapshots_of f) (λ i t s is. is))
    (λ st. stands_without (snapshots_of f) (links_of f image) (r.headers image) (object_at (with_object image number object r) image) (image_at f image) none (no_flat (snapshots_of f) (links_of f image) (r.headers image) (object_at r image) (image_at f image) none st))
    untouched

pub data_of_none : (pending : List Pending) (r : Records) (f : Flat) (me : Instance) (image number : ℕ) (o : DataOp) → StandsFor pending r f → r.headers image ≡ None → IsDrawn r image → StandsFor pending (after r me (op.Data image number o)) f
data_of_none pending r f me image number o stands none drawn =
    where_fenced (λ s. StandsFor pending s f) r me (op.Data image number o) stands
    (data_without pending r f image number (data_after (r.objects image number) o) stands none (λ above. absurd (omega (arith, above, drawn))))

-- ---- the store's trim

pub listed_by_id : (snaps : List SnapView) (t : ℕ) (s : SnapView) → snap_in snaps t ≡ Some s → is_listed (map (λ (u : SnapView). u.id) snaps) t ≡ true
listed_by_id [] t s e = absurd (none-some s e)
listed_by_id (u ∷ snaps) t s e = found (eqb u.id t) (snap_in snaps t) e (listed_by_id snaps t s)
  where
    found : (b : Bool) (o : Option SnapView) → cond b (Some u) o ≡ Some s → (o ≡ Some s → is_listed (map (λ (v : SnapView). v.id) snaps) t ≡ true) → (b || is_listed (map (λ (v : SnapView). v.id) snaps) t) ≡ true
    found true o is rest = refl
    found false o is rest = rest is

pub context_from : (h : HeaderView) (context : SnapContext) → context.seq ≡ h.snap_seq
    → ((snap : ℕ) → is_listed (live_in (Some h)) snap ≡ true → is_listed context.snaps snap ≡ true) → IsContextOf h context
context_from h context seq each = record { seq = seq; lists = λ t s is. each t (listed_by_id h.snaps t s is) }

pub view_trimmed : (live : List ℕ) (t : ℕ) (o : Mapped) → is_listed live t ≡ true → view (versioned (mapped_trim live o)) (Some t) ≡ view (versioned o) (Some t)
view_trimmed live t o listed =
    ap (λ v. view v (Some t)) (looked-mapped_trim live o)
    ∙ ap (λ b. cond (ltb o.seq t) o.head (cond b ((versioned o).kept t) None)) listed

pub blank_trimmed : (live : List ℕ) → mapped_trim live mapped_blank ≡ mapped_blank
blank_trimmed live = ap (λ (kept : FinMap nat_cmp (List ℕ)). record mapped_blank { kept = kept })
    (same_map nat_cmp_total nat_cmp-IsAntisymmetric _ _ (λ snap.
    get-live live empty snap ∙ ap (λ (o : Option (List ℕ)). cond (is_listed live snap) o None) (get-empty nat_cmp snap) ∙ both (is_listed live snap) ∙ sym (get-empty nat_cmp snap)))
  where
    both : (b : Bool) → ◌≡◌ {A = Option (List ℕ)} (cond b None None) None
    both true = refl
    both false = refl

module _ (below : Snapshots) (linked : Links) (h : HeaderView) (objects : ℕ → Mapped) (i : FlatImage) (n : ℕ) (stands : ImageStands below linked h objects i) where
  abbrev now : Mapped
  now = mapped_trim (live_in (Some h)) (objects n)

  head_kept : (m : ℕ) → (put objects n now m).head ≡ (objects m).head
  head_kept = put_both (λ m o. o.head ≡ (objects m).head) objects n now refl (λ m other. refl)

  view_kept : (t : ℕ) (s : SnapView) → snap_in h.snaps t ≡ Some s → (m : ℕ) → view (versioned (put objects n now m)) (Some t) ≡ view (versioned (objects m)) (Some t)
  view_kept t s is = put_both (λ m o. view (versioned o) (Some t) ≡ view (versioned (objects m)) (Some t)) objects n now
      (view_trimmed (live_in (Some h)) t (objects n) (listed_by_id h.snaps t s is)) (λ m other. refl)

  pub object_trimmed : ImageStands below linked h (put objects n now) i
  object_trimmed = record {
    same = stands.same;
    role = stands.role;
    long = stands.long;
    bytes = record {
      head = λ x within. stands.bytes.head x within
          ∙ ap (λ content. shown below h.parent content (offset_of h.layout x) x) (sym (head_kept (object_of h.layout x)));
      snap = λ t s is x within. stands.bytes.snap t s is x within
          ∙ ap (λ content. shown below s.parent content (offset_of h.layout x) x) (sym (view_kept t s is (object_of h.layout x)));
    };
    parents = stands.parents;
    within = stands.within;
    untouched = put_both (λ m o. IsInside h m → o.head ≡ None → o ≡ mapped_blank) objects n now
        (λ inside absent. ap (mapped_trim (live_in (Some h))) (stands.untouched n inside absent) ∙ blank_trimmed (live_in (Some h)))
        (λ m other. stands.untouched m);
    alike = record {
      head = λ x inside absent. refl;
      snap = λ t s is x inside absent. stands.alike.snap t s is x inside (sym (head_kept (object_of h.layout x)) ∙ absent);
    };
    clear = λ x past. ap (λ (head : Option (List ℕ)). get_or (unwrap_or head []) (offset_of h.layout x) 0) (head_kept (object_of h.layout x)) ∙ stands.clear x past;
    tidy = put_both (λ m o. IsTidy (versioned o)) objects n now
        (subst IsTidy (sym (looked-mapped_trim (live_in (Some h)) (objects n))) (tidy_trim (live_in (Some h)) (versioned (objects n)) (stands.tidy n)))
        (λ m other. stands.tidy m);
    seen = put_both (λ m o. o.seq ≤ h.snap_seq) objects n now (stands.seen n) (λ m other. stands.seen m);
    numbered = stands.numbered;
    laid = stands.laid;
  }

pub trim_stands : (pending : List Pending) (r : Records) (f : Flat) (image number : ℕ) → StandsFor pending r f → StandsFor pending (trimmed image number r) f
trim_stands pending r f image number stands = go (r.objects image number) (r.headers image) refl refl
  where
    go : (object : Option Mapped) (header : Option HeaderView) → r.objects image number ≡ object → r.headers image ≡ header
        → StandsFor pending (with_object image number (option_map (mapped_trim (live_in header)) object) r) f
    go None header is at = subst (λ (s : Records). StandsFor pending s f) (sym (with_object_same image number None r (sym is))) stands
    go (Some o) None is none = data_without pending r f image number (Some (mapped_trim [] o)) stands none (λ above.
        let was = stands.fresh image above in
        record {
          header = was.header;
          flat = was.flat;
          blank = λ n. ap (λ g. g n) (object_there image number (mapped_trim [] o) r)
              ∙ put_both (λ m x. x ≡ mapped_blank) (object_at r image) number (mapped_trim [] o)
              (ap (mapped_trim []) (ap or_blank (sym is) ∙ was.blank number) ∙ blank_trimmed []) (λ m other. was.blank m) n;
        })
    go (Some o) (Some h) is at =
        let now = mapped_trim (live_in (Some h)) o in
        let s = with_object image number (Some now) r in
        let same : object_at s image ≡ put (object_at r image) number (mapped_trim (live_in (Some h)) (object_at r image number)) =
        object_there image number now r ∙ ap (λ x. put (object_at r image) number (mapped_trim (live_in (Some h)) x)) (ap or_blank (sym is)) in
        site_change pending image r s f f stands (other_object image number (Some now) r f f refl refl (λ j other. refl))
        (keep_all pending r (snapshots_of f) (snapshots_of f) (λ i t s is. is))
        (λ st. let k = here (snapshots_of f) (links_of f image) (r.headers image) (object_at r image) (image_at f image) h at st in
        stands_at (snapshots_of f) (links_of f image) (r.headers image) (object_at s image) (image_at f image) h k.image at k.is
        (subst (λ (objects : ℕ → Mapped). ImageStands (snapshots_of f) (links_of f image) h objects k.image) (sym same) (object_trimmed (snapshots_of f) (links_of f image) h (object_at r image) k.image number k.stands)))
        (is_drawn pending r f stands image h at s f)

-- Each operation that may be done leaves each header in form.
use Rattle.std.proofs.Common.{◌≡◌, ℕ, ◌+◌, ◌≤◌, Bool, true, false, ◌||◌, cond, eqb, not, length, List, Option, Some, None, is_some, refl, sym, ap, ◌∙◌, subst, arith, [], length-append}
use Rattle.std.proofs.lemmas.List.{length-map}
use Rattle.std.specs.Prelude.{nat_le}
use Rattle.rbd_kinds.specs.declared.header.HeaderView.{HeaderView}
use Rattle.rbd_kinds.specs.declared.header.SnapView.{SnapView}
use Rattle.rbd_kinds.specs.declared.header.SnapStatus.{SnapStatus}
use Rattle.rbd_kinds.specs.declared.header.ParentLink.{ParentLink}
use Rattle.rbd_kinds.specs.declared.header.Role.{Role as Part}
use Rattle.rbd_kinds.specs.declared.header_op.HeaderOp.{HeaderOp}
use Rattle.rbd_kinds.specs.declared.header_op.HeaderOp.TheVariants.{Create, Get, SetSize, SnapAdd, SnapRemove, SnapStatus as Status, Detach, Role, Mirror, Synced, Remove, LockTake, LockDrop, LockBreak, Watch, Unwatch, WatchersGet, Notify}
use Rattle.rbd_kinds.specs.declared.id.Instance.{Instance}
use Rattle.rbd_kinds.specs.declared.layout.Layout.{Layout}
use Rattle.rbd_kinds.specs.Header.{snap_named}
use Rattle.rbd_kinds.specs.Form.{HasFewObjects, IsOverlapWithin, IsSnapInForm, IsHeaderInForm}
use Rattle.rbd_header.specs.Header.{is_full, snap_in, snap_taken, status_marked, with_size, with_snap, with_status, without_snap}
use Rattle.rbd_header.proofs.Changed.{cut_within}
use Rattle.rbd_site.specs.HeaderStep.{MayDoOnHeader, header_then, header_after, is_owner, where_made}
use Rattle.rbd_kinds.specs.declared.operation.Op.{Op}
use Rattle.rbd_kinds.specs.declared.operation.Op.TheVariants as on
use Rattle.rbd_kinds.specs.Instances.{same_instance}
use Rattle.rbd_site.specs.Records.{Records, no_records, put}
use Rattle.rbd_site.specs.InForm.{AreInForm, IsMapInForm}
use Rattle.rbd_kinds.specs.Maps.{map_snap}
use Rattle.rbd_site.specs.MapStep.{map_after}
use Rattle.rbd_site.specs.Log.{expired}
use Rattle.rbd_site.specs.Step.{MayDo, MayServe, is_fenced, after, after_served}
use Rattle.rbd_site.specs.WatchStep.{watchers_after}
use Rattle.rbd_watch.specs.Watching.{without}
use Rattle.std.specs.List.{IsDistinct}
use Rattle.rbd_site.proofs.MapLemmas.{map_form_after, put_map_each}
use Rattle.rbd_site.proofs.WatchLemmas.{distinct_after, distinct_none, distinct_without, for_each, unwatched_after, watched_at}
use Rattle.rbd_site.proofs.SnapLists.{each_appended, each_mapped, each_filtered, fewer, risen_appended, risen_filtered, risen_marked}

sized : (size : ℕ) (h : HeaderView) → HasFewObjects h.layout size → IsHeaderInForm h → IsHeaderInForm (with_size size h)
sized size h few form = record {
  layout = form.layout;
  objects = few;
  born = form.born;
  overlap = cut_within size h.parent;
  snaps = form.snaps;
  few = form.few;
  rising = form.rising;
  depth = form.depth;
}

room : (len seq : ℕ) → nat_le 256 len || eqb seq 4294967295 ≡ false → len + 1 ≤ 256
room len seq free = grind arith

snapped : (name : _) (h : HeaderView) → is_full h ≡ false → IsHeaderInForm h → IsHeaderInForm (with_snap name h)
snapped name h free form = record {
  layout = form.layout;
  objects = form.objects;
  born = form.born;
  overlap = form.overlap;
  snaps = each_appended (IsSnapInForm h.layout) (snap_taken name h) h.snaps form.snaps (record { objects = form.objects; overlap = form.overlap });
  few = rw length-append (room (length h.snaps) h.snap_seq free);
  rising = risen_appended h.snap_seq (snap_taken name h) h.snaps refl form.rising;
  depth = form.depth;
}

made : (listed full : Bool) (name : _) (h : HeaderView) → is_full h ≡ full → IsHeaderInForm h → IsHeaderInForm (where_made listed full (with_snap name h) h)
made true full name h is form = form
made false true name h is form = form
made false false name h is form = snapped name h is form

unlisted : (t : ℕ) (h : HeaderView) → IsHeaderInForm h → IsHeaderInForm (without_snap t h)
unlisted t h form =
    let others : SnapView → Bool = λ s. not (eqb s.id t) in
    record {
      layout = form.layout;
      objects = form.objects;
      born = form.born;
      overlap = form.overlap;
      snaps = each_filtered (IsSnapInForm h.layout) others h.snaps form.snaps;
      few = omega (arith, fewer others h.snaps, form.few);
      rising = risen_filtered others h.snap_seq h.snaps form.rising;
      depth = form.depth;
    }

marked_form : (t : ℕ) (status : SnapStatus) (layout : Layout) (s : SnapView) → IsSnapInForm layout s → IsSnapInForm layout (status_marked t status s)
marked_form t status layout s form = go (eqb s.id t)
  where
    go : (b : Bool) → IsSnapInForm layout (cond b (record s { status = status }) s)
    go true = record { objects = form.objects; overlap = form.overlap }
    go false = form

statused : (t : ℕ) (status : SnapStatus) (h : HeaderView) → IsHeaderInForm h → IsHeaderInForm (with_status t status h)
statused t status h form = record {
  layout = form.layout;
  objects = form.objects;
  born = form.born;
  overlap = form.overlap;
  snaps = each_mapped (IsSnapInForm h.layout) (status_marked t status) (marked_form t status h.layout) h.snaps form.snaps;
  few = rw length-map form.few;
  rising = risen_marked t status h.snap_seq h.snaps form.rising;
  depth = form.depth;
}

-- the form speaks of no other field
copied : (generation : ℕ) (parent : Option ParentLink) (syncing : Bool) (owner : Option Instance) (role : Part) (h : HeaderView)
    → IsOverlapWithin h.size parent → IsHeaderInForm h
    → IsHeaderInForm (record h { generation = generation; parent = parent; syncing = syncing; owner = owner; role = role })
copied generation parent syncing owner role h overlap form = record {
  layout = form.layout;
  objects = form.objects;
  born = form.born;
  overlap = overlap;
  snaps = form.snaps;
  few = form.few;
  rising = form.rising;
  depth = form.depth;
}

either : (b : Bool) (f g : HeaderView) → IsHeaderInForm f → IsHeaderInForm g → IsHeaderInForm (cond b f g)
either true f g a b = a
either false f g a b = b

unowned : (b : Bool) (h : HeaderView) → IsHeaderInForm h → IsHeaderInForm (cond b (record h { owner = None }) h)
unowned b h form = either b _ h (copied h.generation h.parent h.syncing None h.role h form.overlap form) form

-- a header that stays is in form
kept_form : (me : Instance) (h : HeaderView) (op : HeaderOp) → IsHeaderInForm h → MayDoOnHeader (Some h) op → IsHeaderInForm (header_then me h op)
kept_form me h (Create view) form may = form
kept_form me h Get form may = form
kept_form me h (SetSize size) form may = sized size h may form
kept_form me h (SnapAdd name) form may = made (is_some (snap_named h.snaps name)) (is_full h) name h refl form
kept_form me h (SnapRemove snap) form may = either (is_some (snap_in h.snaps snap)) _ h (unlisted snap h form) form
kept_form me h (Status snap status) form may = either (is_some (snap_in h.snaps snap)) _ h (statused snap status h form) form
kept_form me h Detach form may = copied (h.generation + 1) None h.syncing h.owner h.role h tt form
kept_form me h (Role role) form may = copied (h.generation + 1) h.parent h.syncing h.owner role h form.overlap form
kept_form me h Mirror form may = form
kept_form me h Synced form may = copied (h.generation + 1) h.parent false h.owner h.role h form.overlap form
kept_form me h Remove form may = form
kept_form me h LockTake form may = copied h.generation h.parent h.syncing _ h.role h form.overlap form
kept_form me h LockDrop form may = unowned (is_owner me h.owner) h form
kept_form me h (LockBreak owner) form may = unowned (is_owner owner h.owner) h form
kept_form me h Watch form may = form
kept_form me h Unwatch form may = form
kept_form me h WatchersGet form may = form
kept_form me h (Notify kind) form may = form

raised : (b : Bool) (f g : HeaderView) (n : ℕ) → f.generation ≤ n → g.generation ≤ n → (cond b f g).generation ≤ n
raised true f g n a b = a
raised false f g n a b = b

-- no operation raises the generation by more than one
generation_then : (me : Instance) (h : HeaderView) (op : HeaderOp) → (header_then me h op).generation ≤ h.generation + 1
generation_then me h (Create view) = omega arith
generation_then me h Get = omega arith
generation_then me h (SetSize size) = omega arith
generation_then me h (SnapAdd name) =
    raised (is_some (snap_named h.snaps name)) h (cond (is_full h) h (with_snap name h)) (h.generation + 1) (omega arith)
    (raised (is_full h) h (with_snap name h) (h.generation + 1) (omega arith) (omega arith))
generation_then me h (SnapRemove snap) = raised (is_some (snap_in h.snaps snap)) (without_snap snap h) h (h.generation + 1) (omega arith) (omega arith)
generation_then me h (Status snap status) = raised (is_some (snap_in h.snaps snap)) (with_status snap status h) h (h.generation + 1) (omega arith) (omega arith)
generation_then me h Detach = omega arith
generation_then me h (Role role) = omega arith
generation_then me h Mirror = omega arith
generation_then me h Synced = omega arith
generation_then me h Remove = omega arith
generation_then me h LockTake = omega arith
generation_then me h LockDrop = raised (is_owner me h.owner) (record h { owner = None }) h (h.generation + 1) (omega arith) (omega arith)
generation_then me h (LockBreak owner) = raised (is_owner owner h.owner) (record h { owner = None }) h (h.generation + 1) (omega arith) (omega arith)
generation_then me h Watch = omega arith
generation_then me h Unwatch = omega arith
generation_then me h WatchersGet = omega arith
generation_then me h (Notify kind) = omega arith

-- what becomes of an image's header
after_form : (me : Instance) (o : Option HeaderView) (op : HeaderOp) → ((h : HeaderView) → o ≡ Some h → IsHeaderInForm h) → MayDoOnHeader o op
    → (g : HeaderView) → header_after me o op ≡ Some g → IsHeaderInForm g
after_form me (Some h) Remove form may g is = cc
after_form me (Some h) op form may g is = subst IsHeaderInForm (let same : header_then me h op ≡ g = cc in same) (kept_form me h op (form h refl) may)
after_form me None (Create view) form may g is = subst IsHeaderInForm (let same : view ≡ g = cc in same) may.form
after_form me None op form may g is = cc

after_generation : (me : Instance) (o : Option HeaderView) (op : HeaderOp) (most : ℕ) → ((h : HeaderView) → o ≡ Some h → h.generation ≤ most) → MayDoOnHeader o op
    → (g : HeaderView) → header_after me o op ≡ Some g → g.generation ≤ most + 1
after_generation me (Some h) Remove most few may g is = cc
after_generation me (Some h) op most few may g is =
    subst (λ (x : HeaderView). x.generation ≤ most + 1) (let same : header_then me h op ≡ g = cc in same) (omega (arith, few h refl, generation_then me h op))
after_generation me None (Create view) most few may g is =
    subst (λ (x : HeaderView). x.generation ≤ most + 1) (let same : view ≡ g = cc in same) (omega (arith, may.generation))
after_generation me None op most few may g is = cc

-- a change at one place
at_one : (P : HeaderView → Type 0) (f : ℕ → Option HeaderView) (place : ℕ) (value : Option HeaderView)
    → ((g : HeaderView) → value ≡ Some g → P g) → ((i : ℕ) (g : HeaderView) → f i ≡ Some g → P g)
    → (i : ℕ) (g : HeaderView) → put f place value i ≡ Some g → P g
at_one P f place value here others i g = go (eqb i place)
  where
    go : (t : Bool) → cond t value (f i) ≡ Some g → P g
    go true = here g
    go false = others i g

-- an operation that is served leaves all headers in form
form_served : (r : Records) (me : Instance) (op : Op) (most : ℕ) → AreInForm r most → MayServe r op → AreInForm (after_served r me op) (most + 1)
form_served r me (on.Header image op) most held may =
    let h = header_after me (r.headers image) op in
    let w = watchers_after me (r.headers image) (r.watchers image) op in
    record {
      form = at_one IsHeaderInForm r.headers image h (after_form me (r.headers image) op (held.form image) may) held.form;
      generation =
          at_one (λ h. h.generation ≤ most + 1) r.headers image h
          (after_generation me (r.headers image) op most (held.generation image) may) (λ i h is. omega (arith, held.generation i h is));
      unwatched = for_each (λ h w. h ≡ None → w ≡ []) r.headers r.watchers image h w (unwatched_after me (r.headers image) (r.watchers image) op (held.unwatched image)) held.unwatched;
      distinct = for_each (λ h w. IsDistinct same_instance w) r.headers r.watchers image h w (distinct_after me (r.headers image) (r.watchers image) op (held.distinct image)) held.distinct;
      maps = held.maps;
    }
form_served r me (on.Directory op) most held may = record { form = held.form; generation = λ i h is. omega (arith, held.generation i h is); unwatched = held.unwatched; distinct = held.distinct; maps = held.maps }
form_served r me (on.Children op) most held may = record { form = held.form; generation = λ i h is. omega (arith, held.generation i h is); unwatched = held.unwatched; distinct = held.distinct; maps = held.maps }
form_served r me (on.BlockAdd i) most held may = record { form = held.form; generation = λ i h is. omega (arith, held.generation i h is); unwatched = held.unwatched; distinct = held.distinct; maps = held.maps }
form_served r me (on.Data image number op) most held may = record { form = held.form; generation = λ i h is. omega (arith, held.generation i h is); unwatched = held.unwatched; distinct = held.distinct; maps = held.maps }
form_served r me (on.Map image op) most held may = record {
  form = held.form;
  generation = λ i h is. omega (arith, held.generation i h is);
  unwatched = held.unwatched;
  distinct = held.distinct;
  maps =
      put_map_each (λ i v held. (states : List ℕ) → held ≡ Some states → IsMapInForm states) r.maps image (map_snap op) (map_after (r.maps image (map_snap op)) op)
      (map_form_after (r.maps image (map_snap op)) op (held.maps image (map_snap op)) may) held.maps;
}
form_served r me (on.Journal image op) most held may = absurd may

pub form_after : (r : Records) (me : Instance) (op : Op) (most : ℕ) → AreInForm r most → MayDo r me op → AreInForm (after r me op) (most + 1)
form_after r me op most held may = go (is_fenced r me) refl
  where
    go : (b : Bool) → is_fenced r me ≡ b → AreInForm (cond b r (after_served r me op)) (most + 1)
    go true is = record { form = held.form; generation = λ i h is. omega (arith, held.generation i h is); unwatched = held.unwatched; distinct = held.distinct; maps = held.maps }
    go false is = form_served r me op most held (may is)

pub form_expired : (r : Records) (image most : ℕ) (i : Instance) → AreInForm r most → AreInForm (expired image i r) (most + 1)
form_expired r image most i held = record {
  form = held.form;
  generation = λ i h is. omega (arith, held.generation i h is);
  unwatched =
      λ j none. watched_at (λ w. w ≡ []) r.watchers image (without i (r.watchers image)) j (λ at. ap (without i) (held.unwatched image (ap r.headers (sym at) ∙ none))) (held.unwatched j none);
  distinct =
      λ j. watched_at (IsDistinct same_instance) r.watchers image (without i (r.watchers image)) j (λ at. distinct_without i (r.watchers image) (held.distinct image)) (held.distinct j);
  maps = held.maps;
}

pub form_at_first : AreInForm no_records 0
form_at_first = record { form = λ i h is. cc; generation = λ i h is. cc; unwatched = λ i is. refl; distinct = λ i. distinct_none; maps = λ i v states is. cc }

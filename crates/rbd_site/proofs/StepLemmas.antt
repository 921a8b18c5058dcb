-- What one operation leaves as it is.
use Rattle.std.proofs.Common.{◌≡◌, ℕ, Bool, true, false, cond, eqb, ◌&&◌, List, Option, Some, None, is_some, refl, sym, ap, ◌∙◌}
use Rattle.std.specs.Prelude.{◌+◌, IsFalse}
use Rattle.std.proofs.lemmas.Bool.{eqb-true}
use Rattle.rbd_kinds.specs.declared.answer.Answer.{Answer}
use Rattle.rbd_kinds.specs.declared.answer.Answer.TheVariants as answer
use Rattle.rbd_kinds.specs.declared.data_op.DataOp.{DataOp}
use Rattle.rbd_kinds.specs.declared.directory_op.DirectoryOp.{DirectoryOp}
use Rattle.rbd_kinds.specs.declared.directory_op.DirectoryOp.TheVariants as dir
use Rattle.rbd_kinds.specs.declared.header.HeaderView.{HeaderView}
use Rattle.rbd_kinds.specs.declared.header_op.HeaderOp.{HeaderOp}
use Rattle.rbd_kinds.specs.declared.header_op.HeaderOp.TheVariants as head
use Rattle.rbd_kinds.specs.declared.id.Instance.{Instance}
use Rattle.rbd_kinds.specs.declared.map_op.MapOp.{MapOp}
use Rattle.rbd_kinds.specs.declared.map_op.MapOp.TheVariants as states
use Rattle.rbd_kinds.specs.declared.operation.Op.{Op}
use Rattle.rbd_kinds.specs.declared.operation.Op.TheVariants as on
use Rattle.rbd_kinds.specs.Header.{snap_named}
use Rattle.rbd_header.specs.Header.{is_full, snap_in, with_snap, with_status, without_snap}
use Rattle.rbd_registry.specs.Directory.{Listing, id_of, is_full as is_full_directory, added, freed, holds_id, renamed}
use Rattle.rbd_object.specs.Mapped.{Mapped}
use Rattle.std.specs.FinSet as finset
use Rattle.rbd_kinds.specs.declared.children_op.ChildrenOp.{ChildrenOp}
use Rattle.rbd_kinds.specs.declared.children_op.ChildrenOp.TheVariants as child
use Rattle.rbd_site.specs.ChildrenStep.{Entries, entry, children_answer, children_after}
use Rattle.rbd_site.specs.Found.{done_where}
use Rattle.rbd_site.specs.DataStep.{blank_answer, data_change, where_object_done, data_after}
use Rattle.rbd_site.specs.DirectoryStep.{directory_answer, directory_after, name_added, name_changed, where_added, where_done}
use Rattle.rbd_site.specs.HeaderStep.{header_answer, header_after, is_owner, lock_taken, snap_added, where_made}
use Rattle.rbd_site.specs.Laws.{is_block_add, may_have_changed, is_on_children, is_on_directory, is_on_header, is_on_map, is_on_object}
use Rattle.rbd_site.specs.InForm.{AreInForm}
use Rattle.rbd_kinds.specs.Maps.{map_snap}
use Rattle.rbd_site.specs.MapStep.{AreBits, map_after, map_answer, states_answer}
use Rattle.rbd_site.specs.Records.{Records, or_blank, put, with_children, with_directory, with_watchers}
use Rattle.rbd_site.specs.Step.{is_fenced, answer_to, answer_served, after, after_served}
use Rattle.rbd_site.specs.WatchStep.{watchers_after}
use Rattle.rbd_site.proofs.MapLemmas.{put_map_other, told_bits, with_map_same}
use Rattle.rbd_site.proofs.TrimLemmas.{with_header_same, with_object_same, with_watchers_same}

-- A fenced instance leaves the records, so what holds of them and after what is served holds after
-- an operation.
pub where_fenced : (P : Records → Type 0) (r : Records) (me : Instance) (op : Op) → P r → P (after_served r me op) → P (after r me op)
where_fenced P r me op before served = go (is_fenced r me)
  where
    go : (b : Bool) → P (cond b r (after_served r me op))
    go true = before
    go false = served

served_directory : (r : Records) (me : Instance) (op : Op) → IsFalse (is_on_directory op) → (after_served r me op).directory ≡ r.directory
served_directory r me (on.Directory op) other = cc
served_directory r me op other = refl

pub other_directory : (r : Records) (me : Instance) (op : Op) → IsFalse (is_on_directory op) → (after r me op).directory ≡ r.directory
other_directory r me op other = where_fenced (λ s. s.directory ≡ r.directory) r me op refl (served_directory r me op other)

served_blocklist : (r : Records) (me : Instance) (op : Op) → IsFalse (is_block_add op) → (after_served r me op).blocklist ≡ r.blocklist
served_blocklist r me (on.BlockAdd i) other = cc
served_blocklist r me op other = refl

pub other_blocklist : (r : Records) (me : Instance) (op : Op) → IsFalse (is_block_add op) → (after r me op).blocklist ≡ r.blocklist
other_blocklist r me op other = where_fenced (λ s. s.blocklist ≡ r.blocklist) r me op refl (served_blocklist r me op other)

at_other : {T : Type 0} (f : ℕ → T) (place : ℕ) (value : T) (n : ℕ) → eqb n place ≡ false → put f place value n ≡ f n
at_other f place value n other = ap (λ b. cond b value (f n)) other

pub served_header : (r : Records) (me : Instance) (op : Op) (image : ℕ) → IsFalse (is_on_header image op) → (after_served r me op).headers image ≡ r.headers image
served_header r me (on.Header image op) i other = at_other r.headers image (header_after me (r.headers image) op) i other
served_header r me op i other = refl

pub other_header : (r : Records) (me : Instance) (op : Op) (image : ℕ) → IsFalse (is_on_header image op) → (after r me op).headers image ≡ r.headers image
other_header r me op i other = where_fenced (λ s. s.headers i ≡ r.headers i) r me op refl (served_header r me op i other)

served_watchers : (r : Records) (me : Instance) (op : Op) (image : ℕ) → IsFalse (is_on_header image op) → (after_served r me op).watchers image ≡ r.watchers image
served_watchers r me (on.Header image op) i other = at_other r.watchers image (watchers_after me (r.headers image) (r.watchers image) op) i other
served_watchers r me op i other = refl

pub other_watchers : (r : Records) (me : Instance) (op : Op) (image : ℕ) → IsFalse (is_on_header image op) → (after r me op).watchers image ≡ r.watchers image
other_watchers r me op i other = where_fenced (λ s. s.watchers i ≡ r.watchers i) r me op refl (served_watchers r me op i other)

served_object : (r : Records) (me : Instance) (op : Op) (image number : ℕ) → IsFalse (is_on_object image number op) → (after_served r me op).objects image number ≡ r.objects image number
served_object r me (on.Data image number op) i n other = go (eqb i image) (eqb n number) refl refl other
  where
    after_it : Option Mapped
    after_it = data_after (r.objects image number) op

    go : (s t : Bool) → eqb i image ≡ s → eqb n number ≡ t → s && t ≡ false → cond s (put (r.objects image) number after_it) (r.objects i) n ≡ r.objects i n
    go true true a b other = cc
    go true false a b other = at_other (r.objects image) number after_it n b ∙ ap (λ image. r.objects image n) (sym (eqb-true i image a))
    go false t a b other = refl
served_object r me op i n other = refl

pub other_object : (r : Records) (me : Instance) (op : Op) (image number : ℕ) → IsFalse (is_on_object image number op) → (after r me op).objects image number ≡ r.objects image number
other_object r me op i n other = where_fenced (λ s. s.objects i n ≡ r.objects i n) r me op refl (served_object r me op i n other)

served_map : (r : Records) (me : Instance) (op : Op) (image : ℕ) (view : Option ℕ) → IsFalse (is_on_map image view op) → (after_served r me op).maps image view ≡ r.maps image view
served_map r me (on.Map image op) i v other = put_map_other r.maps image (map_snap op) (map_after (r.maps image (map_snap op)) op) i v other
served_map r me op i v other = refl

pub other_map : (r : Records) (me : Instance) (op : Op) (image : ℕ) (view : Option ℕ) → IsFalse (is_on_map image view op) → (after r me op).maps image view ≡ r.maps image view
other_map r me op i v other = where_fenced (λ s. s.maps i v ≡ r.maps i v) r me op refl (served_map r me op i v other)

served_children : (r : Records) (me : Instance) (op : Op) → IsFalse (is_on_children op) → (after_served r me op).children ≡ r.children
served_children r me (on.Children op) other = cc
served_children r me op other = refl

pub other_children : (r : Records) (me : Instance) (op : Op) → IsFalse (is_on_children op) → (after r me op).children ≡ r.children
other_children r me op other = where_fenced (λ s. s.children ≡ r.children) r me op refl (served_children r me op other)

pub refused_directory : (d : Listing) (op : DirectoryOp) → IsFalse (may_have_changed (directory_answer d op)) → directory_after d op ≡ d
refused_directory d (dir.Add name) other = go (id_of d name) (is_full_directory d) other
  where
    go : (held : Option ℕ) (full : Bool) → may_have_changed (name_added held full (d.drawn + 1)) ≡ false → where_added (name_added held full (d.drawn + 1)) (added name d) d ≡ d
    go (Some image) full other = refl
    go None true other = refl
    go None false other = cc
refused_directory d (dir.Remove image) other = go (holds_id image d) other
  where
    go : (b : Bool) → may_have_changed (done_where b) ≡ false → cond b (freed image d) d ≡ d
    go true other = cc
    go false other = refl
refused_directory d (dir.Rename from to) other = go (id_of d from) (id_of d to) other
  where
    go : (a b : Option ℕ) → may_have_changed (name_changed a b) ≡ false → where_done (name_changed a b) (renamed (id_of d from) from to d) d ≡ d
    go None b other = refl
    go (Some image) None other = cc
    go (Some image) (Some held) other = refl
refused_directory d op other = refl

pub refused_children : (entries : Entries) (op : ChildrenOp) → IsFalse (may_have_changed (children_answer entries op)) → children_after entries op ≡ entries
refused_children entries (child.Add parent snap child) other = cc
refused_children entries (child.Remove parent snap child) other = go (finset.contains entries (entry parent snap child)) other
  where
    go : (b : Bool) → may_have_changed (done_where b) ≡ false → cond b (finset.remove entries (entry parent snap child)) entries ≡ entries
    go true other = cc
    go false other = refl
refused_children entries (child.List parent snap) other = refl

-- what wasn't done left the header
not_done : (done : Bool) (refusal : Answer) (changed old : HeaderView) → may_have_changed (cond done answer.Done refusal) ≡ false → Some (cond done changed old) ≡ Some old
not_done true refusal changed old other = cc
not_done false refusal changed old other = refl

pub refused_header : (me : Instance) (o : Option HeaderView) (w : List Instance) (op : HeaderOp) → IsFalse (may_have_changed (header_answer me o w op)) → header_after me o op ≡ o
refused_header me None w (head.Create view) other = cc
refused_header me None w op other = refl
refused_header me (Some h) w (head.Create view) other = refl
refused_header me (Some h) w head.Get other = refl
refused_header me (Some h) w (head.SnapAdd name) other = go (is_some (snap_named h.snaps name)) (is_full h) other
  where
    go : (listed full : Bool) → may_have_changed (snap_added listed full (h.snap_seq + 1)) ≡ false → Some (where_made listed full (with_snap name h) h) ≡ Some h
    go true full other = refl
    go false true other = refl
    go false false other = cc
refused_header me (Some h) w (head.SnapRemove snap) other = not_done (is_some (snap_in h.snaps snap)) answer.Absent (without_snap snap h) h other
refused_header me (Some h) w (head.SnapStatus snap status) other = not_done (is_some (snap_in h.snaps snap)) answer.Absent (with_status snap status h) h other
refused_header me (Some h) w head.LockTake other = ap (λ owner. Some (record h { owner = owner })) (go h.owner other)
  where
    go : (owner : Option Instance) → may_have_changed (lock_taken me owner) ≡ false → cond (is_some owner) owner (Some me) ≡ owner
    go None other = cc
    go (Some owner) other = refl
refused_header me (Some h) w head.LockDrop other = not_done (is_owner me h.owner) answer.Changed (record h { owner = None }) h other
refused_header me (Some h) w (head.LockBreak owner) other = not_done (is_owner owner h.owner) answer.Changed (record h { owner = None }) h other
refused_header me (Some h) w head.WatchersGet other = refl
refused_header me (Some h) w op other = cc

refused_watchers : (me : Instance) (o : Option HeaderView) (w : List Instance) (op : HeaderOp) → IsFalse (may_have_changed (header_answer me o w op)) → watchers_after me o w op ≡ w
refused_watchers me None w op other = refl
refused_watchers me (Some h) w head.Watch other = cc
refused_watchers me (Some h) w head.Unwatch other = cc
refused_watchers me (Some h) w head.Remove other = cc
refused_watchers me (Some h) w op other = refl

pub refused_object : (o : Option Mapped) (op : DataOp) → IsFalse (may_have_changed (blank_answer (or_blank o) op)) → data_after o op ≡ o
refused_object o op other = go (blank_answer (or_blank o) op) other
  where
    go : (a : Answer) → may_have_changed a ≡ false → where_object_done a (data_change (or_blank o) op) o ≡ o
    go answer.Done other = cc
    go a other = refl

pub refused_map : (held : Option (List ℕ)) (op : MapOp) → IsFalse (may_have_changed (map_answer held op)) → map_after held op ≡ held
refused_map held (states.Resize count) other = cc
refused_map held (states.Get snap) other = refl
refused_map held (states.Put snap bits) other = cc
refused_map None (states.Set snap object state) other = refl
refused_map (Some s) (states.Set snap object state) other = cc
refused_map None (states.Remove snap) other = refl
refused_map (Some s) (states.Remove snap) other = cc

served_refused : (r : Records) (me : Instance) (op : Op) → IsFalse (may_have_changed (answer_served r me op)) → after_served r me op ≡ r
served_refused r me (on.Directory op) other = ap (λ d. with_directory d r) (refused_directory r.directory op other)
served_refused r me (on.Children op) other = ap (λ entries. with_children entries r) (refused_children r.children op other)
served_refused r me (on.BlockAdd i) other = cc
served_refused r me (on.Header image op) other =
    let w = watchers_after me (r.headers image) (r.watchers image) op in
    with_header_same image (header_after me (r.headers image) op) (with_watchers image w r) (refused_header me (r.headers image) (r.watchers image) op other)
    ∙ with_watchers_same image w r (refused_watchers me (r.headers image) (r.watchers image) op other)
served_refused r me (on.Data image number op) other =
    with_object_same image number (data_after (r.objects image number) op) r (refused_object (r.objects image number) op other)
served_refused r me (on.Map image op) other =
    with_map_same image (map_snap op) (map_after (r.maps image (map_snap op)) op) r (refused_map (r.maps image (map_snap op)) op other)
served_refused r me (on.Journal image op) other = refl

pub refused : (r : Records) (me : Instance) (op : Op) → IsFalse (may_have_changed (answer_to r me op)) → after r me op ≡ r
refused r me op = go (is_fenced r me)
  where
    go : (b : Bool) → may_have_changed (cond b answer.Fenced (answer_served r me op)) ≡ false → cond b r (after_served r me op) ≡ r
    go true other = refl
    go false other = served_refused r me op other

-- what is told of a map, which a fenced instance isn't
pub told_map : (r : Records) (me : Instance) (image most : ℕ) (view : Option ℕ) (bits : List ℕ) → AreInForm r most
    → answer_to r me (on.Map image (states.Get view)) ≡ answer.Bits bits → AreBits bits
told_map r me image most view bits form = go (is_fenced r me)
  where
    go : (b : Bool) → cond b answer.Fenced (states_answer (r.maps image view)) ≡ answer.Bits bits → AreBits bits
    go true told = absurd (cc)
    go false told = told_bits (r.maps image view) bits (form.maps image view) told

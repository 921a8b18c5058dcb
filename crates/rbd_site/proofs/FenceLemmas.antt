-- What a fence does, and what it doesn't.
use Rattle.std.proofs.Common.{◌≡◌, ℕ, ◌+◌, Bool, true, false, cond, List, Option, Some, None, is_some, refl, sym, ap, ◌∙◌}
use Rattle.std.specs.Prelude.{◌≢◌, IsFalse, IsTrue}
use Rattle.std.specs.FinSet as finset
use Rattle.std.specs.Ordering.{eq_by_cmp}
use Rattle.std.proofs.lemmas.Bool.{or_right}
use Rattle.rbd_fence.specs.Instances.{instance_cmp}
use Rattle.rbd_fence.proofs.Sets.{total, contains-insert_itself, contains-insert_other}
use Rattle.rbd_kinds.specs.declared.answer.Answer.{Answer}
use Rattle.rbd_kinds.specs.declared.answer.Answer.TheVariants as answer
use Rattle.rbd_kinds.specs.declared.children_op.ChildrenOp.{ChildrenOp}
use Rattle.rbd_kinds.specs.declared.children_op.ChildrenOp.TheVariants as child
use Rattle.rbd_kinds.specs.declared.data_op.DataOp.{DataOp}
use Rattle.rbd_kinds.specs.declared.data_op.DataOp.TheVariants as data_op
use Rattle.rbd_kinds.specs.declared.directory_op.DirectoryOp.{DirectoryOp}
use Rattle.rbd_kinds.specs.declared.directory_op.DirectoryOp.TheVariants as dir
use Rattle.rbd_kinds.specs.declared.header.HeaderView.{HeaderView}
use Rattle.rbd_kinds.specs.declared.header_op.HeaderOp.{HeaderOp}
use Rattle.rbd_kinds.specs.declared.header_op.HeaderOp.TheVariants as head
use Rattle.rbd_kinds.specs.declared.id.Instance.{Instance}
use Rattle.rbd_kinds.specs.declared.map_op.MapOp.{MapOp}
use Rattle.rbd_kinds.specs.declared.map_op.MapOp.TheVariants as states
use Rattle.rbd_kinds.specs.declared.operation.Op.{Op}
use Rattle.rbd_kinds.specs.declared.operation.Op.TheVariants as on
use Rattle.rbd_kinds.specs.Header.{snap_named}
use Rattle.rbd_kinds.specs.Instances.{same_instance}
use Rattle.rbd_header.specs.Header.{is_full, snap_in}
use Rattle.rbd_registry.specs.Directory.{Listing, id_of, is_full as is_full_directory, holds_id}
use Rattle.rbd_object.specs.Mapped.{Mapped, versioned}
use Rattle.rbd_object.specs.Versioned.{view}
use Rattle.rbd_site.specs.ChildrenStep.{Entries, entry, children_answer}
use Rattle.rbd_site.specs.DataStep.{blank_answer, finds, parts_read}
use Rattle.rbd_site.specs.DirectoryStep.{directory_answer, image_found, name_added, name_changed}
use Rattle.rbd_site.specs.Found.{done_where}
use Rattle.rbd_site.specs.HeaderStep.{header_answer, is_owner, lock_taken, snap_added}
use Rattle.rbd_kinds.specs.Maps.{map_snap}
use Rattle.rbd_site.specs.MapStep.{map_answer}
use Rattle.rbd_site.specs.Records.{Records, or_blank}
use Rattle.rbd_site.specs.Step.{is_fenced, answer_served, answer_to, after, after_served}
use Rattle.rbd_site.proofs.StepLemmas.{other_blocklist, where_fenced}

-- ---- only a fence is answered so

abbrev is_refusal : Answer → Bool
is_refusal answer.Fenced = true
is_refusal a = false

of_done : (b : Bool) → is_refusal (done_where b) ≡ false
of_done true = refl
of_done false = refl

of_two : (b : Bool) (a c : Answer) → is_refusal a ≡ false → is_refusal c ≡ false → is_refusal (cond b a c) ≡ false
of_two true a c p q = p
of_two false a c p q = q

directory_serves : (d : Listing) (o : DirectoryOp) → is_refusal (directory_answer d o) ≡ false
directory_serves d (dir.Find name) = go (id_of d name)
  where
    go : (image : Option ℕ) → is_refusal (image_found image) ≡ false
    go None = refl
    go (Some image) = refl
directory_serves d (dir.Add name) = go (id_of d name) (is_full_directory d)
  where
    go : (held : Option ℕ) (full : Bool) → is_refusal (name_added held full (d.drawn + 1)) ≡ false
    go (Some image) full = refl
    go None true = refl
    go None false = refl
directory_serves d (dir.Remove image) = of_done (holds_id image d)
directory_serves d (dir.Rename from to) = go (id_of d from) (id_of d to)
  where
    go : (a b : Option ℕ) → is_refusal (name_changed a b) ≡ false
    go None b = refl
    go (Some image) None = refl
    go (Some image) (Some held) = refl
directory_serves d dir.List = refl

children_serve : (entries : Entries) (o : ChildrenOp) → is_refusal (children_answer entries o) ≡ false
children_serve entries (child.Add parent snap c) = refl
children_serve entries (child.Remove parent snap c) = of_done (finset.contains entries (entry parent snap c))
children_serve entries (child.List parent snap) = refl

header_serves : (me : Instance) (header : Option HeaderView) (w : List Instance) (o : HeaderOp) → is_refusal (header_answer me header w o) ≡ false
header_serves me None w (head.Create view) = refl
header_serves me None w o = refl
header_serves me (Some h) w (head.SnapAdd name) = go (is_some (snap_named h.snaps name)) (is_full h)
  where
    go : (listed full : Bool) → is_refusal (snap_added listed full (h.snap_seq + 1)) ≡ false
    go true full = refl
    go false true = refl
    go false false = refl
header_serves me (Some h) w (head.SnapRemove snap) = of_done (is_some (snap_in h.snaps snap))
header_serves me (Some h) w (head.SnapStatus snap status) = of_done (is_some (snap_in h.snaps snap))
header_serves me (Some h) w head.LockTake = go h.owner
  where
    go : (owner : Option Instance) → is_refusal (lock_taken me owner) ≡ false
    go None = refl
    go (Some owner) = of_two (same_instance owner me) answer.Done (answer.Held owner) refl refl
header_serves me (Some h) w head.LockDrop = of_two (is_owner me h.owner) answer.Done answer.Changed refl refl
header_serves me (Some h) w (head.LockBreak owner) = of_two (is_owner owner h.owner) answer.Done answer.Changed refl refl
header_serves me (Some h) w o = refl

data_serves : (o : Mapped) (d : DataOp) → is_refusal (blank_answer o d) ≡ false
data_serves o (data_op.Read snap parts) = go (view (versioned o) snap)
  where
    go : (content : Option (List ℕ)) → is_refusal (parts_read parts content) ≡ false
    go None = refl
    go (Some bytes) = refl
data_serves o (data_op.Write c must parts bytes) = of_done (finds must o)
data_serves o (data_op.WriteFull c bytes) = refl
data_serves o (data_op.Zero c must parts) = of_done (finds must o)
data_serves o (data_op.Empty c) = refl
data_serves o (data_op.Remove c) = refl
data_serves o (data_op.CopyUp bytes) = of_two (is_some o.head) answer.Exists answer.Done refl refl

map_serves : (held : Option (List ℕ)) (o : MapOp) → is_refusal (map_answer held o) ≡ false
map_serves held (states.Resize count) = refl
map_serves None (states.Get snap) = refl
map_serves (Some s) (states.Get snap) = refl
map_serves held (states.Put snap bits) = refl
map_serves held (states.Set snap object state) = of_done (is_some held)
map_serves held (states.Remove snap) = of_done (is_some held)

serves : (r : Records) (me : Instance) (op : Op) → is_refusal (answer_served r me op) ≡ false
serves r me (on.Directory o) = directory_serves r.directory o
serves r me (on.Children o) = children_serve r.children o
serves r me (on.BlockAdd i) = refl
serves r me (on.Header image o) = header_serves me (r.headers image) (r.watchers image) o
serves r me (on.Data image number o) = data_serves (or_blank (r.objects image number)) o
serves r me (on.Map image o) = map_serves (r.maps image (map_snap o)) o
serves r me (on.Journal image o) = refl

pub refused_is_fenced : (r : Records) (me : Instance) (op : Op) → answer_to r me op ≡ answer.Fenced → IsTrue (is_fenced r me)
refused_is_fenced r me op = go (is_fenced r me)
  where
    go : (b : Bool) → cond b answer.Fenced (answer_served r me op) ≡ answer.Fenced → b ≡ true
    go true e = refl
    go false e = sym (serves r me op) ∙ ap is_refusal e

-- ---- who is listed stays

pub fence_stays : (r : Records) (me i : Instance) (op : Op) → IsTrue (is_fenced r i) → IsTrue (is_fenced (after r me op) i)
fence_stays r me i (on.BlockAdd other) listed =
    where_fenced (λ s. is_fenced s i ≡ true) r me (on.BlockAdd other) listed
    (finset.contains-insert total r.blocklist other i ∙ or_right (eq_by_cmp instance_cmp i other) (finset.contains r.blocklist i) listed)
fence_stays r me i op listed = ap (λ b. finset.contains b i) (other_blocklist r me op refl) ∙ listed

pub lists_it : (r : Records) (me i : Instance) → IsFalse (is_fenced r me) → IsTrue (is_fenced (after r me (on.BlockAdd i)) i)
lists_it r me i free = go (is_fenced r me) free
  where
    go : (b : Bool) → b ≡ false → is_fenced (cond b r (after_served r me (on.BlockAdd i))) i ≡ true
    go true e = cc
    go false e = contains-insert_itself r.blocklist i

pub lists_no_other : (r : Records) (me i other : Instance) → other ≢ i → is_fenced (after r me (on.BlockAdd i)) other ≡ is_fenced r other
lists_no_other r me i other apart =
    where_fenced (λ s. is_fenced s other ≡ is_fenced r other) r me (on.BlockAdd i) refl (contains-insert_other r.blocklist i other apart)

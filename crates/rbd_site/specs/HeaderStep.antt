-- Operations on the header of an image: the answer, and the header after it.
use Rattle.std.specs.Prelude.{ℕ, ◌+◌, List, Bool, false, if◌then◌else◌, Option, Some, None, is_some}
use Rattle.rbd_kinds.specs.declared.answer.Answer.{Answer}
use Rattle.rbd_kinds.specs.declared.answer.Answer.TheVariants as answer
use Rattle.rbd_kinds.specs.declared.header.HeaderView.{HeaderView}
use Rattle.rbd_kinds.specs.declared.header_op.HeaderOp.{HeaderOp}
use Rattle.rbd_kinds.specs.declared.header_op.HeaderOp.TheVariants.{Create, Get, SetSize, SnapAdd, SnapRemove, SnapStatus, Detach, Role, Mirror, Synced, Remove, LockTake, LockDrop, LockBreak, WatchersGet}
use Rattle.rbd_kinds.specs.declared.id.Instance.{Instance}
use Rattle.rbd_kinds.specs.Form.{HasFewObjects, IsNewHeader}
use Rattle.rbd_kinds.specs.Header.{snap_named}
use Rattle.rbd_kinds.specs.Instances.{same_instance}
use Rattle.rbd_header.specs.Header.{snap_in, is_full, with_size, with_snap, with_status, without_snap, detached, with_role, in_step}
use Rattle.rbd_site.specs.Found.{done_where}

-- The operations that are built, and their conditions: a header is made in form, and a size has at
-- most 2^20 objects.
abbrev pub MayDoOnHeader : Option HeaderView → HeaderOp → Type 0
MayDoOnHeader header (Create view) = IsNewHeader view
MayDoOnHeader (Some h) (SetSize size) = HasFewObjects h.layout size
MayDoOnHeader header Mirror = ⊥
MayDoOnHeader header op = Unit {0}

abbrev pub snap_added : (listed full : Bool) → (next : ℕ) → Answer
snap_added listed full next = if listed then answer.Exists else if full then answer.Full else answer.Snap next

abbrev pub lock_taken : Instance → (owner : Option Instance) → Answer
lock_taken me None = answer.Done
lock_taken me (Some owner) = if same_instance owner me then answer.Done else answer.Held owner

abbrev pub is_owner : Instance → (owner : Option Instance) → Bool
is_owner i None = false
is_owner i (Some owner) = same_instance owner i

abbrev pub lock_left : Instance → (owner : Option Instance) → Answer
lock_left i owner = if is_owner i owner then answer.Done else answer.Changed

-- the answer where the header is there, with its watchers
abbrev pub there_answer : Instance → HeaderView → (watchers : List Instance) → HeaderOp → Answer
there_answer me h watchers (Create view) = answer.Exists
there_answer me h watchers Get = answer.Header h
there_answer me h watchers (SnapAdd name) = snap_added (is_some (snap_named h.snaps name)) (is_full h) (h.snap_seq + 1)
there_answer me h watchers (SnapRemove snap) = done_where (is_some (snap_in h.snaps snap))
there_answer me h watchers (SnapStatus snap status) = done_where (is_some (snap_in h.snaps snap))
there_answer me h watchers LockTake = lock_taken me h.owner
there_answer me h watchers LockDrop = lock_left me h.owner
there_answer me h watchers (LockBreak owner) = lock_left owner h.owner
there_answer me h watchers WatchersGet = answer.Instances watchers
there_answer me h watchers op = answer.Done

-- The header tells it without its watchers.
abbrev pub IsToldAlone : HeaderOp → Type 0
IsToldAlone WatchersGet = ⊥
IsToldAlone op = Unit {0}

-- the answer where the header isn't there
abbrev pub missing_answer : HeaderOp → Answer
missing_answer (Create view) = answer.Done
missing_answer op = answer.Absent

abbrev pub header_answer : Instance → Option HeaderView → (watchers : List Instance) → HeaderOp → Answer
header_answer me (Some h) watchers op = there_answer me h watchers op
header_answer me None watchers op = missing_answer op

abbrev pub where_made : (listed full : Bool) → (made old : HeaderView) → HeaderView
where_made listed full made old = if listed then old else if full then old else made

-- the header after the operation, where it stays
abbrev pub header_then : Instance → HeaderView → HeaderOp → HeaderView
header_then me h (SetSize size) = with_size size h
header_then me h (SnapAdd name) = where_made (is_some (snap_named h.snaps name)) (is_full h) (with_snap name h) h
header_then me h (SnapRemove snap) = if is_some (snap_in h.snaps snap) then without_snap snap h else h
header_then me h (SnapStatus snap status) = if is_some (snap_in h.snaps snap) then with_status snap status h else h
header_then me h Detach = detached h
header_then me h (Role role) = with_role role h
header_then me h Synced = in_step h
header_then me h LockTake = record h { owner = if is_some h.owner then h.owner else Some me }
header_then me h LockDrop = if is_owner me h.owner then record h { owner = None } else h
header_then me h (LockBreak owner) = if is_owner owner h.owner then record h { owner = None } else h
header_then me h op = h

abbrev pub there_after : Instance → HeaderView → HeaderOp → Option HeaderView
there_after me h Remove = None
there_after me h op = Some (header_then me h op)

abbrev pub missing_after : HeaderOp → Option HeaderView
missing_after (Create view) = Some view
missing_after op = None

abbrev pub header_after : Instance → Option HeaderView → HeaderOp → Option HeaderView
header_after me (Some h) op = there_after me h op
header_after me None op = missing_after op

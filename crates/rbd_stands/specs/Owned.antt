-- When the changes of images are their owners', and what a log says of locks and of fenced
-- instances (Ceph: the exclusive lock, and the OSD blocklist that a broken lock stands behind).
use Rattle.std.specs.Prelude.{◌≡◌, ℕ, ◌==◌, ◌&&◌, ◌⊎◌, Bool, true, false, IsTrue, List, [], ◌∷◌, Option, Some, None}
use Rattle.rbd_kinds.specs.declared.answer.Answer.{Answer}
use Rattle.rbd_kinds.specs.declared.answer.Answer.TheVariants as answer
use Rattle.rbd_kinds.specs.declared.data_op.DataOp.{DataOp}
use Rattle.rbd_kinds.specs.declared.data_op.DataOp.TheVariants as object
use Rattle.rbd_kinds.specs.declared.header.HeaderView.{HeaderView}
use Rattle.rbd_kinds.specs.declared.header_op.HeaderOp.{HeaderOp}
use Rattle.rbd_kinds.specs.declared.header_op.HeaderOp.TheVariants as header
use Rattle.rbd_kinds.specs.declared.id.Instance.{Instance}
use Rattle.rbd_kinds.specs.declared.journal.JournalClient.TheVariants.{Mirror}
use Rattle.rbd_kinds.specs.declared.journal_op.JournalOp.{JournalOp}
use Rattle.rbd_kinds.specs.declared.journal_op.JournalOp.TheVariants as journal
use Rattle.rbd_kinds.specs.declared.map_op.MapOp.{MapOp}
use Rattle.rbd_kinds.specs.declared.map_op.MapOp.TheVariants as states
use Rattle.rbd_kinds.specs.declared.operation.Op.{Op}
use Rattle.rbd_kinds.specs.declared.operation.Op.TheVariants as on
use Rattle.rbd_site.specs.declared.done.Done.{Done}
use Rattle.rbd_site.specs.declared.done.DoneOp.{DoneOp}
use Rattle.rbd_site.specs.declared.done.DoneOp.TheVariants as done
use Rattle.rbd_site.specs.Log.{after_op}
use Rattle.rbd_site.specs.Records.{Records}
use Rattle.rbd_site.specs.Step.{is_fenced}
use Rattle.rbd_stands.specs.Effect.{effect_of}

-- ---- which operations change an image

abbrev pub changes_data : DataOp → Bool
changes_data (object.Read snap parts) = false
changes_data _ = true

-- A header is made before anybody can own it, and the lock, who watches and what is told are no
-- part of the image.
abbrev pub changes_header : HeaderOp → Bool
changes_header (header.Create view) = false
changes_header header.Get = false
changes_header header.LockTake = false
changes_header header.LockDrop = false
changes_header (header.LockBreak owner) = false
changes_header header.Watch = false
changes_header header.Unwatch = false
changes_header header.WatchersGet = false
changes_header (header.Notify kind) = false
changes_header _ = true

abbrev pub changes_map : MapOp → Bool
changes_map (states.Get snap) = false
changes_map _ = true

-- The mirror daemon commits what it has replayed while another one owns the image.
abbrev pub changes_journal : JournalOp → Bool
changes_journal (journal.Read seq) = false
changes_journal journal.Spans = false
changes_journal (journal.Commit Mirror seq) = false
changes_journal _ = true

-- whether it changes the data, the header, an object map or the journal of an image
abbrev pub changes_image : (image : ℕ) → Op → Bool
changes_image i (on.Header image o) = (i == image) && changes_header o
changes_image i (on.Data image number o) = (i == image) && changes_data o
changes_image i (on.Map image o) = (i == image) && changes_map o
changes_image i (on.Journal image o) = (i == image) && changes_journal o
changes_image i _ = false

-- the answers with which a change of an image was done
abbrev pub was_done : Answer → Bool
was_done answer.Done = true
was_done (answer.Snap snap) = true
was_done (answer.Tag tag) = true
was_done _ = false

-- ---- owned changes

-- an image without a header has no owner, and needs none
abbrev pub IsOwner : Option HeaderView → Instance → Type 0
IsOwner None me = Unit {0}
IsOwner (Some h) me = h.owner ≡ Some me

-- What an instance does is owned: a change of an image that was done is by the header's owner at
-- that moment, and a lock is broken only once its owner is listed.
pub record IsOwnedStep (r : Records) (me : Instance) (op : Op) (a : Answer) : Type 0 where
  pub change : (image : ℕ) → IsTrue (changes_image image op) → IsTrue (was_done a) → IsOwner (r.headers image) me
  pub broken : (image : ℕ) (owner : Instance) → op ≡ on.Header image (header.LockBreak owner) → a ≡ answer.Done
      → IsTrue (is_fenced r owner)

-- a line of a log is an owned step; a step of the store is nobody's
abbrev pub IsOwnedLine : Records → Option Instance → DoneOp → Answer → Type 0
IsOwnedLine r (Some me) (done.Op op) a = IsOwnedStep r me op a
IsOwnedLine r None op a = Unit {0}
IsOwnedLine r (Some me) op a = Unit {0}

abbrev pub AreOwned : Records → List Done → Type 0
AreOwned r [] = Unit {0}
AreOwned r (d ∷ log) = IsOwnedLine r d.instance d.op d.answer × AreOwned (after_op r d.instance d.op) log

-- ---- what a log says

-- something holds of a line
abbrev pub SomeLine : (P : Done → Type 0) → List Done → Type 0
SomeLine P [] = ⊥
SomeLine P (d ∷ log) = P d ⊎ SomeLine P log

-- the line is this operation of this instance, and it was done
pub record IsDoneBy (d : Done) (me : Instance) (op : Op) : Type 0 where
  pub by : d.instance ≡ Some me
  pub what : d.op ≡ done.Op op
  pub answered : d.answer ≡ answer.Done

-- the line is this operation of some instance, and it was done
pub record IsDoneBySome (d : Done) (op : Op) : Type 0 where
  pub who : Instance
  pub line : IsDoneBy d who op

-- the instance has the lock of the image
pub record HasLock (image : ℕ) (me : Instance) (r : Records) : Type 0 where
  pub header : HeaderView
  pub there : r.headers image ≡ Some header
  pub owner : header.owner ≡ Some me

-- the instance let go of the lock: it dropped the lock, or removed the header with it
abbrev pub IsLetGo : (image : ℕ) → Instance → Done → Type 0
IsLetGo image me d = IsDoneBy d me (on.Header image header.LockDrop) ⊎ IsDoneBy d me (on.Header image header.Remove)

-- somebody took the lock away: broke it, or removed the header with it
abbrev pub IsTakenAway : (image : ℕ) → Instance → Done → Type 0
IsTakenAway image me d = IsDoneBySome d (on.Header image (header.LockBreak me))
    ⊎ IsDoneBySome d (on.Header image header.Remove)

-- a line that was answered fenced, changed no record and had no effect
pub record IsNothing (r : Records) (d : Done) : Type 0 where
  pub answered : d.answer ≡ answer.Fenced
  pub records : after_op r d.instance d.op ≡ r
  pub effect : effect_of r d.op d.answer ≡ None

-- each line of an instance did nothing
abbrev pub DoesNothing : Instance → Records → List Done → Type 0
DoesNothing me r [] = Unit {0}
DoesNothing me r (d ∷ log) = (d.instance ≡ Some me → IsNothing r d) × DoesNothing me (after_op r d.instance d.op) log

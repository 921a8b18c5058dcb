-- What the steps of decoding find in the bytes.
use Rattle.std.specs.Prelude.{◌≡◌, ℕ, ◌+◌, List, ◌∷◌, ◌++◌, length, drop, IsTrue}
use Rattle.std.specs.Int.{w32, to_be_bytes}
use Rattle.rbd_kinds.specs.declared.journal.JournalEvent as journal
use Rattle.rbd_kinds.specs.declared.journal.JournalEvent.TheVariants as event
use Rattle.rbd_journal.specs.declared.kind.FrameKind.{FrameKind}
use Rattle.rbd_journal.specs.declared.kind.FrameKind.TheVariants.{Write, Discard, Resize, SnapCreate, SnapRemove, SnapRollback, Demote}
use Rattle.rbd_kinds.specs.Frame.{body_of, IsInRange}
use Rattle.rbd_journal.specs.Faults.{allows_length, frame_kind_byte}

abbrev pub frame_kind_of : journal.JournalEvent → FrameKind
frame_kind_of (event.Write at bytes) = Write
frame_kind_of (event.Discard at len) = Discard
frame_kind_of (event.Resize size) = Resize
frame_kind_of (event.SnapCreate name) = SnapCreate
frame_kind_of (event.SnapRemove name) = SnapRemove
frame_kind_of (event.SnapRollback name) = SnapRollback
frame_kind_of event.Demote = Demote

-- an event of this kind, in range, whose body is this one
pub record HasBody (kind : FrameKind) (body : List ℕ) (e : journal.JournalEvent) : Type 0 where
  pub in_range : IsInRange e
  pub kind_is : frame_kind_of e ≡ kind
  pub body_is : body_of e ≡ body

-- at the front stand the length of this body in four bytes, and the body; its kind allows the
-- length
pub record HasBodyAfter (bytes : List ℕ) (kind : FrameKind) (body : List ℕ) : Type 0 where
  pub allowed : IsTrue (allows_length kind (length body))
  pub parts : bytes ≡ to_be_bytes w32 (length body) ++ body ++ drop (4 + length body) bytes

-- the same behind the byte of the kind
pub record HasHeader (bytes : List ℕ) (kind : FrameKind) (body : List ℕ) : Type 0 where
  pub allowed : IsTrue (allows_length kind (length body))
  pub parts : bytes ≡ frame_kind_byte kind ∷ to_be_bytes w32 (length body) ++ body ++ drop (5 + length body) bytes

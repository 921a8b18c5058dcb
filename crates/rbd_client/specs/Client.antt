-- What contracts see of a client.
use Rattle.std.specs.Prelude.{ℕ, List, [], ◌∷◌, ◌++◌, Option, slice_index_or}
use Rattle.rbd_client.specs.declared.slot_state.SlotState.{SlotState}
use Rattle.rbd_client.specs.declared.slot_state.Way.TheVariants as way
use Rattle.rbd_commands.specs.declared.quiescing.Quiescing.{Quiescing}
use Rattle.rbd_commands.specs.declared.quiescing.Quiescing.TheVariants as quiescing
use Rattle.rbd_kinds.specs.declared.notice.Notice.{Notice}
use Rattle.rbd_kinds.specs.declared.notice.NoticeKind.{NoticeKind}
use Rattle.rbd_kinds.specs.declared.notice.NoticeKind.TheVariants as notice
use Rattle.rbd_lock.specs.Locks.{LocksView}
use Rattle.rbd_lock.specs.declared.release.Release.{Release}
use Rattle.rbd_slots.specs.Session.{SessionView}

-- its session, what it counts of the locks, what it keeps of each slot beside its session, the
-- release that it is in the middle of, and what it was told by others
pub record ClientView (R : Type 0) : Type 0 where
  pub session : SessionView R
  pub locks : LocksView
  pub slots : List SlotState
  pub release : Option Release
  pub heard : List Notice

-- The state of a slot whose request has just begun, by what that does to a quiesce of its image.
abbrev pub newcomer : Quiescing → SlotState
newcomer q = record { way = way.Unbegun; quiescing = q }

-- the state of a free slot
abbrev pub blank_slot : SlotState
blank_slot = newcomer quiescing.Leaves

abbrev pub slot_state : (slot : ℕ) → List SlotState → SlotState
slot_state slot slots = slice_index_or slots slot blank_slot

-- what is kept of a notice: a message of another client, and nothing else
abbrev pub kept_of : NoticeKind → Notice → List Notice
kept_of (notice.Custom bytes) n = n ∷ []
kept_of kind n = []

abbrev pub heard_with : Notice → List Notice → List Notice
heard_with n heard = heard ++ kept_of n.kind n

-- What holds of each client.
use Rattle.std.specs.Prelude.{◌≡◌, ℕ, true, Option, Some, None, length, IsTrue}
use Rattle.rbd_client.specs.declared.slot_state.Way.{Way}
use Rattle.rbd_client.specs.declared.slot_state.Way.TheVariants as way
use Rattle.rbd_client.specs.Client.{ClientView, blank_slot, slot_state}
use Rattle.rbd_machine.specs.declared.stage.Stage.TheVariants as stage
use Rattle.rbd_kinds.specs.declared.id.SiteId.{SiteId}
use Rattle.rbd_queue.specs.Line.{Member, member_of}
use Rattle.rbd_lock.specs.Locks.{LocksView, IsSoundLocks, lock_state_at}
use Rattle.rbd_machine.specs.Plan.{Standing}
use Rattle.rbd_lock.specs.declared.release.Release.{Release}
use Rattle.rbd_lock.specs.declared.release.Stage.TheVariants as releasing
use Rattle.rbd_slots.specs.declared.running.Running.{Running}
use Rattle.rbd_slots.specs.Lines.{lines_of}
use Rattle.rbd_slots.specs.Session.{SessionView, IsSoundSession, held_in, is_look_at, kind_asked, look_under_lock_at, running_at}

-- The request in a slot waits for its look under the lock, in the line of an image, and wants that
-- look; and the line lets it go past.
pub record WaitsForLook {R : Type 0} (stands : R → Standing) (slot : ℕ) (site : SiteId) (image : ℕ)
    (s : SessionView R) : Type 0 where
  pub request : Running R
  pub runs : running_at slot s ≡ Some request
  pub place : request.place ≡ Some (record { site = site; image = image })
  pub wants : is_look_at site (kind_asked (stands request.request).plan) ≡ true
  pub member : Member
  pub found : member_of slot (lines_of s.lines site image) ≡ Some member
  pub waits : member.stage ≡ stage.Waiting
  pub at_look : look_under_lock_at stands slot s ≡ Some (record { site = site; image = image })

abbrev pub IsOwned : SiteId → (image : ℕ) → LocksView → Type 0
IsOwned site image locks = IsTrue (lock_state_at site image locks).owned

-- A way belongs to a request that waits for its look under the lock of just that image; and where
-- it has taken the lock, the client counts the lock as its own.
abbrev pub IsWellOnWay : {R : Type 0} → (stands : R → Standing) → (slot : ℕ) → Way → SessionView R → LocksView → Type 0
IsWellOnWay stands slot way.Unbegun s locks = Unit {0}
IsWellOnWay stands slot (way.On a) s locks = WaitsForLook stands slot a.site a.image s
IsWellOnWay stands slot (way.Taken p) s locks = WaitsForLook stands slot p.site p.image s × IsOwned p.site p.image locks

-- the release has already dropped its lock
abbrev pub IsTelling : Option Release → Type 0
IsTelling None = Unit {0}
IsTelling (Some r) = r.stage ≡ releasing.Telling

-- Each request that is on its way to a lock waits for its look under the lock, and one that has
-- taken the lock itself has it. What is counted of locks is in form: the images whose locks were
-- asked for stand in order.
pub record IsSoundClient {R : Type 0} (stands : R → Standing) (c : ClientView R) : Type 0 where
  pub session : IsSoundSession stands c.session
  pub locks : IsSoundLocks c.locks
  pub slots : length c.slots ≡ 65
  pub free : (slot : ℕ) → held_in slot c.session.slots ≡ None → slot_state slot c.slots ≡ blank_slot
  pub ways : (slot : ℕ) → IsWellOnWay stands slot (slot_state slot c.slots).way c.session c.locks
  pub telling : IsTelling c.release

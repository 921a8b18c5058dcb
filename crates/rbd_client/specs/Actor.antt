-- Who acts where a slot is polled: nobody, the request in it, the request's way to the lock of its
-- image, or, at slot 0, the release of a lock.
use Rattle.std.specs.Prelude.{ℕ, ◌==◌, ◌&&◌, ◌||◌, not, Bool, true, false, if◌then◌else◌, List, Option, Some, None}
use Rattle.std.specs.List.{find, list_any}
use Rattle.rbd_client.specs.declared.actor.Actor.{Actor}
use Rattle.rbd_client.specs.declared.actor.Actor.TheVariants as actor
use Rattle.rbd_client.specs.declared.slot_state.SlotState.{SlotState}
use Rattle.rbd_client.specs.declared.slot_state.Way.{Way}
use Rattle.rbd_client.specs.declared.slot_state.Way.TheVariants as way
use Rattle.rbd_client.specs.Client.{ClientView, slot_state}
use Rattle.rbd_kinds.specs.declared.id.SiteId.{SiteId}
use Rattle.rbd_kinds.specs.declared.operation.Op.{Op}
use Rattle.rbd_kinds.specs.declared.operation_kind.OpKind.{OpKind}
use Rattle.rbd_kinds.specs.OperationKind.{kind_of}
use Rattle.rbd_queue.specs.Line.{any_past}
use Rattle.rbd_kinds.specs.declared.image_at.ImageAt.{ImageAt}
use Rattle.rbd_lock.specs.declared.lock_state.LockState.{LockState}
use Rattle.rbd_lock.specs.Locks.{LocksView, lock_state_at}
use Rattle.rbd_kinds.specs.Images.{is_at}
use Rattle.rbd_machine.specs.Plan.{Standing}
use Rattle.rbd_lock.specs.Acquire.{begun_way, op_of}
use Rattle.rbd_lock.specs.declared.release.Release.{Release}
use Rattle.rbd_lock.specs.Release.{begun_release, release_op}
use Rattle.rbd_slots.specs.Lines.{lines_of}
use Rattle.rbd_slots.specs.Session.{SessionView, kind_at, op_at, look_under_lock_at}

-- ---- a request at its look under the lock

-- A request that stands at its look under the lock acts where the lock is the client's, and else
-- its way to the lock does. A quiesce holds it back, and so does another client that wants the
-- lock.
abbrev pub actor_by : LockState → SiteId → (image : ℕ) → Actor
actor_by s site image =
    if s.quiesced || s.asked then actor.Nobody
    else if s.owned then actor.Request else actor.Way (begun_way site image s.watched)

abbrev pub actor_at_look : Option ImageAt → LocksView → Actor
actor_at_look None locks = actor.Request
actor_at_look (Some p) locks = actor_by (lock_state_at p.site p.image locks) p.site p.image

-- A request that is on its way goes on there. One that has taken the lock itself isn't held back
-- any more.
abbrev pub actor_on : Way → Option ImageAt → LocksView → Actor
actor_on way.Unbegun look locks = actor_at_look look locks
actor_on (way.On a) look locks = actor.Way a
actor_on (way.Taken p) look locks = actor.Request

-- whether the slot's next operation is a step on its request's way to the lock
abbrev pub is_acquiring : Actor → Bool
is_acquiring (actor.Way a) = true
is_acquiring _ = false

-- ---- a release

abbrev pub way_has_taken : SiteId → (image : ℕ) → Way → Bool
way_has_taken site image (way.Taken p) = is_at site image p.site p.image
way_has_taken site image w = false

abbrev pub any_taken : SiteId → (image : ℕ) → List SlotState → Bool
any_taken site image slots = list_any (λ (s : SlotState). way_has_taken site image s.way) slots

-- a release that has begun goes on
abbrev pub release_actor : Option Release → (due : Option ImageAt) → Actor
release_actor (Some r) due = actor.Release r
release_actor None (Some p) = actor.Release (begun_release p.site p.image)
release_actor None None = actor.Nobody

module _ {R : Type 0} where
  -- whether no request of the image is past its look under the lock, or has taken the lock itself
  abbrev pub is_at_rest : SiteId → (image : ℕ) → ClientView R → Bool
  is_at_rest site image c = not (any_past (lines_of c.session.lines site image)) && not (any_taken site image c.slots)

  abbrev pub may_release : ClientView R → ImageAt → Bool
  may_release c p = not (lock_state_at p.site p.image c.locks).quiesced && is_at_rest p.site p.image c

  -- of the images that were asked for, in order, the first whose lock may be let go
  abbrev pub due_release : ClientView R → Option ImageAt
  due_release c = find (may_release c) c.locks.asked

  -- ---- at a slot

  abbrev pub actor_at : (stands : R → Standing) → (slot : ℕ) → ClientView R → Actor
  actor_at stands slot c =
      if slot == 0 then release_actor c.release (due_release c)
      else actor_on (slot_state slot c.slots).way (look_under_lock_at stands slot c.session) c.locks

  -- ---- what it wants

  abbrev pub kind_by : (stands : R → Standing) → (slot : ℕ) → SessionView R → Actor → Option (SiteId × OpKind)
  kind_by stands slot s actor.Nobody = None
  kind_by stands slot s actor.Request = kind_at stands slot s
  kind_by stands slot s (actor.Way a) = Some (a.site, kind_of (op_of a))
  kind_by stands slot s (actor.Release r) = Some (r.site, kind_of (release_op r))

  abbrev pub op_by : (stands : R → Standing) → (slot : ℕ) → SessionView R → Actor → Option (SiteId × Op)
  op_by stands slot s actor.Nobody = None
  op_by stands slot s actor.Request = op_at stands slot s
  op_by stands slot s (actor.Way a) = Some (a.site, op_of a)
  op_by stands slot s (actor.Release r) = Some (r.site, release_op r)

  -- None exactly where the slot is free, waits, or holds a request that is refused before any
  -- operation. Slot 0 waits where nothing is to be let go.
  abbrev pub kind_wanted : (stands : R → Standing) → (slot : ℕ) → ClientView R → Option (SiteId × OpKind)
  kind_wanted stands slot c = kind_by stands slot c.session (actor_at stands slot c)

  abbrev pub op_wanted : (stands : R → Standing) → (slot : ℕ) → ClientView R → Option (SiteId × Op)
  op_wanted stands slot c = op_by stands slot c.session (actor_at stands slot c)

-- The operations of a line on its way to the lock of its image: they are a way as `rbd_lock` says,
-- up to where the line stands.
use Rattle.std.specs.Prelude.{◌≡◌, ◌⊎◌, ℕ, Bool, true, false, List, [], Option, Some, None}
use Rattle.rbd_client.specs.declared.slot_state.Way.{Way}
use Rattle.rbd_client.specs.declared.slot_state.Way.TheVariants as way
use Rattle.rbd_kinds.specs.declared.answer.Answer.{Answer}
use Rattle.rbd_kinds.specs.declared.header.HeaderView.{HeaderView}
use Rattle.rbd_kinds.specs.declared.id.SiteId.{SiteId}
use Rattle.rbd_kinds.specs.declared.machine.Fed.{Fed}
use Rattle.rbd_kinds.specs.declared.operation.Op.{Op}
use Rattle.rbd_kinds.specs.declared.reply.Reply.{Reply}
use Rattle.rbd_kinds.specs.declared.reply.Reply.TheVariants as reply
use Rattle.rbd_machine.specs.Course.{PlaceInLine, is_waiting}
use Rattle.rbd_machine.specs.Label as label
use Rattle.rbd_machine.specs.Path.{Answered}
use Rattle.rbd_machine.specs.Plan.{Plan, Ask, Return, Standing}
use Rattle.rbd_machine.specs.declared.reason.Reason.{Reason}
use Rattle.rbd_lock.specs.Acquire.{IsWay, rest_of_acquire}
use Rattle.rbd_lock.specs.Release.{release_op}
use Rattle.rbd_lock.specs.Steps.{lock_drop, released_lock}
use Rattle.rbd_lock.specs.declared.release.Release.{Release}
use Rattle.rbd_catalog.specs.Looking.{HoldsNoMore, LooksAtItFirst}

-- ---- operations that are a way

-- These operations lead on the way to the lock of the image up to this plan.
pub record IsWayThere (site : SiteId) (image : ℕ) (steps : List Answered) (last : Plan) : Type 0 where
  pub watched : Bool
  pub feds : List Fed
  pub walk : IsWay site image watched feds steps last

-- Each of them is the one that the way asks for, after the answers before.
pub record AreAWay (steps : List Answered) : Type 0 where
  pub site : SiteId
  pub image : ℕ
  pub last : Plan
  pub way : IsWayThere site image steps last

-- These operations took the lock.
pub record TookTheLock (steps : List Answered) : Type 0 where
  pub site : SiteId
  pub image : ℕ
  pub way : IsWayThere site image steps (Return reply.Done)

-- No way was begun, or it has led to the lock.
abbrev pub IsOver : (steps : List Answered) → Type 0
IsOver steps = (steps ≡ []) ⊎ TookTheLock steps

-- After these operations the way asks for just this operation.
pub record AsksNext (site : SiteId) (o : Op) (steps : List Answered) : Type 0 where
  pub image : ℕ
  pub why : Reason
  pub next : Answer → Plan
  pub way : IsWayThere site image steps (Ask site why o next)

-- These operations are a way that ended refused.
pub record WasRefused (site : SiteId) (r : Reply) (steps : List Answered) : Type 0 where
  pub image : ℕ
  pub way : IsWayThere site image steps (Return r)

-- ---- an operation of a release

-- a lock is dropped, or its watchers are told that it was
pub record IsOfRelease (o : Op) : Type 0 where
  pub image : ℕ
  pub is : (o ≡ lock_drop image) ⊎ (o ≡ released_lock image)

pub record IsDrop (o : Op) : Type 0 where
  pub image : ℕ
  pub is : o ≡ lock_drop image

-- A house drops a lock only where no release is under way. Where one is, it does what that release
-- wants.
abbrev pub IsNextOfRelease : (under_way : Option Release) → SiteId → Op → Type 0
IsNextOfRelease None s o = IsDrop o
IsNextOfRelease (Some r) s o = (s ≡ r.site) × (o ≡ release_op r)

-- ---- what the state of a slot says

-- Where a request waits for its look under the lock, the header of the image in whose line it
-- waits is the first that it looks at.
abbrev pub LooksAtItsOwn : Option PlaceInLine → (left : Plan) → Type 0
LooksAtItsOwn None left = Unit {0}
LooksAtItsOwn (Some p) left = is_waiting p.stage ≡ true → LooksAtItFirst p.site p.image left

-- whether it waits for its look under the lock
abbrev pub awaits_its_look : Option PlaceInLine → Bool
awaits_its_look None = false
awaits_its_look (Some p) = is_waiting p.stage

-- The operations took the lock, and the request is past its look under it: it waits for no lock any
-- more, and so does no piece that it begins again.
pub record IsPastItsWay (left : Standing) (place : Option PlaceInLine) (steps : List Answered) : Type 0 where
  pub took : TookTheLock steps
  pub holds : HoldsNoMore left.plan
  pub pieces : (site : SiteId) (image : ℕ) (h : HeaderView) (bits : List ℕ) (number : ℕ)
      → HoldsNoMore (left.labels (label.Piece site image h bits number))
  pub past : awaits_its_look place ≡ false

-- A request that has begun no way has done nothing on one, unless its way is over and it is past
-- its look under the lock. Where one is on its way its operations lead to where it stands, and
-- where it has taken the lock they lead to the way's end.
abbrev pub AgreesWithWay : (left : Standing) → Option PlaceInLine → Way → (steps : List Answered) → Type 0
AgreesWithWay left place way.Unbegun steps = (steps ≡ []) ⊎ IsPastItsWay left place steps
AgreesWithWay left place (way.On a) steps = IsWayThere a.site a.image steps (rest_of_acquire a (Return reply.Done))
AgreesWithWay left place (way.Taken p) steps = IsWayThere p.site p.image steps (Return reply.Done)

-- What has to be ready before an operation is done, and what its answer comes to.
use Rattle.std.specs.Option.{is_some}
use Rattle.std.specs.Prelude.{◌≡◌, ℕ, ◌<◌, Bool, true, false, if◌then◌else◌, List, [], ◌∷◌, Option, Some, None, IsSome}
use Rattle.rbd_client.specs.declared.actor.Actor.{Actor}
use Rattle.rbd_client.specs.declared.actor.Actor.TheVariants as actor
use Rattle.rbd_client.specs.declared.slot_state.SlotState.{SlotState}
use Rattle.rbd_client.specs.declared.slot_state.Way.{Way}
use Rattle.rbd_client.specs.declared.slot_state.Way.TheVariants as way
use Rattle.rbd_client.specs.Actor.{actor_at, any_taken, is_at_rest}
use Rattle.rbd_client.specs.Client.{ClientView, blank_slot, slot_state}
use Rattle.rbd_commands.specs.declared.quiescing.Quiescing.{Quiescing}
use Rattle.rbd_commands.specs.declared.quiescing.Quiescing.TheVariants as quiescing
use Rattle.rbd_kinds.specs.declared.answer.Answer.{Answer}
use Rattle.rbd_kinds.specs.declared.answer.Answer.TheVariants as answer
use Rattle.rbd_kinds.specs.declared.directory_op.DirectoryOp.TheVariants as directory
use Rattle.rbd_kinds.specs.declared.header_op.HeaderOp.TheVariants as header
use Rattle.rbd_kinds.specs.declared.id.SiteId.{SiteId}
use Rattle.rbd_kinds.specs.declared.machine.Fed.{Fed}
use Rattle.rbd_kinds.specs.declared.machine.Fed.TheVariants as fed
use Rattle.rbd_kinds.specs.declared.operation.Op.{Op}
use Rattle.rbd_kinds.specs.declared.operation.Op.TheVariants as op
use Rattle.rbd_kinds.specs.declared.reply.Reply.{Reply}
use Rattle.rbd_kinds.specs.declared.reply.Reply.TheVariants as reply
use Rattle.rbd_kinds.specs.declared.image_at.ImageAt.{ImageAt}
use Rattle.rbd_lock.specs.Comings.{Coming, ByAnswer, ByQuiesce, ByResume, after_all}
use Rattle.rbd_lock.specs.Locks.{LocksView, lock_state_at}
use Rattle.rbd_machine.specs.Answers.{CanBeFed}
use Rattle.rbd_machine.specs.Label.{Label, Lock}
use Rattle.rbd_machine.specs.Plan.{Plan, Standing, plan_after, past_label}
use Rattle.rbd_machine.specs.Steps.{IsGoing, refused}
use Rattle.rbd_lock.specs.Acquire.{lock_of, rest_of_acquire, standing_of}
use Rattle.rbd_lock.specs.declared.acquire.Acquire.{Acquire}
use Rattle.rbd_lock.specs.declared.acquire.Stage.TheVariants as stage
use Rattle.rbd_lock.specs.declared.release.Release.{Release}
use Rattle.rbd_lock.specs.Release.{release_after, rest_of_release}
use Rattle.rbd_slots.specs.declared.running.Running.{Running}
use Rattle.rbd_slots.specs.Advance.{track_of}
use Rattle.rbd_slots.specs.Lines.{lines_of}
use Rattle.rbd_slots.specs.Session.{SessionView, IsAlike, IsAnswered, IsFed, IsReadied, OfRunning, held_in, running_at, look_under_lock_at}
use Rattle.rbd_slots.specs.Track.{ended_by}

-- ---- before

-- the operation that is wanted by who acts can give that answer
abbrev pub CanGet : {R : Type 0} → (stands : R → Standing) → (slot : ℕ) → SessionView R → Fed → Actor → Type 0
CanGet stands slot s f actor.Nobody = ⊥
CanGet stands slot s f actor.Request = OfRunning (IsAnswered stands slot s.lines f) (held_in slot s.slots)
CanGet stands slot s f (actor.Way a) = CanBeFed (standing_of a).plan f
CanGet stands slot s f (actor.Release r) = CanBeFed (rest_of_release r) f

abbrev pub IsReadyBy : {R : Type 0} → (stands : R → Standing) → (is_ready : R → Answer → Type 0) → (slot : ℕ)
    → SessionView R → Fed → Actor → Type 0
IsReadyBy stands is_ready slot s f actor.Nobody = ⊥
IsReadyBy stands is_ready slot s f actor.Request = IsReadied stands is_ready slot f s
IsReadyBy stands is_ready slot s f (actor.Way a) = CanBeFed (standing_of a).plan f
IsReadyBy stands is_ready slot s f (actor.Release r) = CanBeFed (rest_of_release r) f

-- everything is ready for an answer
pub record IsReadiedFor {R : Type 0} (stands : R → Standing) (is_ready : R → Answer → Type 0) (slot : ℕ) (f : Fed)
    (c : ClientView R) : Type 0 where
  pub ready : IsReadyBy stands is_ready slot c.session f (actor_at stands slot c)
  pub room : 0 < c.locks.room

-- only a request is made ready itself: a way and a release leave the session as it is
abbrev pub StaysUnlessRequest : {R : Type 0} → Actor → (old new : SessionView R) → Type 0
StaysUnlessRequest actor.Request old new = Unit {0}
StaysUnlessRequest who old new = new ≡ old

-- the states of all images are the same
abbrev pub AreStatesAlike : (old new : LocksView) → Type 0
AreStatesAlike old new = (site : SiteId) (image : ℕ) → lock_state_at site image new ≡ lock_state_at site image old

-- the client is as it was, but for what it is ready for
pub record IsClientAlike {R : Type 0} (stands : R → Standing) (old new : ClientView R) : Type 0 where
  pub session : IsAlike stands old.session new.session
  pub locks : AreStatesAlike old.locks new.locks
  pub asked : new.locks.asked ≡ old.locks.asked
  pub slots : new.slots ≡ old.slots
  pub release : new.release ≡ old.release
  pub heard : new.heard ≡ old.heard

-- A request of the client ends a lock only where no other request of the image relies on it. A
-- `close` is alone, and waits for all before it. A request that removes the header is alone and
-- past its look under the lock itself, and no other has taken the lock. A release sees to that by
-- itself.
abbrev pub IsAtRest : {R : Type 0} → SiteId → Op → ClientView R → Type 0
IsAtRest site (op.Header image header.LockDrop) c = is_at_rest site image c ≡ true
IsAtRest site (op.Header image header.Remove) c = any_taken site image c.slots ≡ false
IsAtRest site o c = Unit {0}

abbrev pub DropsAtRest : {R : Type 0} → Actor → SiteId → Op → ClientView R → Type 0
DropsAtRest actor.Request site o c = IsAtRest site o c
DropsAtRest who site o c = Unit {0}

-- ---- what it comes to for the locks

-- what comes to the locks by the look under the lock of a quiesce
abbrev pub quiesces : (look : Option ImageAt) → List Coming
quiesces None = []
quiesces (Some p) = ByQuiesce p.site p.image ∷ []

-- what comes to the locks by the look-up of a resume that found the image
abbrev pub resumes : SiteId → Op → (image : ℕ) → List Coming
resumes site (op.Directory (directory.Find name)) image = ByResume site image ∷ []
resumes site o image = []

-- its look under the lock begins a quiesce, and its look-up of the image ends one
abbrev pub quiesced_by : Quiescing → (look : Option ImageAt) → SiteId → Op → Answer → List Coming
quiesced_by quiescing.Begins look site o (answer.Header h) = quiesces look
quiesced_by quiescing.Ends look site o (answer.Id image) = resumes site o image
quiesced_by q look site o a = []

abbrev pub comings_of : Quiescing → (look : Option ImageAt) → SiteId → Op → Fed → List Coming
comings_of q look site o (fed.Answer a) = ByAnswer site o a ∷ quiesced_by q look site o a
comings_of q look site o fed.Passed = []

-- ---- what it comes to in the slot

-- the state of a slot whose request is on its way: only the way in it changes; and once the request
-- has ended nothing is left
abbrev pub state_on_way : (has_ended : Bool) → Way → SlotState → SlotState
state_on_way has_ended w s = if has_ended then blank_slot else record { way = w; quiescing = s.quiescing }

-- a request whose look under the lock was answered needs no way any more
abbrev pub state_behind : (has_ended has_looked : Bool) → SlotState → SlotState
state_behind has_ended has_looked s =
    if has_ended then blank_slot else if has_looked then record { way = way.Unbegun; quiescing = s.quiescing } else s

-- The way goes on, also to the lock once more.
pub record GoesOnItsWay (a : Acquire) (f : Fed) (b : Acquire) : Type 0 where
  pub site : b.site ≡ a.site
  pub image : b.image ≡ a.image
  pub goes : (labels : Label → Plan) (next : Plan) → labels Lock ≡ lock_of a next
      → IsGoing (past_label labels (plan_after (rest_of_acquire a next) f)) (rest_of_acquire b next)

-- The way took the lock: what comes next is left of it.
pub record TakesTheLock (a : Acquire) (f : Fed) (p : ImageAt) : Type 0 where
  pub site : p.site ≡ a.site
  pub image : p.image ≡ a.image
  pub asked : a.stage ≡ stage.Taking
  pub done : f ≡ fed.Answer answer.Done

-- The request is refused.
abbrev pub RefusesIt : Acquire → Fed → Reply → Type 0
RefusesIt a f (reply.Refused r) = (next : Plan) → plan_after (rest_of_acquire a next) f ≡ refused r
RefusesIt a f r = ⊥

-- A way goes on, has taken the lock, or is over where the request is refused.
abbrev pub WayComesTo : Acquire → Fed → Option Reply → Way → Type 0
WayComesTo a f None (way.On b) = GoesOnItsWay a f b
WayComesTo a f None (way.Taken p) = TakesTheLock a f p
WayComesTo a f None way.Unbegun = ⊥
WayComesTo a f (Some r) w = (w ≡ way.Unbegun) × RefusesIt a f r

-- the session gave up the request in the slot
pub record IsGivenUp {R : Type 0} (slot : ℕ) (old new : SessionView R) : Type 0 where
  pub free : IsSome (running_at slot old) → held_in slot new.slots ≡ None
  pub left : (r : Running R) → running_at slot old ≡ Some r
      → lines_of new.lines ≡ (ended_by slot (track_of r old.lines)).lines

-- a way that goes on changes nothing in the session
abbrev pub GoesItsWay : {R : Type 0} → (slot : ℕ) → Option Reply → (old new : SessionView R) → Type 0
GoesItsWay slot None old new = new ≡ old
GoesItsWay slot (Some r) old new = IsGivenUp slot old new

-- what is left of a release, and nothing where it has ended
abbrev pub release_once_fed : Release → Fed → Option Release
release_once_fed r (fed.Answer a) = release_after r a
release_once_fed r fed.Passed = None

-- ---- what it comes to in all

abbrev pub CountsAll : List Coming → (old new : LocksView) → Type 0
CountsAll comings old new = (site : SiteId) (image : ℕ) → lock_state_at site image new ≡ after_all comings site image
    (lock_state_at site image old)

pub record RequestIsFed {R : Type 0} (stands : R → Standing) (slot : ℕ) (site : SiteId) (o : Op) (f : Fed)
    (result : Option Reply) (old new : ClientView R) : Type 0 where
  pub fed : IsFed stands slot f result old.session new.session
  pub counts : CountsAll (comings_of (slot_state slot old.slots).quiescing
      (look_under_lock_at stands slot old.session) site o f) old.locks new.locks
  pub state : slot_state slot new.slots ≡ state_behind (is_some result)
      (is_some (look_under_lock_at stands slot old.session)) (slot_state slot old.slots)
  pub release : new.release ≡ old.release

pub record WayIsFed {R : Type 0} (a : Acquire) (slot : ℕ) (site : SiteId) (o : Op) (f : Fed) (result : Option Reply)
    (old new : ClientView R) : Type 0 where
  pub comes : WayComesTo a f result (slot_state slot new.slots).way
  pub session : GoesItsWay slot result old.session new.session
  pub counts : CountsAll (comings_of quiescing.Leaves None site o f) old.locks new.locks
  pub state : slot_state slot new.slots ≡ state_on_way (is_some result) (slot_state slot new.slots).way
      (slot_state slot old.slots)
  pub release : new.release ≡ old.release

pub record ReleaseIsFed {R : Type 0} (r : Release) (site : SiteId) (o : Op) (f : Fed) (result : Option Reply)
    (old new : ClientView R) : Type 0 where
  pub none : result ≡ None
  pub session : new.session ≡ old.session
  pub counts : CountsAll (comings_of quiescing.Leaves None site o f) old.locks new.locks
  pub slots : new.slots ≡ old.slots
  pub release : new.release ≡ release_once_fed r f

abbrev pub IsFedBy : {R : Type 0} → (stands : R → Standing) → (slot : ℕ) → SiteId → Op → Fed → Option Reply
    → (old new : ClientView R) → Actor → Type 0
IsFedBy stands slot site o f result old new actor.Nobody = ⊥
IsFedBy stands slot site o f result old new actor.Request = RequestIsFed stands slot site o f result old new
IsFedBy stands slot site o f result old new (actor.Way a) = WayIsFed a slot site o f result old new
IsFedBy stands slot site o f result old new (actor.Release r) = ReleaseIsFed r site o f result old new

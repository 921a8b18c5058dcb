-- What holds of each world, whatever came: its run is right at every place, and what its requests
-- know is true.
use Rattle.std.specs.Prelude.{◌≡◌, ◌≢◌, ◌⊎◌, ℕ, ◌+◌, ◌<◌, ◌≤◌, ◌||◌, Bool, true, false, List, [], ◌∷◌, ◌++◌, length, is_some, slice_get, Option, Some, None}
use Rattle.std.specs.List.Sorted.{IsStrictlyIncreasing}
use Rattle.rbd_client.specs.declared.slot_state.Way.{Way}
use Rattle.rbd_client.specs.Client.{ClientView, slot_state}
use Rattle.rbd_client.specs.Sound.{IsSoundClient}
use Rattle.rbd_session.specs.Close.{unwatch}
use Rattle.rbd_commands.specs.declared.command.Command.{Command}
use Rattle.rbd_commands.specs.declared.refusal.Refusal.{Refusal}
use Rattle.rbd_interference.specs.Exact.{IsExactBut, IsOwed}
use Rattle.rbd_knowledge.specs.Truth.{IsTrueOf}
use Rattle.rbd_kinds.specs.declared.answer.Answer.{Answer}
use Rattle.rbd_kinds.specs.declared.header_op.HeaderOp.TheVariants as header
use Rattle.rbd_kinds.specs.declared.id.Instance.{Instance}
use Rattle.rbd_kinds.specs.declared.id.SiteId.{SiteId}
use Rattle.rbd_kinds.specs.declared.machine.Fed.{Fed}
use Rattle.rbd_kinds.specs.declared.notice.Notice.{Notice}
use Rattle.rbd_kinds.specs.declared.operation.Op.{Op}
use Rattle.rbd_kinds.specs.declared.operation.Op.TheVariants as op
use Rattle.rbd_kinds.specs.declared.reply.Reply.{Reply}
use Rattle.rbd_knowledge.specs.Calm.{IsCalmRequest}
use Rattle.rbd_catalog.specs.Profile.{joins_a_line, profile}
use Rattle.rbd_knowledge.specs.Knowing.{AllKnow}
use Rattle.rbd_machine.specs.Course.{PlaceInLine}
use Rattle.rbd_machine.specs.Knowledge.{Knowledge, is_drawn, nothing_known}
use Rattle.rbd_machine.specs.Path.{Answered, IsWalk}
use Rattle.rbd_machine.specs.Permits.{Permits}
use Rattle.rbd_machine.specs.Plan.{Plan, Ask, Return, Standing}
use Rattle.rbd_machine.specs.Refused.{AreGiven}
use Rattle.rbd_machine.specs.Standalone.{TellAllStandalone}
use Rattle.rbd_machine.specs.Steps.{EndsIt, not_there, refused}
use Rattle.rbd_machine.specs.declared.reason.Reason.{Reason}
use Rattle.rbd_machine.specs.declared.seat.Seat.{Seat}
use Rattle.rbd_meaning.specs.Meant.{IsMeantBy}
use Rattle.rbd_lock.specs.Steps.{lock_take}
use Rattle.rbd_interference.specs.Beside.{AreBeside, MayAct}
use Rattle.rbd_interference.specs.Locks.{KnowsByLock}
use Rattle.rbd_interference.specs.Ancestors.{HasReadTruly}
use Rattle.rbd_interference.specs.Truth.{AreMapped, AreRanked, IsTrueAt, AreStandalone}
use Rattle.rbd_catalog.specs.Plans.{IsPlanFor}
use Rattle.rbd_slots.specs.declared.running.Occupant.{Occupant}
use Rattle.rbd_slots.specs.declared.running.Occupant.TheVariants as occupant
use Rattle.rbd_slots.specs.declared.running.Running.{Running}
use Rattle.rbd_slots.specs.Advance.{track_of}
use Rattle.rbd_slots.specs.Lines.{LinesView}
use Rattle.rbd_slots.specs.Session.{SessionView, held_in, is_look_at, kind_asked, running_at, script_line}
use Rattle.rbd_slots.specs.Track.{course_of}
use Rattle.rbd_site.specs.InForm.{AreInForm}
use Rattle.rbd_site.specs.Records.{Records}
use Rattle.rbd_site.specs.Step.{answer_to}
use Rattle.rbd_site.specs.declared.done.DoneOp.TheVariants as done
use Rattle.rbd_stands.specs.Effect.{effect_of}
use Rattle.rbd_stands.specs.Owned.{HasLock, IsOwnedStep}
use Rattle.rbd_stands.specs.Site.{StandsFor}
use Rattle.rbd_watch.specs.Posting.{notice_numbered}
use Rattle.rbd_watch.specs.Watching.{oldest_of}
use Rattle.rbd_world.specs.Begun.{has_line}
use Rattle.rbd_world.specs.Closes.{StandsFirstIf, has_let_go}
use Rattle.rbd_world.specs.declared.begun.BegunLines.{BegunLines}
use Rattle.rbd_world.specs.Late.{is_stopped_among}
use Rattle.rbd_world.specs.LetGo.{release_of}
use Rattle.rbd_world.specs.Order.{AreWritesInOrder, KeepsOrder}
use Rattle.rbd_world.specs.Owing.{HasNoHindrance, owed_in}
use Rattle.rbd_world.specs.Owning.{CountsItsLocks}
use Rattle.rbd_world.specs.Past.{HadNoHeader, known_along}
use Rattle.rbd_world.specs.Run.{Asked, Doer, Itself, OnWay, House, AfterStop, Happening, Began, Did, Refused, Trimmed, Expired, Heard, Stopped, Restarted, Operation, Sent, AreCalls, asked_by, ends, flat_after, history_of, is_line_among, is_for, life_after, log_of, mail_of, records_after, sent_after, step_of, steps_of, way_of}
use Rattle.rbd_world.specs.Seats.{seat_at, seat_of_home}
use Rattle.rbd_world.specs.Step.{IsFresh, is_begun}
use Rattle.rbd_world.specs.Watched.{CountsItsWatches, TakesBehindWatch}
use Rattle.rbd_world.specs.Ways.{AsksNext, AgreesWithWay, IsNextOfRelease, IsOver, LooksAtItsOwn, WasRefused}
use Rattle.rbd_world.specs.World.{LateView, LivesView, WorldView, client_in, late_at, lives_in, records_in, session_in, site_in}

-- ---- a run that is right at every place

-- whether a line has its reply, or is lost
abbrev pub has_ended : (line : ℕ) → List Happening → Bool
has_ended line [] = false
has_ended line (h ∷ run) = ends line h || has_ended line run

-- an instance began the line, and it has no reply yet and isn't lost
pub record IsOpen (line : ℕ) (run : List Happening) : Type 0 where
  pub asked : Asked
  pub is : asked_by line run ≡ Some asked
  pub unended : has_ended line run ≡ false

-- A walk of the command's plan leads to this plan by these operations. No header that they told has
-- a parent or a journal.
pub record IsLedTo (seat : Seat) (c : Command) (steps : List Answered) (last : Plan) : Type 0 where
  pub start : Standing
  pub plan : IsPlanFor seat c start
  pub feds : List Fed
  pub walk : IsWalk start.labels start.plan feds steps last
  pub given : AreGiven steps
  pub standalone : TellAllStandalone steps

-- A walk of the command's plan, of a session at this seat, ends with the reply by all operations
-- that were done for its line; and the command means that reply after them.
pub record IsReplyMeant (homes : ℕ → SiteId) (line : ℕ) (reply : Reply) (before run : List Happening) : Type 0 where
  pub begun : IsOpen line before
  pub ended : IsLedTo (seat_at homes begun.asked.who.session) begun.asked.command (steps_of line run) (Return reply)
  pub meant : IsMeantBy (seat_at homes begun.asked.who.session) begun.asked.command (steps_of line run) reply

-- a look at a header, with its answer
abbrev pub look_answered : SiteId → (image : ℕ) → Answer → Answered
look_answered site image told = record { site = site; op = op.Header image header.Get; answer = told }

-- The request wants its look under the lock next, and is refused on its way to the lock: as if that
-- look had been answered what the last step of the way was answered, that something isn't there or
-- that the instance is fenced.
pub record IsRefusedOnWay (homes : ℕ → SiteId) (line : ℕ) (reply : Reply) (o : Operation)
    (before : List Happening) : Type 0 where
  pub begun : IsOpen line before
  pub tells : EndsIt o.answer
  pub refuses : not_there o.answer ≡ Return reply
  pub plan : Plan
  pub led : IsLedTo (seat_at homes begun.asked.who.session) begun.asked.command (steps_of line before) plan
  pub wants : is_look_at o.site (kind_asked plan) ≡ true
  pub image : ℕ
  pub meant : IsMeantBy (seat_at homes begun.asked.who.session) begun.asked.command
      (steps_of line before ++ look_answered o.site image o.answer ∷ []) reply
  pub over : WasRefused o.site reply (way_of line before ++ step_of o ∷ [])

-- ---- whose an operation is

-- the instance began the line
abbrev pub IsOfLine : (line : ℕ) → Instance → (before : List Happening) → Type 0
IsOfLine line who before = (asked : Asked) → asked_by line before ≡ Some asked → who ≡ asked.who

-- the instance is its session's latest life, and runs
abbrev pub IsRunning : Instance → (before : List Happening) → Type 0
IsRunning who before = life_after who.session before ≡ record { number = who.life; runs = true }

abbrev pub IsOf : Doer → Instance → SiteId → Op → (before : List Happening) → Type 0
IsOf (Itself line) who s o before = IsOfLine line who before
IsOf (OnWay line) who s o before = IsOfLine line who before
IsOf House who s o before = IsRunning who before
IsOf (AfterStop slot) who s o before = sent_after who.session slot before
    ≡ Some (record { instance = who; site = s; op = o })

-- Where the operation takes the lock of an image, no open line of the instance has let go of it.
abbrev pub TakesAlone : Instance → SiteId → Op → (before : List Happening) → Type 0
TakesAlone who s o before = (image : ℕ) → o ≡ lock_take image → (line : ℕ) → (begun : IsOpen line before)
    → begun.asked.who ≡ who → has_let_go s image (steps_of line before) ≡ false

-- It is the next of what it is done for. One of a line itself comes where its way wasn't begun or
-- is over, and one on the way is what the way asks for there. Where that takes the lock, the
-- instance watched the image and didn't end that itself since, and none of its open lines let go of
-- the lock. A house only lets locks go: where it dropped one it tells of that next, and of no
-- other.
abbrev pub IsNextOf : Doer → Instance → SiteId → Op → (before : List Happening) → Type 0
IsNextOf (Itself line) who s o before = IsOver (way_of line before)
IsNextOf (OnWay line) who s o before = AsksNext s o (way_of line before) × TakesBehindWatch who s o before
    × TakesAlone who s o before
IsNextOf House who s o before = IsNextOfRelease (release_of who before) s o
IsNextOf (AfterStop slot) who s o before = Unit {0}

-- A walk of the line's command asks for the operation, and this is what the walk taught.
pub record Recalls (line : ℕ) (s : SiteId) (o : Op) (k : Knowledge) (before : List Happening) : Type 0 where
  pub begun : IsOpen line before
  pub seat : Seat
  pub start : Standing
  pub plan : IsPlanFor seat begun.asked.command start
  pub feds : List Fed
  pub why : Reason
  pub next : Answer → Plan
  pub walk : IsWalk start.labels start.plan feds (steps_of line before) (Ask s why o next)
  pub known : k ≡ known_along start.labels nothing_known start.plan feds

-- an operation that a line's command does itself goes by what the command learned
abbrev pub RecallsBy : Doer → SiteId → Op → Knowledge → (before : List Happening) → Type 0
RecallsBy (Itself line) s o k before = Recalls line s o k before
RecallsBy by s o k before = Unit {0}

-- An operation as a site does it here. It has the number, the answer and the effect that its site
-- has for it; what was known permitted it, and was true; no image had a header so far whose id was
-- drawn for one; what it changes of an image is its owner's; and it is the next operation of whom
-- it is done for. An operation that a line's command does itself goes by what that command learned.
pub record IsRightlyDone (o : Operation) (before : List Happening) : Type 0 where
  pub whose : IsOf o.by o.instance o.site o.op before
  pub next : IsNextOf o.by o.instance o.site o.op before
  pub number : o.number ≡ length (log_of o.site before) + 1
  pub answer : o.answer ≡ answer_to (records_after o.site before) o.instance o.op
  pub effect : o.effect ≡ effect_of (records_after o.site before) (done.Op o.op) o.answer
  pub knows : Knowledge
  pub truth : IsTrueAt o.site (records_after o.site before) o.instance knows
  pub permits : Permits knows o.site o.op
  pub new : (image : ℕ) → is_drawn knows.drawn o.site image ≡ true → HadNoHeader o.site image before
  pub recalls : RecallsBy o.by o.site o.op knows before
  pub owned : IsOwnedStep (records_after o.site before) o.instance o.op o.answer

-- A walk of the line's command led it to where it wants its look under the lock, at the site.
pub record StandsAtLook (homes : ℕ → SiteId) (line : ℕ) (s : SiteId) (before : List Happening) : Type 0 where
  pub begun : IsOpen line before
  pub plan : Plan
  pub led : IsLedTo (seat_at homes begun.asked.who.session) begun.asked.command (steps_of line before) plan
  pub wants : is_look_at s (kind_asked plan) ≡ true

-- the line ends with the operation
abbrev pub EndsItsLine : (homes : ℕ → SiteId) → Operation → Reply → (before : List Happening) → Doer → Type 0
EndsItsLine homes o reply before (Itself line) = IsReplyMeant homes line reply before (Did o (Some reply) ∷ before)
EndsItsLine homes o reply before (OnWay line) = IsRefusedOnWay homes line reply o before
EndsItsLine homes o reply before by = ⊥

-- ---- what happens beside operations of instances

-- The store trimmed an object that was there.
pub record IsTrimmed (s : SiteId) (number image object : ℕ) (before : List Happening) : Type 0 where
  pub is_number : number ≡ length (log_of s before) + 1
  pub there : is_some ((records_after s before).objects image object) ≡ true

-- The watch that ended is that of the oldest instance of a session that watched.
pub record IsExpired (s : SiteId) (number image : ℕ) (who : Instance) (before : List Happening) : Type 0 where
  pub is_number : number ≡ length (log_of s before) + 1
  pub oldest : oldest_of who.session ((records_after s before).watchers image) ≡ Some who

-- The notice was posted, and the instance that it is for runs.
pub record IsDelivered (notice : Notice) (before : List Happening) : Type 0 where
  pub posted : notice_numbered notice.number (mail_of before) ≡ Some notice
  pub runs : IsRunning notice.to before

-- A line that is lost: its instance began it, it has no reply, and a walk of its command's plan led
-- somewhere.
pub record IsLostOf (homes : ℕ → SiteId) (who : Instance) (line : ℕ) (before : List Happening) : Type 0 where
  pub begun : IsOpen line before
  pub mine : begun.asked.who ≡ who
  pub plan : Plan
  pub led : IsLedTo (seat_at homes begun.asked.who.session) begun.asked.command (steps_of line before) plan

-- A walk of the line's command led it to where it asks for the operation.
pub record AsksFor (homes : ℕ → SiteId) (line : ℕ) (s : SiteId) (o : Op) (before : List Happening) : Type 0 where
  pub begun : IsOpen line before
  pub why : Reason
  pub next : Answer → Plan
  pub led : IsLedTo (seat_at homes begun.asked.who.session) begun.asked.command (steps_of line before)
      (Ask s why o next)

-- For whom a slot wants an operation when its instance is stopped: the command of a line that is
-- lost, which stands there, itself or on its way to the lock; or, at slot 0, the house.
abbrev pub IsWantedFor : (homes : ℕ → SiteId) → (lost : List ℕ) → (slot : ℕ) → SiteId → Op → Doer
    → (before : List Happening) → Type 0
IsWantedFor homes lost slot s o (Itself line) before = (is_line_among line lost ≡ true) × AsksFor homes line s o before
IsWantedFor homes lost slot s o (OnWay line) before = (is_line_among line lost ≡ true)
    × StandsAtLook homes line s before
IsWantedFor homes lost slot s o House before = slot ≡ 0
IsWantedFor homes lost slot s o (AfterStop there) before = ⊥

-- What a slot wanted then, which may still come: an operation of the instance, the next of whom it
-- is wanted for.
pub record IsStillSent (homes : ℕ → SiteId) (who : Instance) (lost : List ℕ) (slot : ℕ) (s : SiteId) (o : Op)
    (by : Doer) (before : List Happening) : Type 0 where
  pub wanted : IsWantedFor homes lost slot s o by before
  pub whose : IsOf by who s o before
  pub next : IsNextOf by who s o before

-- What a slot may want where its instance is stopped: to take a lock only after a watch that the
-- instance didn't end itself since; and to end its own watch of an image only where the lock isn't
-- its own, and no other slot wants to take that lock.
pub record SendsRightly (who : Instance) (wanted : List (Option (SiteId × Op))) (before : List Happening) : Type 0 where
  pub takes : (slot : ℕ) (s : SiteId) (o : Op) → held_in slot wanted ≡ Some (s, o) → TakesBehindWatch who s o before
  pub unowned : (slot : ℕ) (s : SiteId) (image : ℕ) → held_in slot wanted ≡ Some (s, unwatch image)
      → HasLock image who (records_after s before) → ⊥
  pub lone : (slot there : ℕ) (s : SiteId) (image : ℕ) → held_in slot wanted ≡ Some (s, unwatch image)
      → held_in there wanted ≡ Some (s, lock_take image) → ⊥

-- The lost lines are those of the instance that have no reply, in their order, and the instance
-- ran. What each slot wanted is kept, for one line or for the house, and twice for no line; and it
-- may still come.
pub record IsStop (homes : ℕ → SiteId) (who : Instance) (wanted : List (Option (SiteId × Op))) (lost : List ℕ)
    (before : List Happening) : Type 0 where
  pub runs : IsRunning who before
  pub each : (line : ℕ) → is_line_among line lost ≡ true → IsLostOf homes who line before
  pub all : (line : ℕ) → (begun : IsOpen line before) → begun.asked.who ≡ who → is_line_among line lost ≡ true
  pub ascends : IsStrictlyIncreasing lost
  pub by : (slot : ℕ) → Doer
  pub left : (slot : ℕ) (w : SiteId × Op) → held_in slot wanted ≡ Some w
      → IsStillSent homes who lost slot w.0 w.1 (by slot) before
  pub apart : (line slot there : ℕ) → is_for line (by slot) ≡ true → is_for line (by there) ≡ true → slot ≡ there
  pub sends : SendsRightly who wanted before

-- What a slot of the instance wanted when the session was stopped last, and for whom; and where a
-- lost line's command wanted it itself, this is what that command had learned by then.
pub record WasLeft (homes : ℕ → SiteId) (slot : ℕ) (who : Instance) (s : SiteId) (o : Op) (k : Knowledge)
    (before : List Happening) : Type 0 where
  -- what the slots wanted, which lines were lost, what was until the stop, and what came since
  pub wanted : List (Option (SiteId × Op))
  pub lost : List ℕ
  pub until : List Happening
  pub since : List Happening
  pub are : before ≡ since ++ Stopped who wanted lost ∷ until
  pub last : is_stopped_among who.session since ≡ false
  pub by : Doer
  pub left : IsStillSent homes who lost slot s o by until
  pub recalls : RecallsBy by s o k until

-- What was known where a slot wanted the operation permits it, and is still true where it comes.
pub record KnewTruly (homes : ℕ → SiteId) (slot : ℕ) (o : Operation) (before : List Happening) : Type 0 where
  pub knew : Knowledge
  pub left : WasLeft homes slot o.instance o.site o.op knew before
  pub permits : Permits knew o.site o.op
  pub truth : IsTrueAt o.site (records_after o.site before) o.instance knew

-- A session that doesn't run begins the life behind its latest.
pub record IsRestart (who : Instance) (before : List Happening) : Type 0 where
  pub latest : ℕ
  pub stopped : life_after who.session before ≡ record { number = latest; runs = false }
  pub next : who.life ≡ latest + 1

-- ---- all of it

-- An instance that runs begins a line that nobody began before.
pub record IsBegin (asked : Asked) (before : List Happening) : Type 0 where
  pub new : asked_by asked.line before ≡ None
  pub runs : IsRunning asked.who before

-- The operation ends no line: its own is open, and goes on. Where it comes late, what was known
-- where its slot wanted it is still true.
abbrev pub EndsNoLine : (homes : ℕ → SiteId) → Operation → Doer → (before : List Happening) → Type 0
EndsNoLine homes o (Itself line) before = IsOpen line before
EndsNoLine homes o (OnWay line) before = StandsAtLook homes line o.site before
EndsNoLine homes o House before = Unit {0}
EndsNoLine homes o (AfterStop slot) before = KnewTruly homes slot o before

abbrev pub IsDue : (homes : ℕ → SiteId) → Happening → (before : List Happening) → Type 0
IsDue homes (Began asked slot) before = IsBegin asked before
IsDue homes (Did o None) before = IsRightlyDone o before × EndsNoLine homes o o.by before
IsDue homes (Did o (Some reply)) before = IsRightlyDone o before × EndsItsLine homes o reply before o.by
IsDue homes (Refused s line reply) before = IsReplyMeant homes line reply before (Refused s line reply ∷ before)
IsDue homes (Trimmed s number image object) before = IsTrimmed s number image object before
IsDue homes (Expired s number image who) before = IsExpired s number image who before
IsDue homes (Heard notice) before = IsDelivered notice before
IsDue homes (Stopped who wanted lost) before = IsStop homes who wanted lost before
IsDue homes (Restarted who) before = IsRestart who before
IsDue homes h before = Unit {0}

-- The site's records stand for its flat site. No image has a parent, each has its object maps,
-- which cover its objects, a parent is less deep than its child, and headers are in form.
pub record IsStanding (s : SiteId) (run : List Happening) : Type 0 where
  pub stands : StandsFor [] (records_after s run) (flat_after s run)
  pub standalone : AreStandalone (records_after s run)
  pub mapped : AreMapped (records_after s run)
  pub ranked : AreRanked (records_after s run)
  pub form : AreInForm (records_after s run) (length (log_of s run))

-- so it is at both sites
abbrev pub AreStanding : List Happening → Type 0
AreStanding run = (s : SiteId) → IsStanding s run

-- each happening of the run was right where it happened
abbrev pub IsRight : (homes : ℕ → SiteId) → List Happening → Type 0
IsRight homes [] = AreStanding []
IsRight homes (h ∷ run) = AreStanding (h ∷ run) × IsDue homes h run × IsRight homes run

-- ---- what a slot holds

-- The request of a command is where a walk of the command's plan led it, by the operations that
-- were done for its line; and where the command changes no image that is there, it waits for
-- nothing and is in no line.
pub record IsUnderWay {R : Type 0} (stands : R → Standing) (seat : Seat) (who : Instance) (run : List Happening)
    (r : Running R) : Type 0 where
  pub begun : IsOpen r.line run
  pub mine : begun.asked.who ≡ who
  pub start : Standing
  pub plan : IsPlanFor seat begun.asked.command start
  pub labels : (stands r.request).labels ≡ start.labels
  pub feds : List Fed
  pub walk : IsWalk start.labels start.plan feds (steps_of r.line run) (stands r.request).plan
  pub given : AreGiven (steps_of r.line run)
  pub standalone : TellAllStandalone (steps_of r.line run)
  pub calm : joins_a_line (profile begun.asked.command) ≡ false → IsCalmRequest (stands r.request) × (r.place ≡ None)

-- a command that is refused before any operation
pub record IsRefusedAtOnce (seat : Seat) (who : Instance) (run : List Happening) (line : ℕ)
    (refusal : Refusal) : Type 0 where
  pub begun : IsOpen line run
  pub mine : begun.asked.who ≡ who
  pub start : Standing
  pub plan : IsPlanFor seat begun.asked.command start
  pub ends : start.plan ≡ refused refusal
  pub none : steps_of line run ≡ []

abbrev pub IsHeldRightly : {R : Type 0} → (stands : R → Standing) → Seat → Instance → List Happening
    → Option (Occupant R) → Type 0
IsHeldRightly stands seat who run None = Unit {0}
IsHeldRightly stands seat who run (Some (occupant.Refused line refusal)) = IsRefusedAtOnce seat who run line refusal
IsHeldRightly stands seat who run (Some (occupant.Running r)) = IsUnderWay stands seat who run r

-- the request in a slot knows what a walk of its command taught
pub record HasLearned {R : Type 0} (stands : R → Standing) (run : List Happening) (r : Running R)
    (k : Knowledge) : Type 0 where
  pub begun : IsOpen r.line run
  pub seat : Seat
  pub start : Standing
  pub plan : IsPlanFor seat begun.asked.command start
  pub labels : (stands r.request).labels ≡ start.labels
  pub feds : List Fed
  pub walk : IsWalk start.labels start.plan feds (steps_of r.line run) (stands r.request).plan
  pub known : k ≡ known_along start.labels nothing_known start.plan feds

abbrev pub HasLearnedIf : {R : Type 0} → (stands : R → Standing) → List Happening → Option (Running R) → Knowledge
    → Type 0
HasLearnedIf stands run None k = Unit {0}
HasLearnedIf stands run (Some r) k = HasLearned stands run r k

-- where the request in a slot stands in its line
abbrev pub place_of_request : {R : Type 0} → (slot : ℕ) → LinesView → Running R → Option PlaceInLine
place_of_request slot lines r = (course_of slot (track_of r lines)).place

-- The state of a slot agrees with the operations on its request's way; and where the request waits
-- for its look under the lock, it looks at the header of its line's image first.
abbrev pub KeepsToItsWay : {R : Type 0} → (stands : R → Standing) → List Happening → (slot : ℕ) → LinesView → Way
    → Option (Running R) → Type 0
KeepsToItsWay stands run slot lines w None = Unit {0}
KeepsToItsWay stands run slot lines w (Some r) =
    LooksAtItsOwn (place_of_request slot lines r) (stands r.request).plan
    × AgreesWithWay (stands r.request) (place_of_request slot lines r) w (way_of r.line run)

-- what holds of the client of a life that runs
pub record IsLiving {R : Type 0} (stands : R → Standing) (home : SiteId) (session : ℕ) (run : List Happening)
    (knows : (slot : ℕ) → Knowledge) (c : ClientView R) : Type 0 where
  pub whose : c.session.instance.session ≡ session
  pub runs : IsRunning c.session.instance run
  pub at_home : c.session.home ≡ home
  pub sound : IsSoundClient stands c
  pub know : AllKnow stands knows c.session
  pub held : (slot : ℕ) → IsHeldRightly stands (seat_of_home session home) c.session.instance run
      (held_in slot c.session.slots)
  pub ways : (slot : ℕ)
      → KeepsToItsWay stands run slot c.session.lines (slot_state slot c.slots).way (running_at slot c.session)
  pub learned : (slot : ℕ) → HasLearnedIf stands run (running_at slot c.session) (knows slot)
  pub releases : c.release ≡ release_of c.session.instance run
  pub watches : CountsItsWatches c.session.instance run c
  pub first : (slot : ℕ) → StandsFirstIf run slot c.session.lines (running_at slot c.session)

-- ---- what a stopped life may still send

-- The operation is of an earlier life. What that life knows is true and permits it; and if that
-- life knows a header, it has the lock of the image.
pub record MayStillCome (session : ℕ) (r : SiteId → Records) (x : Sent) (k : Knowledge) : Type 0 where
  pub whose : x.instance.session ≡ session
  pub permits : Permits k x.site x.op
  pub truth : (s : SiteId) → IsTrueAt s (r s) x.instance k
  pub locks : (s : SiteId) → KnowsByLock s (r s) x.instance k

-- ---- the world

-- what a slot of a session holds
abbrev pub held_of : {R : Type 0} → (slot : ℕ) → Option (SessionView R) → Option (Occupant R)
held_of slot None = None
held_of slot (Some c) = held_in slot c.slots

abbrev pub line_at : {R : Type 0} → (session slot : ℕ) → List (LivesView R) → Option ℕ
line_at session slot lives = script_line (held_of slot (session_in session lives))

-- a line is in one slot
abbrev pub AreLinesApart : {R : Type 0} → List (LivesView R) → Type 0
AreLinesApart lives = (line session slot other there : ℕ) → line_at session slot lives ≡ Some line
    → line_at other there lives ≡ Some line
    → (session ≡ other) × (slot ≡ there)

-- the line is in a slot of a session
pub record IsInSlot {R : Type 0} (line : ℕ) (lives : List (LivesView R)) : Type 0 where
  pub session : ℕ
  pub slot : ℕ
  pub is : line_at session slot lives ≡ Some line

-- each line that was begun, has no reply yet and isn't lost is in a slot of a session
abbrev pub AreInSlots : {R : Type 0} → List Happening → List (LivesView R) → Type 0
AreInSlots run lives = (line : ℕ) → IsOpen line run → IsInSlot line lives

-- Who may do something by what he knows: the request in a slot of a session that runs, or what a
-- slot of its stopped life may still send.
pub data Holder : Type 0 where
  InSlot : (session slot : ℕ) → Holder
  Sending : (session slot : ℕ) → Holder

-- two holders that aren't requests of one client
abbrev pub AreStrangers : Holder → Holder → Type 0
AreStrangers (InSlot one slot) (InSlot other there) = one ≢ other
AreStrangers (Sending one slot) (Sending other there) = (one ≢ other) ⊎ (slot ≢ there)
AreStrangers h g = Unit {0}

-- what the requests of a session's client know
abbrev pub known_in : (knows : Holder → Knowledge) → (session : ℕ) → (slot : ℕ) → Knowledge
known_in knows session slot = knows (InSlot session slot)

-- A session's lives are those of the run: which is the latest, and whether it runs. The one that
-- was stopped is an earlier one.
pub record AreLivesOf {R : Type 0} (run : List Happening) (home : SiteId) (session : ℕ) (l : LivesView R) : Type 0 where
  pub home_is : l.home ≡ home
  pub whose : l.latest.session ≡ session
  pub life : life_after session run ≡ record { number = l.latest.life; runs = is_some l.running }
  pub latest : (c : ClientView R) → l.running ≡ Some c → c.session.instance ≡ l.latest
  pub most : (v : LateView) → l.late ≡ Some v → v.instance.life ≤ l.latest.life
  pub older : (v : LateView) → l.late ≡ Some v → (c : ClientView R) → l.running ≡ Some c
      → v.instance.life < l.latest.life

-- What is promised of a world: all that happened to it is one run, which is right at each place.
-- Its calls, history, logs, records and mail are those of the run, and so are the lives of its
-- sessions.
pub record HasRun {R : Type 0} (w : WorldView R) : Type 0 where
  -- what was done, and the home of each session
  pub run : List Happening
  pub homes : (session : ℕ) → SiteId
  pub right : IsRight homes run
  pub calls : AreCalls w.calls run
  pub history : w.history ≡ history_of run
  pub ids : (s : SiteId) → (site_in s w.sites).id ≡ s
  pub logs : (s : SiteId) → (site_in s w.sites).log ≡ log_of s run
  pub records : (s : SiteId) → records_in s w.sites ≡ records_after s run
  pub mail : w.sites.mail ≡ mail_of run
  pub lives : (session : ℕ) (l : LivesView R) → lives_in session w.lives ≡ Some l
      → AreLivesOf run (homes session) session l
  -- where nobody was stopped or fenced, maps tell exactly what exists, but for what lines owe
  pub exact : HasNoHindrance run → (s : SiteId) → IsExactBut (IsOwed (owed_in run) s) (records_in s w.sites)
  -- the writes of each instance change an image in the order in which they found it
  pub order : KeepsOrder run

-- A world that has a run, and what else holds of it, so that the next event keeps it so.
pub record IsSoundWorld {R : Type 0} (stands : R → Standing) (w : WorldView R) : Type 0 where
  pub told : HasRun w
  -- who knows what
  pub who : Holder → Instance
  pub knows : Holder → Knowledge
  -- each site's headers are in form, no image has a parent, and a parent would be less deep
  pub form : (s : SiteId) → AreInForm (records_in s w.sites) (length (site_in s w.sites).log)
  pub standalone : (s : SiteId) → AreStandalone (records_in s w.sites)
  pub mapped : (s : SiteId) → AreMapped (records_in s w.sites)
  pub ranked : (s : SiteId) → AreRanked (records_in s w.sites)
  -- the requests of a life that runs are under way by what they know
  pub clients : (session : ℕ) (c : ClientView R) → client_in session w.lives ≡ Some c
      → IsLiving stands (told.homes session) session told.run (known_in knows session) c
  pub in_slots : (session slot : ℕ) (c : ClientView R) → client_in session w.lives ≡ Some c
      → who (InSlot session slot) ≡ c.session.instance
  pub nobody : (session : ℕ) → client_in session w.lives ≡ None → (slot : ℕ)
      → knows (InSlot session slot) ≡ nothing_known
  pub apart : AreLinesApart w.lives
  pub slots : AreInSlots told.run w.lives
  -- what a client knows, and counts of its locks, is true
  pub truth : (session : ℕ) (c : ClientView R) → client_in session w.lives ≡ Some c → (s : SiteId)
      → IsTrueOf s (records_in s w.sites) c.session.instance (known_in knows session) c
  -- it counts its locks by its own operations
  pub owns : (session : ℕ) (c : ClientView R) → client_in session w.lives ≡ Some c
      → CountsItsLocks c.session.instance told.run c
  -- what stopped lives may still send is what the run says, and may be done by what they knew
  pub late : (session slot : ℕ) → late_at session slot w.lives ≡ sent_after session slot told.run
  pub sending : (session slot : ℕ) (x : Sent) → late_at session slot w.lives ≡ Some x
      → (who (Sending session slot) ≡ x.instance) × MayStillCome session (λ s. records_in s w.sites) x
      (knows (Sending session slot))
  pub was_left : (session slot : ℕ) (x : Sent) → late_at session slot w.lives ≡ Some x
      → WasLeft told.homes slot x.instance x.site x.op (knows (Sending session slot)) told.run
  pub unsent : (session slot : ℕ) → late_at session slot w.lives ≡ None → knows (Sending session slot) ≡ nothing_known
  pub drops : (session slot there : ℕ) (x : Sent) → slot ≢ there → late_at session slot w.lives ≡ Some x → (r : Records)
      → MayAct x.site r (who (Sending session slot)) (who (Sending session there)) (knows (Sending session slot))
      (knows (Sending session there)) x.op
  -- an id that somebody drew had no header so far
  pub new : (h : Holder) (s : SiteId) (image : ℕ) → is_drawn (knows h).drawn s image ≡ true
      → HadNoHeader s image told.run
  -- what they read of snapshots is so where these are listed
  pub reads : (h : Holder) (s : SiteId) → HasReadTruly s (records_after s told.run) (flat_after s told.run) (knows h)
  -- no two that aren't of one client are in each other's way
  pub beside : (h g : Holder) → AreStrangers h g → (s : SiteId)
      → AreBeside s (records_in s w.sites) (who h) (who g) (knows h) (knows g)
  -- requests stand in the order in which they found their image
  pub in_order : (session : ℕ) (c : ClientView R) → client_in session w.lives ≡ Some c
      → AreWritesInOrder stands (told.homes session) c.session.instance told.run c.session

-- ---- a new world

abbrev pub first_life : (session : ℕ) → Instance
first_life session = record { session = session; life = 0 }

-- a session in its first life, at a home
pub record IsFirst {R : Type 0} (session : ℕ) (l : LivesView R) : Type 0 where
  pub latest : l.latest ≡ first_life session
  pub client : ClientView R
  pub runs : l.running ≡ Some client
  pub fresh : IsFresh (first_life session) l.home client
  pub late : l.late ≡ None

abbrev pub AreFirst : {R : Type 0} → List (LivesView R) → Type 0
AreFirst {R} lives = (session : ℕ) (l : LivesView R) → lives_in session lives ≡ Some l → IsFirst session l

abbrev pub IsAtHome : {R : Type 0} → Option SiteId → Option (LivesView R) → Type 0
IsAtHome None None = Unit {0}
IsAtHome (Some home) (Some l) = l.home ≡ home
IsAtHome _ _ = ⊥

-- one session for each home
abbrev pub AreAtHome : {R : Type 0} → (homes : List SiteId) → List (LivesView R) → Type 0
AreAtHome homes lives = (session : ℕ) → IsAtHome (slice_get homes session) (lives_in session lives)

-- empty sites, no notice, sessions in their first life without requests, and nothing happened
pub record IsNewWorld {R : Type 0} (w : WorldView R) : Type 0 where
  pub sites : (s : SiteId) → (site_in s w.sites).log ≡ []
  pub ids : (s : SiteId) → (site_in s w.sites).id ≡ s
  pub mail : w.sites.mail ≡ []
  pub lives : AreFirst w.lives
  pub history : w.history ≡ []
  pub calls : w.calls ≡ []

-- a world beside its table of the lines that were begun
pub record IsKeptWorld {R : Type 0} (stands : R → Standing) (b : BegunLines) (w : WorldView R) : Type 0 where
  pub sound : IsSoundWorld stands w
  pub lines : (line : ℕ) → has_line line b ≡ is_begun line w.history

-- A request does what the row of its command says: how it joins a line, which event it notes, and
-- which kinds of operation it asks for.
use Rattle.std.specs.Prelude.{◌≡◌, ◌⊎◌, Bool, true, false, List, [], ◌∷◌, Option, Some, None}
use Rattle.rbd_commands.specs.declared.command.Command.{Command}
use Rattle.rbd_kinds.specs.declared.answer.Answer.{Answer}
use Rattle.rbd_kinds.specs.declared.header_op.HeaderOp.TheVariants as header
use Rattle.rbd_kinds.specs.declared.journal.JournalEvent.{JournalEvent}
use Rattle.rbd_kinds.specs.declared.machine.Fed.{Fed}
use Rattle.rbd_kinds.specs.declared.notice.NoticeKind.TheVariants as notice
use Rattle.rbd_kinds.specs.declared.operation.Op.{Op}
use Rattle.rbd_kinds.specs.declared.operation.Op.TheVariants as op
use Rattle.rbd_kinds.specs.declared.operation_kind.OpKind.{OpKind}
use Rattle.rbd_kinds.specs.declared.operation_kind.OpKind.TheVariants as kind
use Rattle.rbd_kinds.specs.declared.reply.Reply.{Reply}
use Rattle.rbd_kinds.specs.declared.reply.Reply.TheVariants as reply
use Rattle.rbd_kinds.specs.declared.sharing.Sharing.{Sharing}
use Rattle.rbd_kinds.specs.OperationKind.{kind_of}
use Rattle.rbd_machine.specs.Label.{Label}
use Rattle.rbd_machine.specs.Path.{Answered, IsWalk}
use Rattle.rbd_machine.specs.Plan.{Plan, Ask, Await, Note, Return, Goto, Standing}
use Rattle.rbd_machine.specs.declared.reason.Reason.{Reason}
use Rattle.rbd_machine.specs.declared.reason.Reason.TheVariants as reason
use Rattle.rbd_machine.specs.declared.seat.Seat.{Seat}
use Rattle.rbd_machine.specs.Refused.{only_looks}
use Rattle.rbd_machine.specs.Wait.{Wait}
use Rattle.rbd_machine.specs.Wait as wait
use Rattle.rbd_catalog.specs.Plans.{IsPlanFor}
use Rattle.rbd_catalog.specs.Profile.{Profile, is_beside}

-- how far it has come
pub data Progress : Type 0 where
  -- it is in no line
  Outside : Progress
  -- it is in the line of its image, and looks around
  Joined : Progress
  -- it has waited for the image's lock
  Held : Progress
  -- its event is noted
  Noted : Progress
  -- its event counts as applied
  Applied : Progress

-- where a request is when it is done
abbrev pub last_by : (joins : Option Sharing) → Option JournalEvent → Progress
last_by joins (Some event) = Applied
last_by (Some sharing) None = Held
last_by None None = Outside

abbrev pub last : Profile → Progress
last p = last_by p.joins p.event

-- ---- operations

-- kinds that change what an event speaks of
abbrev pub is_recorded : OpKind → Bool
is_recorded kind.HeaderSetSize = true
is_recorded kind.HeaderSnapAdd = true
is_recorded kind.HeaderSnapRemove = true
is_recorded kind.HeaderRole = true
is_recorded kind.DataWrite = true
is_recorded kind.DataWriteFull = true
is_recorded kind.DataZero = true
is_recorded kind.DataEmpty = true
is_recorded kind.DataRemove = true
is_recorded k = false

-- A change that an event speaks of comes while the event is noted, and neither before nor behind.
abbrev pub MayRecord : Option JournalEvent → Progress → (recorded : Bool) → Type 0
MayRecord None at recorded = Unit {0}
MayRecord (Some event) at false = Unit {0}
MayRecord (Some event) at true = at ≡ Noted

-- It takes no lock, and is no step on a way to one. A header that it makes is nobody's.
abbrev pub TakesNoLock : Op → Type 0
TakesNoLock (op.Header image (header.Create view)) = view.owner ≡ None
TakesNoLock (op.Header image header.LockTake) = ⊥
TakesNoLock (op.Header image (header.LockBreak owner)) = ⊥
TakesNoLock (op.Header image (header.Notify notice.RequestLock)) = ⊥
TakesNoLock (op.BlockAdd instance) = ⊥
TakesNoLock o = Unit {0}

-- one of some kinds
abbrev pub IsAmong : OpKind → List OpKind → Type 0
IsAmong k [] = ⊥
IsAmong k (other ∷ kinds) = (k ≡ other) ⊎ IsAmong k kinds

-- each operation that was done is of one of some kinds
abbrev pub AreOfKinds : List OpKind → List Answered → Type 0
AreOfKinds kinds [] = Unit {0}
AreOfKinds kinds (step ∷ steps) = IsAmong (kind_of step.op) kinds × AreOfKinds kinds steps

-- none of them is of such a kind
abbrev pub AreNoneOf : (these : OpKind → Bool) → List Answered → Type 0
AreNoneOf these [] = Unit {0}
AreNoneOf these (step ∷ steps) = (these (kind_of step.op) ≡ false) × AreNoneOf these steps

-- Who joins a line only looks before it has waited for the lock.
abbrev pub MayGoFirst : (joins : Option Sharing) → Progress → Op → Type 0
MayGoFirst (Some sharing) Outside o = only_looks o ≡ true
MayGoFirst (Some sharing) Joined o = only_looks o ≡ true
MayGoFirst joins at o = Unit {0}

-- The operation is a step of the request's own, and one that its row lets it ask for there.
pub record MayAsk (p : Profile) (at : Progress) (why : Reason) (o : Op) : Type 0 where
  pub by_itself : why ≡ reason.Own
  pub kind : IsAmong (kind_of o) p.kinds
  pub recorded : MayRecord p.event at (is_recorded (kind_of o))
  pub own : TakesNoLock o
  pub first : MayGoFirst p.joins at o

-- ---- waits

abbrev pub WaitsAs : Profile → Progress → Wait → Type 0
WaitsAs p at (wait.Join site image sharing) = (at ≡ Outside) × (p.joins ≡ Some sharing)
WaitsAs p at (wait.Hold site image) = at ≡ Joined
WaitsAs p at (wait.Turn object) = (at ≡ Noted) × (is_beside p.joins ≡ true)
WaitsAs p at (wait.Applied site image) = at ≡ Noted
WaitsAs p at (wait.Leave site image) = ⊥

abbrev pub behind : Progress → Wait → Progress
behind at (wait.Join site image sharing) = Joined
behind at (wait.Hold site image) = Held
behind at (wait.Applied site image) = Applied
behind at w = at

-- who isn't refused has come to its last place
abbrev pub EndsAs : Profile → Progress → Reply → Type 0
EndsAs p at (reply.Refused r) = Unit {0}
EndsAs p at reply = at ≡ last p

-- ---- plans

-- It joins its image's line as its row says and stays in it to its end; it notes the row's event
-- before any change that this speaks of, and is done once it counts as applied; and it asks for
-- operations of the row's kinds alone. Where it begins again it has come nowhere.
abbrev pub Follows : Profile → Progress → Plan → Type 0
Follows p at (Ask site why o next) = MayAsk p at why o × ((answer : Answer) → Follows p at (next answer))
Follows p at (Await w next) = WaitsAs p at w × Follows p (behind at w) next
Follows p at (Note site image event next) = (at ≡ Held) × (p.event ≡ Some event) × Follows p Noted next
Follows p at (Return reply) = EndsAs p at reply
Follows p at (Goto label) = at ≡ Outside

pub record FollowsFrom (p : Profile) (s : Standing) : Type 0 where
  pub plan : Follows p Outside s.plan
  pub labels : (label : Label) → Follows p Outside (s.labels label)

-- ---- where requests come to

-- The request of a command of a session, whatever it is fed on its way, comes to stand at a plan.
pub record ComesTo (seat : Seat) (c : Command) (last : Plan) : Type 0 where
  pub standing : Standing
  pub is : IsPlanFor seat c standing
  pub feds : List Fed
  pub steps : List Answered
  pub walk : IsWalk standing.labels standing.plan feds steps last

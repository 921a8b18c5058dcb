-- How a request goes on in its session: up to its next operation, or to its end.
use Rattle.std.specs.Prelude.{◌≡◌, ◌⊎◌, ℕ, zero, suc, ◌≤◌, true, false, if◌then◌else◌, List, [], length, Option, Some, None}
use Rattle.std.specs.Option.{option_map}
use Rattle.rbd_machine.specs.Course.{due_of, looks_under_lock_at, objects_asked}
use Rattle.rbd_kinds.specs.declared.answer.Answer.{Answer}
use Rattle.rbd_kinds.specs.declared.answer.Answer.TheVariants as answer
use Rattle.rbd_kinds.specs.declared.header_op.HeaderOp.TheVariants as header
use Rattle.rbd_kinds.specs.declared.id.SiteId.{SiteId}
use Rattle.rbd_kinds.specs.declared.layout.Extent.{Extent}
use Rattle.rbd_kinds.specs.declared.machine.Fed.{Fed}
use Rattle.rbd_kinds.specs.declared.machine.Fed.TheVariants as fed
use Rattle.rbd_kinds.specs.declared.machine.Flow.{Flow}
use Rattle.rbd_kinds.specs.declared.machine.Flow.TheVariants as flow
use Rattle.rbd_kinds.specs.declared.machine.Want.{Want}
use Rattle.rbd_kinds.specs.declared.machine.Want.TheVariants as want
use Rattle.rbd_kinds.specs.declared.operation.Op.{Op}
use Rattle.rbd_kinds.specs.declared.operation.Op.TheVariants as op
use Rattle.rbd_kinds.specs.declared.reply.Reply.{Reply}
use Rattle.rbd_queue.specs.Line.{member_of, changed_member, passed}
use Rattle.rbd_machine.specs.Answers.{CanBeFed}
use Rattle.rbd_machine.specs.Label.{Label}
use Rattle.rbd_machine.specs.Plan.{Plan, Ask, Await, Note, Return, Standing, IsAsking, IsLive}
use Rattle.rbd_machine.specs.Ready.{IsReadyFor}
use Rattle.rbd_machine.specs.Wait.{want_of}
use Rattle.rbd_slots.specs.declared.running.Running.{Running}
use Rattle.rbd_slots.specs.Lines.{LinesView, lines_of, room_of, CanOpen}
use Rattle.rbd_slots.specs.OnTrack.{IsOnTrack, IsNowhereElse, MayTakeTickets, AreFair}
use Rattle.rbd_slots.specs.Waits.{waits}
use Rattle.rbd_slots.specs.Track.{Track, line_changed_at, course_of, answered_by, ended_by}

-- ---- where it is

abbrev pub objects_or_none : Option (List ℕ) → List ℕ
objects_or_none None = []
objects_or_none (Some objects) = objects

-- with the objects for which the request is due to take tickets
abbrev pub track_with : {R : Type 0} → Option (List ℕ) → Running R → LinesView → Track
track_with due r lines = record { place = r.place; turn = r.turn; due = objects_or_none due; lines = lines_of lines }

abbrev pub track_of : {R : Type 0} → Running R → LinesView → Track
track_of r lines = track_with None r lines

-- the same request of the same command, wherever it stands in its line
pub record IsSameRequest {R : Type 0} (old new : Running R) : Type 0 where
  pub request : new.request ≡ old.request
  pub line : new.line ≡ old.line
  pub extent : new.extent ≡ old.extent
  pub looked : new.looked ≡ old.looked

-- the same request where it stood, whatever it is ready for
pub record IsSameStand {R : Type 0} (stands : R → Standing) (old new : Running R) : Type 0 where
  pub same : stands new.request ≡ stands old.request
  pub line : new.line ≡ old.line
  pub extent : new.extent ≡ old.extent
  pub place : new.place ≡ old.place
  pub turn : new.turn ≡ old.turn

-- ---- its look under the lock

-- the image whose header an operation looks at
abbrev pub image_looked_at : Op → Option ℕ
image_looked_at (op.Header image header.Get) = Some image
image_looked_at o = None

-- the image whose header a request looks at next
abbrev pub look_of : Plan → Option (SiteId × ℕ)
look_of (Ask site why o next) = option_map (λ image. (site, image)) (image_looked_at o)
look_of plan = None

-- the objects for which the request is due to take tickets, once it is fed the answer to its look
-- under the lock
abbrev pub looked_for : (slot : ℕ) → Option Extent → Track → Plan → Fed → Option (List ℕ)
looked_for slot e t (Ask site why (op.Header image header.Get) next) (fed.Answer (answer.Header h)) =
    if looks_under_lock_at site image (course_of slot t).place
    then Some (due_of (course_of slot t).place (objects_asked h e)) else None
looked_for slot e t plan f = None

-- the request goes past its look under the lock, and is due to take tickets for these objects
abbrev pub past_its_look : (slot : ℕ) → Option (List ℕ) → Track → Track
past_its_look slot None t = t
past_its_look slot (Some objects) t =
    record t { due = objects; lines = line_changed_at t.place (changed_member slot passed) t.lines }

abbrev pub fed_by : (slot : ℕ) → Option Extent → Track → Plan → Fed → Track
fed_by slot e t (Ask site why o next) (fed.Answer a) = answered_by slot e t site o a
fed_by slot e t plan f = t

-- ---- what it wants beside operations

abbrev pub wait_wanted : Plan → Option Want
wait_wanted (Await w next) = Some (want_of w)
wait_wanted (Note site image event next) = Some (want.Note site image)
wait_wanted plan = None

abbrev pub wanted_by : Flow → Plan → Option Want
wanted_by (flow.Done reply) plan = None
wanted_by flow.More plan = wait_wanted plan

abbrev pub no_operation : Want → Option Want
no_operation (want.Op site kind) = None
no_operation w = Some w

-- a request that wants more hasn't ended
abbrev pub IsGoingOn : Flow → Plan → Type 0
IsGoingOn (flow.Done reply) plan = Unit {0}
IsGoingOn flow.More plan = IsLive plan

-- how many waits stand before the next operation of a plan
abbrev pub waits_before : Plan → ℕ
waits_before (Await w next) = suc (waits_before next)
waits_before (Note site image event next) = suc (waits_before next)
waits_before plan = zero

abbrev pub waits_left : Flow → Plan → ℕ
waits_left (flow.Done reply) plan = zero
waits_left flow.More plan = waits_before plan

abbrev pub IsJoin : Want → Type 0
IsJoin (want.Join site image sharing) = Unit {0}
IsJoin w = ⊥

-- A request joins a line where it is in none, and takes its tickets where it may.
abbrev pub MayPass : (slot : ℕ) → Track → Want → Type 0
MayPass slot t (want.Join site image sharing) = (t.place ≡ None) × (member_of slot (t.lines site image) ≡ None)
MayPass slot t (want.Note site image) = (t.due ≡ []) ⊎ MayTakeTickets slot t
MayPass slot t w = Unit {0}

-- ---- what it is fed

-- The request stands at an operation, doesn't wait, and is fed an answer to that operation for
-- which everything is ready.
pub record IsFedWell {R : Type 0} (stands : R → Standing) (is_ready : R → Answer → Type 0) (slot : ℕ) (r : Running R)
    (lines : LinesView) (f : Fed) : Type 0 where
  pub from : 1 ≤ slot
  pub to : slot ≤ 64
  pub asks : IsAsking (stands r.request).plan
  pub can : CanBeFed (stands r.request).plan f
  pub ready : IsReadyFor (is_ready r.request) f
  pub looked : r.looked ≡ looked_for slot r.extent (track_of r lines) (stands r.request).plan f
  pub goes : waits slot (track_of r lines) ≡ false
  pub opens : CanOpen lines
  pub room : length (objects_or_none r.looked) ≤ room_of r.place lines
  pub on : IsOnTrack slot r.extent true (stands r.request) (track_of r lines)
  pub fair : AreFair (lines_of lines)

-- ---- up to its next operation

-- what comes of a feeding: the reply where the plan ends there, and else the request stands at its
-- next operation
pub record HasEnded (slot : ℕ) (last : Reply) (t : Track) (result : Option Reply) (lines : LinesView) : Type 0 where
  pub reply : result ≡ Some last
  pub left : lines_of lines ≡ (ended_by slot t).lines
  pub nowhere : IsNowhereElse slot None (lines_of lines)

pub record GoesFurther {R : Type 0} (stands : R → Standing) (slot : ℕ) (to : Standing) (t : Track)
    (result : Option Reply) (old new : Running R) (lines : LinesView) : Type 0 where
  pub none : result ≡ None
  pub line : new.line ≡ old.line
  pub extent : new.extent ≡ old.extent
  pub looked : new.looked ≡ None
  pub request : stands new.request ≡ to
  pub track : track_of new lines ≡ t
  pub asks : IsAsking to.plan

abbrev pub AdvancesTo : {R : Type 0} → (stands : R → Standing) → (slot : ℕ) → (labels : Label → Plan) → Plan → Track
    → Option Reply → (old new : Running R) → LinesView → Type 0
AdvancesTo stands slot labels (Return reply) t result old new lines = HasEnded slot reply t result lines
AdvancesTo stands slot labels plan t result old new lines =
    GoesFurther stands slot (record { labels = labels; plan = plan }) t result old new lines

-- what a feeding leaves of a request that hasn't ended keeps to its line
abbrev pub StaysOnTrack : {R : Type 0} → (stands : R → Standing) → (slot : ℕ) → Option Reply → Running R → LinesView
    → Type 0
StaysOnTrack stands slot None r lines = IsOnTrack slot r.extent true (stands r.request) (track_of r lines)
StaysOnTrack stands slot (Some reply) r lines = Unit {0}

-- What contracts see of a session, and what holds of each.
use Rattle.std.specs.Prelude.{◌≡◌, ℕ, ◌<◌, ◌≤◌, ◌&&◌, nat_lt, cond, if◌then◌else◌, Bool, true, false, List, length, slice_index_or, Option, Some, None, IsSome}
use Rattle.std.specs.Option.{option_map}
use Rattle.rbd_machine.specs.declared.stage.Stage.TheVariants as stage
use Rattle.rbd_kinds.specs.declared.answer.Answer.{Answer}
use Rattle.rbd_kinds.specs.declared.id.Instance.{Instance}
use Rattle.rbd_kinds.specs.declared.id.SiteId.{SiteId}
use Rattle.rbd_kinds.specs.declared.layout.Extent.{Extent}
use Rattle.rbd_kinds.specs.declared.machine.Fed.{Fed}
use Rattle.rbd_kinds.specs.declared.operation.Op.{Op}
use Rattle.rbd_kinds.specs.declared.operation_kind.OpKind.{OpKind}
use Rattle.rbd_kinds.specs.declared.operation_kind.OpKind.TheVariants as kind
use Rattle.rbd_commands.specs.declared.refusal.Refusal.{Refusal}
use Rattle.rbd_kinds.specs.declared.reply.Reply.{Reply}
use Rattle.rbd_kinds.specs.declared.reply.Reply.TheVariants as reply
use Rattle.rbd_kinds.specs.OperationKind.{kind_of}
use Rattle.rbd_queue.specs.Line.{Member, member_of, may_pass}
use Rattle.rbd_machine.specs.Answers.{CanBeFed}
use Rattle.rbd_machine.specs.Knowledge.{same_site}
use Rattle.rbd_machine.specs.Path.{at_operation}
use Rattle.rbd_machine.specs.Plan.{Plan, Ask, Standing, IsAsking, plan_after}
use Rattle.rbd_machine.specs.Ready.{IsReadyFor}
use Rattle.rbd_machine.specs.Steps.{refused}
use Rattle.rbd_machine.specs.declared.seat.Seat.{Seat}
use Rattle.rbd_slots.specs.declared.running.Occupant.{Occupant}
use Rattle.rbd_slots.specs.declared.running.Occupant.TheVariants as occupant
use Rattle.rbd_slots.specs.declared.running.Running.{Running}
use Rattle.rbd_kinds.specs.declared.image_at.ImageAt.{ImageAt}
use Rattle.rbd_slots.specs.Advance.{objects_or_none, track_of, looked_for, fed_by, IsSameStand, IsFedWell, AdvancesTo}
use Rattle.rbd_slots.specs.Lines.{AreUsed, LinesView, lines_of, room_of, CanOpen}
use Rattle.rbd_slots.specs.OnTrack.{IsOnTrack, AreFair}
use Rattle.rbd_slots.specs.Track.{run}
use Rattle.rbd_slots.specs.Waits.{waits, waits_at}

-- Slot n holds what stands at n, and nothing is ever held at 0. The lowest free slot is 65 where 64
-- are held.
pub record SessionView (R : Type 0) : Type 0 where
  pub instance : Instance
  pub home : SiteId
  pub slots : List (Option (Occupant R))
  pub lowest : ℕ
  pub lines : LinesView

-- what stands at a place, and nothing past the end
abbrev pub held_in : {T : Type 0} → (slot : ℕ) → List (Option T) → Option T
held_in slot slots = slice_index_or slots slot None

-- Each slot below the lowest free one is held, and that one is free.
pub record IsLowest {T : Type 0} (lowest : ℕ) (slots : List (Option T)) : Type 0 where
  pub some : 1 ≤ lowest
  pub most : lowest ≤ 65
  pub below : (slot : ℕ) → 1 ≤ slot → slot < lowest → IsSome (held_in slot slots)
  pub free : held_in lowest slots ≡ None

-- the lowest free slot, where another one may be free now
abbrev pub lowest_after : (lowest slot : ℕ) → (is_free : Bool) → ℕ
lowest_after lowest slot is_free = cond (is_free && nat_lt slot lowest) slot lowest

abbrev pub free_slot : (lowest : ℕ) → Option ℕ
free_slot lowest = cond (nat_lt 64 lowest) None (Some lowest)

module _ {R : Type 0} where
  abbrev pub running_in : Option (Occupant R) → Option (Running R)
  running_in (Some (occupant.Running r)) = Some r
  running_in o = None

  -- the request that runs in a slot
  abbrev pub running_at : (slot : ℕ) → SessionView R → Option (Running R)
  running_at slot s = running_in (held_in slot s.slots)

  -- A request that runs keeps to its line and stands at an operation, and who doesn't run is in no
  -- line. A line in which nobody is isn't held.
  pub record IsSoundSession (stands : R → Standing) (s : SessionView R) : Type 0 where
    pub slots : length s.slots ≡ 65
    pub zero : held_in 0 s.slots ≡ None
    pub lowest : IsLowest s.lowest s.slots
    pub runs : (slot : ℕ) (r : Running R) → running_at slot s ≡ Some r
        → IsOnTrack slot r.extent true (stands r.request) (track_of r s.lines)
    pub asks : (slot : ℕ) (r : Running R) → running_at slot s ≡ Some r → IsAsking (stands r.request).plan
    pub others : (slot : ℕ) → running_at slot s ≡ None → (site : SiteId) (image : ℕ)
        → member_of slot (lines_of s.lines site image) ≡ None
    pub fair : AreFair (lines_of s.lines)
    pub used : AreUsed s.lines.entries

-- the script's line of the request in a slot
abbrev pub script_line : {R : Type 0} → Option (Occupant R) → Option ℕ
script_line None = None
script_line (Some (occupant.Refused line refusal)) = Some line
script_line (Some (occupant.Running r)) = Some r.line

-- the seat of a session's requests
abbrev pub seat_of : {R : Type 0} → SessionView R → Seat
seat_of s = record { session = s.instance.session; home = s.home }

-- ---- what a request is in its slot at first

pub record BeginsAt {R W : Type 0} (stands : R → Standing) (stands_for : Seat → W → Standing → Type 0)
    (extent_for : W → Option Extent) (seat : Seat) (line : ℕ) (work : W) (r : Running R) : Type 0 where
  pub is_line : r.line ≡ line
  pub stands_there : stands_for seat work (stands r.request)
  pub asks : IsAsking (stands r.request).plan
  pub extent : r.extent ≡ extent_for work
  pub place : r.place ≡ None
  pub turn : r.turn ≡ None

-- it is refused where each request of its work has ended so, or runs from where it is to stand
abbrev pub IsNewcomer : {R W : Type 0} → (stands : R → Standing) → (stands_for : Seat → W → Standing → Type 0)
    → (extent_for : W → Option Extent) → Seat → (line : ℕ) → W → Option (Occupant R) → Type 0
IsNewcomer stands stands_for extent_for seat line work (Some (occupant.Refused number refusal)) = (number ≡ line)
    × ((s : Standing) → stands_for seat work s → s.plan ≡ refused refusal)
IsNewcomer stands stands_for extent_for seat line work (Some (occupant.Running r)) =
    BeginsAt stands stands_for extent_for seat line work r
IsNewcomer stands stands_for extent_for seat line work None = ⊥

-- ---- what the request in a slot wants, where it may go on

abbrev pub going_in : {R : Type 0} → (slot : ℕ) → Option (Occupant R) → LinesView → Option (Running R)
going_in slot (Some (occupant.Running r)) lines = cond (waits slot (track_of r lines)) None (Some r)
going_in slot o lines = None

abbrev pub kind_asked : Plan → Option (SiteId × OpKind)
kind_asked (Ask site why o next) = Some (site, kind_of o)
kind_asked plan = None

abbrev pub op_asked : Plan → Option (SiteId × Op)
op_asked (Ask site why o next) = Some (site, o)
op_asked plan = None

abbrev pub of_going : {R T : Type 0} → (stands : R → Standing) → (asked : Plan → Option T) → Option (Running R)
    → Option T
of_going stands asked None = None
of_going stands asked (Some r) = asked (stands r.request).plan

-- None where the slot is free, waits, or holds a request that is refused before any operation, and
-- nowhere else
abbrev pub kind_at : {R : Type 0} → (stands : R → Standing) → (slot : ℕ) → SessionView R → Option (SiteId × OpKind)
kind_at stands slot s = of_going stands kind_asked (going_in slot (held_in slot s.slots) s.lines)

abbrev pub op_at : {R : Type 0} → (stands : R → Standing) → (slot : ℕ) → SessionView R → Option (SiteId × Op)
op_at stands slot s = of_going stands op_asked (going_in slot (held_in slot s.slots) s.lines)

-- ---- at whose look under the lock the request in a slot stands

-- whether the request wants a look at a header of the site
abbrev pub is_look_at : SiteId → Option (SiteId × OpKind) → Bool
is_look_at site (Some (at, kind.HeaderGet)) = same_site site at
is_look_at site wanted = false

-- The image at whose look under the lock a request stands: it is in the image's line, waits there
-- for that look, and its next operation is a look at a header of the image's site.
abbrev pub look_under_lock_of : (slot : ℕ) → Option (SiteId × OpKind) → Option ImageAt → LinesView → Option ImageAt
look_under_lock_of slot wanted None lines = None
look_under_lock_of slot wanted (Some p) lines =
    if is_look_at p.site wanted && waits_at
    (option_map (λ (m : Member). m.stage) (member_of slot (lines_of lines p.site p.image))) then Some p else None

abbrev pub look_under_lock_in : {R : Type 0} → (stands : R → Standing) → (slot : ℕ) → LinesView → Option (Running R)
    → Option ImageAt
look_under_lock_in stands slot lines None = None
look_under_lock_in stands slot lines (Some r) =
    look_under_lock_of slot (kind_asked (stands r.request).plan) r.place lines

-- the image at whose look under the lock the request in a slot stands, where it may go on
abbrev pub look_under_lock_at : {R : Type 0} → (stands : R → Standing) → (slot : ℕ) → SessionView R → Option ImageAt
look_under_lock_at stands slot s = look_under_lock_in stands slot s.lines (going_in slot (held_in slot s.slots) s.lines)

-- The request that runs in a slot is in the line of an image, waits there for its look under the
-- lock, and may go past it.
pub record IsAtLookUnderLock {R : Type 0} (slot : ℕ) (p : ImageAt) (s : SessionView R) : Type 0 where
  pub running : Running R
  pub member : Member
  pub runs : running_at slot s ≡ Some running
  pub place : running.place ≡ Some p
  pub found : member_of slot (lines_of s.lines p.site p.image) ≡ Some member
  pub awaits : member.stage ≡ stage.Waiting
  pub goes : waits slot (track_of running s.lines) ≡ false
  pub may : may_pass slot (lines_of s.lines p.site p.image) ≡ true

-- why the request in a slot is refused before any operation
abbrev pub refusal_in : {R : Type 0} → Option (Occupant R) → Option Refusal
refusal_in (Some (occupant.Refused line refusal)) = Some refusal
refusal_in o = None

abbrev pub reply_of : Option Refusal → Option Reply
reply_of None = None
reply_of (Some refusal) = Some (reply.Refused refusal)

-- ---- what it is fed

-- what holds of the request that runs in a slot
abbrev pub OfRunning : {R : Type 0} → (Running R → Type 0) → Option (Occupant R) → Type 0
OfRunning P (Some (occupant.Running r)) = P r
OfRunning P o = ⊥

-- the request may go on, and is fed an answer that its operation can give
pub record IsAnswered {R : Type 0} (stands : R → Standing) (slot : ℕ) (lines : LinesView) (f : Fed)
    (r : Running R) : Type 0 where
  pub goes : waits slot (track_of r lines) ≡ false
  pub can : CanBeFed (stands r.request).plan f

-- a slot is as it was, but for what its request is ready for
abbrev pub IsAlikeIn : {R : Type 0} → (stands : R → Standing) → (old new : Option (Occupant R)) → Type 0
IsAlikeIn stands (Some (occupant.Running r)) (Some (occupant.Running q)) = IsSameStand stands r q
IsAlikeIn stands old new = new ≡ old

-- the whole session is as it was, but for what its requests are ready for
pub record IsAlike {R : Type 0} (stands : R → Standing) (old new : SessionView R) : Type 0 where
  pub instance : new.instance ≡ old.instance
  pub home : new.home ≡ old.home
  pub lowest : new.lowest ≡ old.lowest
  pub slots : (slot : ℕ) → IsAlikeIn stands (held_in slot old.slots) (held_in slot new.slots)
  pub lines : lines_of new.lines ≡ lines_of old.lines

-- everything is ready for an answer
abbrev pub IsReadied : {R : Type 0} → (stands : R → Standing) → (is_ready : R → Answer → Type 0) → (slot : ℕ) → Fed
    → SessionView R → Type 0
IsReadied stands is_ready slot f s = OfRunning (λ r. IsFedWell stands is_ready slot r s.lines f) (held_in slot s.slots)

-- What a feeding leaves of the request and its slot: the request stands at its next operation, past
-- what it waited for before; or it has ended with its reply, and the slot is free.
abbrev pub ComesToIn : {R : Type 0} → (stands : R → Standing) → (slot : ℕ) → LinesView → Fed → Option Reply
    → (r : Running R) → (new : Option (Occupant R)) → LinesView → Type 0
ComesToIn stands slot lines f result r (Some (occupant.Running q)) after =
    (result ≡ None) × AdvancesTo stands slot (stands r.request).labels
    (at_operation (stands r.request).labels (plan_after (stands r.request).plan f))
    (run slot (plan_after (stands r.request).plan f)
    (fed_by slot r.extent (track_of r lines) (stands r.request).plan f)) result r q after
ComesToIn stands slot lines f result r None after =
    IsSome result × AdvancesTo stands slot (stands r.request).labels
    (at_operation (stands r.request).labels (plan_after (stands r.request).plan f))
    (run slot (plan_after (stands r.request).plan f)
    (fed_by slot r.extent (track_of r lines) (stands r.request).plan f)) result r r after
ComesToIn stands slot lines f result r (Some (occupant.Refused line refusal)) after = ⊥

abbrev pub IsFed : {R : Type 0} → (stands : R → Standing) → (slot : ℕ) → Fed → Option Reply → (old new : SessionView R)
    → Type 0
IsFed stands slot f result old new =
    OfRunning (λ r. ComesToIn stands slot old.lines f result r (held_in slot new.slots) new.lines)
    (held_in slot old.slots)

-- the request in a slot keeps to its line, where one runs
abbrev pub KeepsToItsLine : {R : Type 0} → (stands : R → Standing) → (slot : ℕ) → Option (Occupant R) → LinesView
    → Type 0
KeepsToItsLine stands slot (Some (occupant.Running r)) lines =
    IsOnTrack slot r.extent true (stands r.request) (track_of r lines)
KeepsToItsLine stands slot o lines = Unit {0}

-- a request that was made ready for an answer
pub record IsPrepared {R : Type 0} (stands : R → Standing) (is_ready : R → Answer → Type 0) (slot : ℕ) (old : Running R)
    (before : LinesView) (f : Fed) (new : Running R) (after : LinesView) : Type 0 where
  pub ready : IsReadyFor (is_ready new.request) f
  pub looked : new.looked ≡ looked_for slot old.extent (track_of old before) (stands old.request).plan f
  pub opens : CanOpen after
  pub room : length (objects_or_none new.looked) ≤ room_of new.place after

-- What the requests of a session know.
use Rattle.std.specs.Prelude.{◌≡◌, ◌≢◌, ℕ, ◌==◌, if◌then◌else◌, true, false, Option, Some, None, IsSome}
use Rattle.rbd_kinds.specs.declared.id.SiteId.{SiteId}
use Rattle.rbd_kinds.specs.declared.machine.Fed.{Fed}
use Rattle.rbd_kinds.specs.declared.reply.Reply.{Reply}
use Rattle.rbd_kinds.specs.declared.sharing.Sharing.TheVariants.{Flatten}
use Rattle.rbd_queue.specs.Line.{has_turn}
use Rattle.rbd_machine.specs.Knowledge.{Knowledge, nothing_known, known_after_wait}
use Rattle.rbd_machine.specs.Label.{Label, IsFit}
use Rattle.rbd_machine.specs.Lawful.{IsLawful, known_after}
use Rattle.rbd_machine.specs.Plan.{Plan, Await, Note, Standing, plan_after}
use Rattle.rbd_interference.specs.Truth.{is_alone_on, known_header, sharing_on}
use Rattle.rbd_interference.specs.Turns.{KnowsInTurn, KnowsOf}
use Rattle.rbd_slots.specs.declared.running.Running.{Running}
use Rattle.rbd_slots.specs.Advance.{track_of}
use Rattle.rbd_slots.specs.Lines.{LinesView, lines_of}
use Rattle.rbd_slots.specs.Session.{SessionView, running_at}
use Rattle.rbd_slots.specs.Track.{Lines, course_of}
use Rattle.rbd_knowledge.specs.Tied.{IsTied}

-- what is known at the plan's next operation, where all that it waits for before has come
abbrev pub known_at_operation : Knowledge → Plan → Knowledge
known_at_operation k (Await wait next) = known_at_operation (known_after_wait k wait) next
known_at_operation k (Note site image event next) = known_at_operation k next
known_at_operation k plan = k

-- what is known at the plan's next operation, after what it was fed
abbrev pub known_behind : Knowledge → Plan → Fed → Knowledge
known_behind k plan f = known_at_operation (known_after k plan f) (plan_after plan f)

-- a request that has ended knows nothing any more
abbrev pub unless_ended : Option Reply → Knowledge → Knowledge
unless_ended None k = k
unless_ended (Some reply) k = nothing_known

-- what the slots know once one of them was fed
abbrev pub knows_after : (knows : (slot : ℕ) → Knowledge) → (slot : ℕ) → Option Reply → Plan → Fed → (other : ℕ)
    → Knowledge
knows_after knows slot result plan f other = if other == slot
    then unless_ended result (known_behind (knows slot) plan f) else knows other

-- Of an object of an image that others change too, a request that takes turns knows only in its
-- turn there, and that turn is its own.
abbrev pub HasItsTurns : (slot : ℕ) → Knowledge → Lines → Type 0
HasItsTurns slot k lines = (site : SiteId) (image object : ℕ)
    → IsSome (known_header k site image) → is_alone_on k site image ≡ false → sharing_on k site image ≢ Flatten
    → KnowsOf k site image object → has_turn slot object (lines site image) ≡ true

-- each other slot that has its turn at an object keeps it
abbrev pub KeepsTurns : (slot : ℕ) → (old new : Lines) → Type 0
KeepsTurns slot old new = (other : ℕ) → other ≢ slot → (site : SiteId) (image object : ℕ)
    → has_turn other object (old site image) ≡ true → has_turn other object (new site image) ≡ true

module _ {R : Type 0} (stands : R → Standing) where
  -- A request may know this: by it the request asks only for what it may, and it agrees with where
  -- the request stands in its line and with its turns.
  pub record KnowsBy (slot : ℕ) (r : Running R) (lines : LinesView) (k : Knowledge) : Type 0 where
    pub known_at : Label → Knowledge
    pub lawful : IsLawful known_at k (stands r.request).plan
    pub labels : (label : Label) → IsFit label → IsLawful known_at (known_at label) ((stands r.request).labels label)
    pub tied : IsTied k (course_of slot (track_of r lines))
    pub in_turn : KnowsInTurn k
    pub has_turn : HasItsTurns slot k (lines_of lines)

  -- an empty slot knows nothing
  abbrev pub KnowsIn : (slot : ℕ) → Option (Running R) → LinesView → Knowledge → Type 0
  KnowsIn slot None lines k = k ≡ nothing_known
  KnowsIn slot (Some r) lines k = KnowsBy slot r lines k

  -- each slot's request knows what is said of it
  abbrev pub AllKnow : (knows : (slot : ℕ) → Knowledge) → SessionView R → Type 0
  AllKnow knows s = (slot : ℕ) → KnowsIn slot (running_at slot s) s.lines (knows slot)

-- The schedule of a script: which event comes next, after these events and what came of them.
use Rattle.std.specs.Prelude.{◌≡◌, ◌⊎◌, ℕ, ◌+◌, ◌*◌, ◌^◌, ◌<◌, ◌≤◌, ◌||◌, not, if◌then◌else◌, Bool, true, false, List, length, take, is_some, slice_get, Some}
use Rattle.rbd_kinds.specs.declared.id.SiteId.{SiteId}
use Rattle.rbd_kinds.specs.declared.operation_kind.OpKind.{OpKind}
use Rattle.rbd_machine.specs.Plan.{Standing}
use Rattle.rbd_script.specs.declared.script.Line.{Line}
use Rattle.rbd_script.specs.declared.script.Said.{Said}
use Rattle.rbd_script.specs.declared.script.Said.TheVariants as said
use Rattle.rbd_script.specs.declared.script.Script.{Script}
use Rattle.rbd_world.specs.declared.event.Event.{Event}
use Rattle.rbd_world.specs.declared.event.Event.TheVariants as event
use Rattle.rbd_world.specs.declared.event.Outcome.{Outcome}
use Rattle.rbd_world.specs.declared.event.Outcome.TheVariants as outcome
use Rattle.rbd_world.specs.Sound.{line_at}
use Rattle.rbd_world.specs.Step.{IsBuiltEvent, IsWorldStep}
use Rattle.rbd_world.specs.World.{WorldView, client_in, kind_in}
use Rattle.rbd_schedule.specs.declared.given.Given.{Given}
use Rattle.rbd_schedule.specs.Deeds.{Deeds}
use Rattle.rbd_schedule.specs.Given.{commands_of, given_in, is_lost_by}
use Rattle.rbd_schedule.specs.Notices.{is_notice_due, runs}
use Rattle.rbd_schedule.specs.Slots.{AreClientsCounted}
use Rattle.rbd_schedule.specs.Starts.{IsIdle, IsQuiet, to_start}

-- whether something went on: a step happened that doesn't only ask again for a lock
abbrev pub goes_on : Outcome → Bool
goes_on (outcome.Step site number waiting replied) = not waiting
goes_on result = false

-- a world in a round, and whether a request went on in it so far
pub record Pace (R : Type 0) : Type 0 where
  pub world : WorldView R
  pub went_on : Bool

-- a world between two rounds, and how many were idle in a row
pub record Calm (R : Type 0) : Type 0 where
  pub world : WorldView R
  pub idle : ℕ

-- the rounds that close a script, for its number of commands: more than any machine makes
abbrev pub closing_rounds : (commands : ℕ) → ℕ
closing_rounds commands = 2 ^ 60 * (commands + 1)

-- how many polls an `@until` makes at most
abbrev pub most_polls : ℕ
most_polls = 4096

-- how many rounds that are idle in a row end a settle
abbrev pub most_idle : ℕ
most_idle = 8

-- ---- lines that are one event

abbrev pub IsOneEventAt : Said → Type 0
IsOneEventAt (said.Expire session site image) = Unit {0}
IsOneEventAt (said.Late session slot) = Unit {0}
IsOneEventAt (said.Trim site image object) = Unit {0}
IsOneEventAt s = ⊥

abbrev pub IsOneEvent : Said → Type 0
IsOneEvent (said.Deliver number) = Unit {0}
IsOneEvent (said.Stop session) = Unit {0}
IsOneEvent (said.Restart session) = Unit {0}
IsOneEvent s = IsOneEventAt s

-- ---- slots

abbrev pub is_held : {R : Type 0} → (session slot : ℕ) → WorldView R → Bool
is_held session slot w = is_some (line_at session slot w.lives)

-- the slot wants an operation of the kind
pub record WantsKind {R : Type 0} (stands : R → Standing) (session slot : ℕ) (kind : OpKind)
    (w : WorldView R) : Type 0 where
  pub site : SiteId
  pub wants : kind_in stands slot (client_in session w.lives) ≡ Some (site, kind)

-- `given` are the commands of the lines so far, for each session
module _ {R : Type 0} (stands : R → Standing) (given : (session : ℕ) → List Given) where
  -- ---- one event

  -- The earliest command of a session that may start is submitted: one that is built. The clients
  -- that the step leaves are counted. By that alone it is told which slot is the lowest free one
  -- then.
  pub record Submits (session : ℕ) (old new : WorldView R) : Type 0 where
    pub command : Given
    pub may : to_start (given session) old session ≡ Some command
    pub built : IsBuiltEvent command.submission
    pub result : Outcome
    pub step : IsWorldStep stands command.submission old result new
    pub counted : AreClientsCounted new

  -- The command that starts next: no session that was declared before its own has one that may.
  pub record Starts (old new : WorldView R) : Type 0 where
    pub session : ℕ
    pub before : (other : ℕ) → other < session → IsIdle given old other
    pub submits : Submits session old new

  -- one command after another, until none may start
  pub record StartsAll (old new : WorldView R) : Type 0 where
    pub count : ℕ
    pub starts : Deeds (λ k. Starts) count old new
    pub quiet : IsQuiet given new

  -- An event comes, with what came of it, and leaves clients that are counted; and then all that
  -- may start.
  pub record Comes (e : Event) (result : Outcome) (old new : WorldView R) : Type 0 where
    pub between : WorldView R
    pub step : IsWorldStep stands e old result between
    pub counted : AreClientsCounted between
    pub starts : StartsAll between new

  -- the event comes, with any outcome
  pub record Happens (e : Event) (old new : WorldView R) : Type 0 where
    pub result : Outcome
    pub comes : Comes e result old new

  -- ---- polls

  abbrev pub Polls : (session slot : ℕ) → (old new : WorldView R) → Type 0
  Polls session slot old new = Happens (event.Poll session slot) old new

  -- a poll of a slot that doesn't want an operation of the kind yet
  pub record PollsBefore (session slot : ℕ) (kind : OpKind) (old new : WorldView R) : Type 0 where
    pub not_yet : ¬ (WantsKind stands session slot kind old)
    pub polls : Polls session slot old new

  -- polls of a slot until it wants an operation of the kind, or as many polls as may be made; it is
  -- looked at before each
  pub record PollsUntil (session slot : ℕ) (kind : OpKind) (old new : WorldView R) : Type 0 where
    pub count : ℕ
    pub most : count ≤ most_polls
    pub polls : Deeds (λ k. PollsBefore session slot kind) count old new
    pub ends : (count ≡ most_polls) ⊎ WantsKind stands session slot kind new

  -- ---- rounds

  -- a poll in a round
  pub record PollsIn (session slot : ℕ) (old new : Pace R) : Type 0 where
    pub result : Outcome
    pub comes : Comes (event.Poll session slot) result old.world new.world
    pub pace : new.went_on ≡ (old.went_on || goes_on result)

  abbrev pub PollsWhere : (is_held : Bool) → (session slot : ℕ) → (old new : Pace R) → Type 0
  PollsWhere true session slot old new = PollsIn session slot old new
  PollsWhere false session slot old new = new ≡ old

  -- slot 0 of a session is polled, and then each slot that is held at this point, in ascending
  -- order
  pub record PollsAll (session : ℕ) (old new : Pace R) : Type 0 where
    pub point : Pace R
    pub slot_0 : PollsIn session 0 old point
    pub held : Deeds (λ k. PollsWhere (is_held session (k + 1) point.world) session (k + 1)) 64 point new

  abbrev pub DeliversWhere : (is_due : Bool) → (number : ℕ) → (old new : WorldView R) → Type 0
  DeliversWhere true number old new = Happens (event.Deliver number) old new
  DeliversWhere false number old new = new ≡ old

  -- `lost` are the notices that no settle delivers
  module _ (lost : (number : ℕ) → Bool) where
    -- The turn of a session that runs: each notice that is due to it when its turn begins is
    -- delivered, in ascending order, and then its slots are polled. Notices are numbered from 1.
    pub record SessionTurn (session : ℕ) (old new : Pace R) : Type 0 where
      pub told : WorldView R
      pub notices : Deeds (λ k. DeliversWhere (is_notice_due lost session (k + 1) old.world) (k + 1))
          (length old.world.sites.mail) old.world told
      pub polls : PollsAll session (record { world = told; went_on = old.went_on }) new

    -- the turn of a session that runs; a stopped session has none
    abbrev pub TurnWhere : (runs : Bool) → (session : ℕ) → (old new : Pace R) → Type 0
    TurnWhere true session old new = SessionTurn session old new
    TurnWhere false session old new = new ≡ old

    abbrev pub TurnOf : (session : ℕ) → (old new : Pace R) → Type 0
    TurnOf session old new = TurnWhere (runs session old.world) session old new

    -- a round of so many sessions, in the order of their declaration
    abbrev pub Round : (sessions : ℕ) → (went_on : Bool) → (old new : WorldView R) → Type 0
    Round sessions went_on old new = Deeds TurnOf sessions (record { world = old; went_on = false })
        (record { world = new; went_on = went_on })

    -- one more round, unless eight in a row were idle
    pub record RoundsOn (sessions : ℕ) (old new : Calm R) : Type 0 where
      pub few : old.idle < most_idle
      pub went_on : Bool
      pub round : Round sessions went_on old.world new.world
      pub idle : new.idle ≡ (if went_on then 0 else old.idle + 1)

    -- so many rounds, or as many as it takes until eight are idle in a row
    pub record Settles (sessions : ℕ) (rounds : ℕ) (old new : WorldView R) : Type 0 where
      pub count : ℕ
      pub idle : ℕ
      pub most : count ≤ rounds
      pub on : Deeds (λ k. RoundsOn sessions) count (record { world = old; idle = 0 })
          (record { world = new; idle = idle })
      pub ends : (count ≡ rounds) ⊎ (idle ≡ most_idle)

    -- ---- lines

    -- What a line does when it is reached. After its last event nothing may start any more, so
    -- commands start only behind a line that gives one. That a notice is lost is no event.
    abbrev pub Plays : (sessions : ℕ) → Said → (old new : WorldView R) → Type 0
    Plays sessions (said.Command session beside command) old new = StartsAll old new
    Plays sessions (said.Poll session slot times) old new = Deeds (λ k. Polls session slot) times old new
    Plays sessions (said.Until session slot kind) old new = PollsUntil session slot kind old new
    Plays sessions (said.Settle rounds) old new = Settles sessions rounds old new
    Plays sessions (said.Deliver number) old new = Happens (event.Deliver number) old new
    Plays sessions (said.Lose number) old new = new ≡ old
    Plays sessions (said.Expire session site image) old new = Happens (event.Expire session site image) old new
    Plays sessions (said.Stop session) old new = Happens (event.Stop session) old new
    Plays sessions (said.Restart session) old new = Happens (event.Restart session) old new
    Plays sessions (said.Late session slot) old new = Happens (event.Late session slot) old new
    Plays sessions (said.Trim site image object) old new = Happens (event.Trim site image object) old new

module _ {R : Type 0} (stands : R → Standing) where
  -- the line of a script with this place, from 0, with the commands so far
  pub record PlaysLine (script : Script) (k : ℕ) (old new : WorldView R) : Type 0 where
    pub line : Line
    pub is : slice_get script.lines k ≡ Some line
    pub plays : Plays stands (given_in (take (k + 1) script.lines)) (is_lost_by (take (k + 1) script.lines))
        (length script.sessions) line.said old new

  -- All lines, in their order; and at the end rounds until all that can go on has gone.
  pub record PlaysScript (script : Script) (old new : WorldView R) : Type 0 where
    pub between : WorldView R
    pub lines : Deeds (PlaysLine script) (length script.lines) old between
    pub closing : Settles stands (given_in script.lines) (is_lost_by script.lines) (length script.sessions)
        (closing_rounds (length (commands_of script.lines))) between new

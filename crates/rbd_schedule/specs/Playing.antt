-- What is played, and what a runner keeps beside the world.
use Rattle.std.specs.Prelude.{◌≡◌, ◌⊎◌, ℕ, ◌<◌, ◌≤◌, ◌==◌, ◌&&◌, ◌||◌, ◌+◌, ◌-◌, nat_eq, nat_lt, cond, not, Bool, true, false, List, [], ◌∷◌, length, take, map, All, slice_get, Option, Some, None}
use Rattle.std.specs.HashSet.{HashSet, contains_by}
use Rattle.std.specs.declared.collections.VecDeque.{VecDeque}
use Rattle.rbd_line_table.specs.Known.{is_known}
use Rattle.rbd_line_table.specs.declared.line_map.LineMap.{LineMap}
use Rattle.rbd_commands.specs.declared.command.Command.{Command}
use Rattle.rbd_flat.specs.declared.entry.Entry.{Entry}
use Rattle.rbd_flat.specs.declared.entry.Entry.TheVariants as entry
use Rattle.rbd_kinds.specs.declared.id.Instance.{Instance}
use Rattle.rbd_kinds.specs.declared.id.SiteId.{SiteId}
use Rattle.rbd_kinds.specs.declared.notice.Notice.{Notice}
use Rattle.rbd_machine.specs.Plan.{Standing}
use Rattle.rbd_catalog.specs.Plans.{is_built}
use Rattle.rbd_script.specs.declared.script.Declared.{Declared}
use Rattle.rbd_script.specs.declared.script.Line.{Line}
use Rattle.rbd_script.specs.declared.script.Said.{Said}
use Rattle.rbd_script.specs.declared.script.Said.TheVariants as said
use Rattle.rbd_script.specs.declared.script.Script.{Script}
use Rattle.rbd_watch.specs.Posting.{notice_numbered}
use Rattle.rbd_client.specs.Seen.{as_is}
use Rattle.rbd_world.specs.Seen.{seen}
use Rattle.rbd_world.specs.declared.event.Event.{Event}
use Rattle.rbd_world.specs.declared.event.Event.TheVariants as event
use Rattle.rbd_world.specs.declared.event.Outcome.{Outcome}
use Rattle.rbd_world.specs.declared.event.Outcome.TheVariants as outcome
use Rattle.rbd_world.specs.Sound.{AreAtHome, HasRun, IsNewWorld, IsSoundWorld}
use Rattle.rbd_world.specs.Step.{is_begun}
use Rattle.rbd_world.specs.World.{LivesView, WorldView, lives_in}
use Rattle.rbd_schedule.specs.declared.given.Given.{Given}
use Rattle.rbd_schedule.specs.declared.heard.Heard.{Heard}
use Rattle.rbd_schedule.specs.declared.queue.Queue.{Queue}
use Rattle.rbd_schedule.specs.declared.runner.Runner.{Runner}
use Rattle.rbd_schedule.specs.Deeds.{Deeds}
use Rattle.rbd_schedule.specs.InOrder.{AreDeclared}
use Rattle.rbd_schedule.specs.Notices.{was_heard}
use Rattle.rbd_schedule.specs.Schedule.{PlaysScript, Starts, Submits, is_held}
use Rattle.rbd_schedule.specs.Starts.{IsIdle, IsQuiet, is_ended}

-- ---- which scripts are played

-- a command that is served, or a line of the schedule
abbrev pub IsPlayedLine : Said → Type 0
IsPlayedLine (said.Command session beside command) = is_built command ≡ true
IsPlayedLine s = Unit {0}

-- Scripts that are played: they have at most 32 sessions, their lines are of forms that are served,
-- and each session that a line names is declared.
pub record IsPlayable (script : Script) : Type 0 where
  pub few : length script.sessions ≤ 32
  pub declared : AreDeclared (length script.sessions) script.lines
  pub lines : All (λ (line : Line). IsPlayedLine line.said) script.lines

-- ---- a play

abbrev pub homes_of : List Declared → List SiteId
homes_of sessions = map (λ (d : Declared). d.home) sessions

-- A world of the script's sessions, in which nothing had happened, was led here by the script's
-- schedule; and all that happened on the way is one run.
pub record IsPlay {R : Type 0} (stands : R → Standing) (script : Script) (w : WorldView R) : Type 0 where
  pub first : WorldView R
  pub new : IsNewWorld first
  pub homes : AreAtHome (homes_of script.sessions) first.lives
  pub plays : PlaysScript stands script first w
  pub told : HasRun w

-- ---- the queue of a session

-- whether a line is one of these
abbrev pub has_line : {T : Type 0} → (line : ℕ) → LineMap T → Bool
has_line line lines = is_known lines line

-- whether a notice is one of these
abbrev pub has_number : {S : Type 0} → (number : ℕ) → HashSet ℕ S → Bool
has_number number numbers = contains_by (nat_eq number) numbers

abbrev pub mark_of : Option Bool → Bool
mark_of None = false
mark_of (Some mark) = mark

-- whether a notice has a mark: it was heard
abbrev pub has_mark : (number : ℕ) → Heard → Bool
has_mark number h = mark_of (slice_get h.marks.items number)

-- what stands at a place, where there is one
abbrev pub at_place : List Given → Option ℕ → Option Given
at_place given None = None
at_place given (Some place) = slice_get given place

-- whether a command is over: nothing waits for it any more
abbrev pub is_over : (begun ended : (line : ℕ) → Bool) → Given → Bool
is_over begun ended c = begun c.line && ended c.line

-- whether a command goes beside the others and wasn't begun: so it may start
abbrev pub may_start_beside : (begun : (line : ℕ) → Bool) → Given → Bool
may_start_beside begun c = c.beside && not (begun c.line)

abbrev pub is_open : (ended : (line : ℕ) → Bool) → Option Given → Bool
is_open ended None = false
is_open ended (Some c) = not (ended c.line)

-- whether a command that comes behind these waits for the one at a place, which hasn't ended
abbrev pub is_held_back : (ended : (line : ℕ) → Bool) → (place : ℕ) → List Given → Given → Bool
is_held_back ended place given c = not c.beside && is_open ended (slice_get given place)

-- All commands before `front` are over; and of those before `next` none that goes beside the others
-- has still to begin.
pub record IsQueue (begun ended : (line : ℕ) → Bool) (q : Queue) : Type 0 where
  pub front : q.front ≤ length q.commands.items
  pub over : All (λ c. is_over begun ended c ≡ true) (take q.front q.commands.items)
  pub next : q.next ≤ length q.commands.items
  pub passed : All (λ c. may_start_beside begun c ≡ false) (take q.next q.commands.items)

-- no command was given yet
pub record IsEmptyQueue (q : Queue) : Type 0 where
  pub commands : q.commands.items ≡ []
  pub front : q.front ≡ 0
  pub next : q.next ≡ 0

-- ---- the runner

abbrev pub commands_in : Option Queue → List Given
commands_in None = []
commands_in (Some q) = q.commands.items

-- the commands that a session was given so far
abbrev pub given_to : Runner → (session : ℕ) → List Given
given_to r session = commands_in (slice_get r.queues.items session)

-- the notices that no settle delivers
abbrev pub lost_in : Runner → (number : ℕ) → Bool
lost_in r number = has_number number r.lost

-- a command of the session, as the script gave it
pub record IsGivenCommand (session : ℕ) (c : Given) : Type 0 where
  pub mine : c.session ≡ session
  pub command : Command
  pub submission : c.submission ≡ event.Submit session c.line command
  pub built : is_built command ≡ true

pub record IsQueueIn (history : List Entry) (session : ℕ) (q : Queue) : Type 0 where
  pub queue : IsQueue (λ line. is_begun line history) (λ line. is_ended line history) q
  pub given : All (IsGivenCommand session) q.commands.items

-- ---- notices that a session is past

-- whether a notice to this instance is none for that life of a session, nor for a later one
abbrev pub is_past_life : (to latest : Instance) → Bool
is_past_life to latest = not (to.session == latest.session) || nat_lt to.life latest.life

-- whether the notice is there, and neither that life nor a later one has anything to do with it any
-- more
abbrev pub is_dealt_with : (heard lost : (number : ℕ) → Bool) → (latest : Instance) → (number : ℕ) → Option Notice
    → Bool
is_dealt_with heard lost latest number None = false
is_dealt_with heard lost latest number (Some n) = is_past_life n.to latest || (heard number || lost number)

-- No turn of the session will deliver it any more.
abbrev pub IsPassed : {R : Type 0} → (lost : (number : ℕ) → Bool) → (session number : ℕ) → WorldView R → Type 0
IsPassed {R} lost session number w =
    (l : LivesView R) → lives_in session w.lives ≡ Some l
    → is_dealt_with (λ n. was_heard n w.calls) lost l.latest number (notice_numbered number w.sites.mail) ≡ true

-- ---- inboxes

-- Of the numbers above `from`, and up to `to`, each has this property, but for those listed, which
-- ascend.
abbrev pub HoldsBut : (P : (number : ℕ) → Type 0) → (from : ℕ) → (listed : List ℕ) → (to : ℕ) → Type 0
HoldsBut P from [] to = (from ≤ to) × ((k : ℕ) → from ≤ k → k < to → P (k + 1))
HoldsBut P from (number ∷ listed) to = (from < number) × ((k : ℕ) → from ≤ k → k + 1 < number → P (k + 1))
    × HoldsBut P number listed to

-- a list without some first numbers, each of which has this property
abbrev pub IsWithout : (P : (number : ℕ) → Type 0) → (old new : List ℕ) → Type 0
IsWithout P [] new = new ≡ []
IsWithout P (number ∷ old) new = (new ≡ number ∷ old) ⊎ (P number × IsWithout P old new)

-- how many of the first notices a session is past, of those that are sorted, by its inbox
abbrev pub passed_by : List ℕ → (sorted : ℕ) → ℕ
passed_by [] sorted = sorted
passed_by (number ∷ numbers) sorted = number - 1

abbrev pub numbers_in : {Z : Type 0} → Option (VecDeque ℕ Z) → List ℕ
numbers_in None = []
numbers_in (Some inbox) = inbox.items

-- the notices in the inbox of a session
abbrev pub inbox_of : Runner → (session : ℕ) → List ℕ
inbox_of r session = numbers_in (slice_get r.inboxes.items session)

-- ---- all of it

-- The world is sound, and what the runner keeps beside it is true of the world: of the notices that
-- are sorted each session is past all that aren't in its inbox.
pub record KeepsUp (r : Runner) : Type 0 where
  pub sound : IsSoundWorld as_is (seen r.world)
  pub quiet : r.is_due ≡ false → IsQuiet (given_to r) (seen r.world)
  pub most : r.highest ≤ 64
  pub above : (session slot : ℕ) → r.highest < slot → is_held session slot (seen r.world) ≡ false
  pub few : length r.queues.items ≤ 32
  pub queues : (session : ℕ) (q : Queue) → slice_get r.queues.items session ≡ Some q
      → IsQueueIn (seen r.world).history session q
  pub over : (line : ℕ) → has_line line r.over ≡ is_ended line (seen r.world).history
  pub heard : (number : ℕ) → has_mark number r.heard ≡ was_heard number (seen r.world).calls
  pub sorted : (session : ℕ) → session < length r.inboxes.items
      → HoldsBut (λ number. IsPassed (lost_in r) session number (seen r.world)) 0 (inbox_of r session) r.sorted

-- How the runner goes on: it keeps up, its sessions were given no further command, and no further
-- notice is lost.
pub record RunnerGoesOn (old new : Runner) : Type 0 where
  pub keeps : KeepsUp old → KeepsUp new
  pub given : given_to new ≡ given_to old
  pub queues : length new.queues.items ≡ length old.queues.items
  pub lost : lost_in new ≡ lost_in old

-- a session's earliest command that may start was submitted, or there was none
abbrev pub StartsIf : {R : Type 0} → (stands : R → Standing) → (given : (session : ℕ) → List Given) → (session : ℕ)
    → (started : Bool) → (old new : WorldView R) → Type 0
StartsIf stands given session true old new = Submits stands given session old new
StartsIf stands given session false old new = (new ≡ old) × IsIdle given old session

-- Commands of a session were submitted, one after another, until neither it nor a session before it
-- had one that may start.
pub record StartsEach {R : Type 0} (stands : R → Standing) (given : (session : ℕ) → List Given) (session : ℕ)
    (old new : WorldView R) : Type 0 where
  pub count : ℕ
  pub starts : Deeds (λ k. Starts stands given) count old new
  pub idle : (other : ℕ) → other ≤ session → IsIdle given new other

-- ---- what an event comes to

-- the event begins no command
abbrev pub IsNoStart : Event → Type 0
IsNoStart (event.Submit session line command) = ⊥
IsNoStart e = Unit {0}

-- whether a command may have come to start after this: a request has its reply, lines are lost, or
-- a session runs again
abbrev pub lets_start : Outcome → Bool
lets_start (outcome.Step site number waiting replied) = replied
lets_start outcome.Stopped = true
lets_start outcome.Restarted = true
lets_start result = false

abbrev pub is_one_of : (number : ℕ) → Option ℕ → Bool
is_one_of number None = false
is_one_of number (Some other) = other == number

-- the line that an entry ends, where it ends one
abbrev pub line_ended_by : Entry → Option ℕ
line_ended_by (entry.Reply line reply) = Some line
line_ended_by (entry.Lost line) = Some line
line_ended_by e = None

-- the notice that an event delivers, where it delivers one
abbrev pub delivered_by : Event → Option ℕ
delivered_by (event.Deliver number) = Some number
delivered_by e = None

-- the highest slot that was given so far, behind this
abbrev pub highest_after : (highest : ℕ) → Outcome → ℕ
highest_after highest (outcome.Submitted slot) = cond (nat_lt highest slot) slot highest
highest_after highest result = highest

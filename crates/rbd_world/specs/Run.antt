-- A run: what the calls of a world did, one after another.
use Rattle.std.specs.Prelude.{◌≡◌, ℕ, ◌==◌, ◌&&◌, ◌||◌, if◌then◌else◌, List, [], ◌∷◌, ◌++◌, map, Bool, true, false, is_some, Option, Some, None}
use Rattle.std.specs.List.{list_any}
use Rattle.rbd_commands.specs.declared.command.Command.{Command}
use Rattle.rbd_flat.specs.Flat.{Flat, no_images}
use Rattle.rbd_flat.specs.declared.effect.Effect.{Effect}
use Rattle.rbd_flat.specs.declared.entry.Cause.{Cause}
use Rattle.rbd_flat.specs.declared.entry.Cause.TheVariants as cause
use Rattle.rbd_flat.specs.declared.entry.Entry.{Entry}
use Rattle.rbd_flat.specs.declared.entry.Entry.TheVariants as entry
use Rattle.rbd_kinds.specs.OperationKind.{kind_of}
use Rattle.rbd_kinds.specs.declared.answer.Answer.{Answer}
use Rattle.rbd_kinds.specs.declared.answer.Answer.TheVariants as answer
use Rattle.rbd_kinds.specs.declared.id.Instance.{Instance}
use Rattle.rbd_kinds.specs.declared.id.SiteId.{SiteId}
use Rattle.rbd_kinds.specs.declared.notice.Notice.{Notice}
use Rattle.rbd_kinds.specs.declared.operation.Op.{Op}
use Rattle.rbd_kinds.specs.declared.operation.Op.TheVariants as op
use Rattle.rbd_kinds.specs.declared.reply.Reply.{Reply}
use Rattle.rbd_machine.specs.Knowledge.{same_site}
use Rattle.rbd_machine.specs.Path.{Answered}
use Rattle.rbd_machine.specs.declared.reason.Reason.{Reason}
use Rattle.rbd_machine.specs.declared.reason.Reason.TheVariants as reason
use Rattle.rbd_lock.specs.Waiting.{asks_for_lock}
use Rattle.rbd_interference.specs.Truth.{changed_by}
use Rattle.rbd_slots.specs.Session.{held_in}
use Rattle.rbd_site.specs.Log.{expire_line, expired, log_line, trim_line, trimmed}
use Rattle.rbd_site.specs.Records.{Records, no_records}
use Rattle.rbd_site.specs.Step.{after, mail_after}
use Rattle.rbd_site.specs.declared.done.Done.{Done}
use Rattle.rbd_world.specs.declared.event.Call.{Call}
use Rattle.rbd_world.specs.declared.event.Event.{Event}
use Rattle.rbd_world.specs.declared.event.Event.TheVariants as event
use Rattle.rbd_world.specs.declared.event.Outcome.{Outcome}
use Rattle.rbd_world.specs.declared.event.Outcome.TheVariants as outcome

-- ---- what a call did

-- Who had an operation done: the command of a line, by itself or on its way to the lock of its
-- image; the house of an instance, which lets a lock go; or an instance that was stopped, whose
-- slot wanted it then.
pub data Doer : Type 0 where
  Itself : (line : ℕ) → Doer
  OnWay : (line : ℕ) → Doer
  House : Doer
  AfterStop : (slot : ℕ) → Doer

-- an operation that an instance did, with its number in its site's log, and its effect, where it
-- has one
pub record Operation : Type 0 where
  pub by : Doer
  pub instance : Instance
  pub site : SiteId
  pub number : ℕ
  pub op : Op
  pub answer : Answer
  pub effect : Option Effect

-- a command that an instance of a session began
pub record Asked : Type 0 where
  pub who : Instance
  pub line : ℕ
  pub command : Command

-- what a slot of an instance wanted when its session was stopped
pub record Sent : Type 0 where
  pub instance : Instance
  pub site : SiteId
  pub op : Op

pub data Happening : Type 0 where
  -- nothing: the event named something that isn't there
  Nothing : Happening
  -- nothing happened either: the slot that was polled waits
  Waited : Happening
  -- an instance began a command, in a slot
  Began : Asked → (slot : ℕ) → Happening
  -- an operation was done; the command that it was done for has its reply, if it ended by it
  Did : Operation → Option Reply → Happening
  -- a request of a session at a site was refused before any operation
  Refused : SiteId → (line : ℕ) → Reply → Happening
  -- the store trimmed an object
  Trimmed : SiteId → (number image object : ℕ) → Happening
  -- the store ended the watch of an image by an instance
  Expired : SiteId → (number image : ℕ) → Instance → Happening
  -- an instance heard a notice
  Heard : Notice → Happening
  -- An instance was stopped: what its slots wanted then, and its lines that had no reply, which are
  -- lost.
  Stopped : Instance → (wanted : List (Option (SiteId × Op))) → (lost : List ℕ) → Happening
  -- a stopped session began its next life
  Restarted : Instance → Happening

-- ---- for which line an operation was done

-- whether an operation was done by the line's command itself
abbrev pub is_own : (line : ℕ) → Doer → Bool
is_own line (Itself other) = other == line
is_own line by = false

-- whether an operation was done on the line's way to the lock
abbrev pub is_on_way : (line : ℕ) → Doer → Bool
is_on_way line (OnWay other) = other == line
is_on_way line by = false

abbrev pub is_for : (line : ℕ) → Doer → Bool
is_for line by = is_own line by || is_on_way line by

-- why an operation was done: on the way to a lock, or as a step of its own
abbrev pub reason_of : Doer → Reason
reason_of (OnWay line) = reason.Acquiring
reason_of by = reason.Own

abbrev pub cause_of : Instance → Doer → Cause
cause_of who (Itself line) = cause.Line line
cause_of who (OnWay line) = cause.Line line
cause_of who House = cause.House who
cause_of who (AfterStop slot) = cause.Late who

-- ---- what it adds to the history and to a site's log

-- the instance that an operation puts into its site's blocklist
abbrev pub fence_of : Op → Answer → Option Instance
fence_of (op.BlockAdd instance) answer.Done = Some instance
fence_of o a = None

abbrev pub entry_unfenced : Cause → SiteId → (number : ℕ) → Option Effect → Entry
entry_unfenced c site number None = entry.Look c site number
entry_unfenced c site number (Some e) = entry.Effect c site number e

abbrev pub entry_by : Cause → SiteId → (number : ℕ) → (fence : Option Instance) → Option Effect → Entry
entry_by c site number None effect = entry_unfenced c site number effect
entry_by c site number (Some instance) effect = entry.Fence c site number instance

abbrev pub entry_of : Operation → Entry
entry_of o = entry_by (cause_of o.instance o.by) o.site o.number (fence_of o.op o.answer) o.effect

abbrev pub reply_entries : (line : ℕ) → Option Reply → List Entry
reply_entries line None = []
reply_entries line (Some reply) = entry.Reply line reply ∷ []

-- the entry of the reply, where the command has one then
abbrev pub ending_entries : Doer → Option Reply → List Entry
ending_entries (Itself line) reply = reply_entries line reply
ending_entries (OnWay line) reply = reply_entries line reply
ending_entries by reply = []

abbrev pub entries_of : Happening → List Entry
entries_of (Began asked slot) = entry.Start asked.line asked.who ∷ []
entries_of (Did o reply) = entry_of o ∷ ending_entries o.by reply
entries_of (Refused site line reply) = entry.Reply line reply ∷ []
entries_of (Stopped who wanted lost) = entry.Stop who.session ∷ map entry.Lost lost
entries_of _ = []

abbrev pub lines_at : SiteId → Happening → List Done
lines_at s (Did o reply) = if same_site o.site s then log_line o.number o.instance o.op o.answer ∷ [] else []
lines_at s (Trimmed site number image object) = if same_site site s then trim_line number image object ∷ [] else []
lines_at s (Expired site number image who) = if same_site site s then expire_line number image who ∷ [] else []
lines_at s _ = []

abbrev pub outcome_of : Happening → Outcome
outcome_of Nothing = outcome.Nothing
outcome_of Waited = outcome.Waits
outcome_of (Began asked slot) = outcome.Submitted slot
outcome_of (Did o reply) = outcome.Step o.site o.number (asks_for_lock (reason_of o.by) (kind_of o.op) o.answer)
    (is_some reply)
outcome_of (Refused site line reply) = outcome.Step site 0 false true
outcome_of (Trimmed site number image object) = outcome.Stored
outcome_of (Expired site number image who) = outcome.Stored
outcome_of (Heard notice) = outcome.Heard
outcome_of (Stopped who wanted lost) = outcome.Stopped
outcome_of (Restarted who) = outcome.Restarted

-- ---- a run: its happenings, the latest first

-- the history
abbrev pub history_of : List Happening → List Entry
history_of [] = []
history_of (h ∷ run) = history_of run ++ entries_of h

-- a site's log
abbrev pub log_of : SiteId → List Happening → List Done
log_of s [] = []
log_of s (h ∷ run) = log_of s run ++ lines_at s h

-- a site's records
abbrev pub records_behind : SiteId → Records → Happening → Records
records_behind s r (Did o reply) = if same_site o.site s then after r o.instance o.op else r
records_behind s r (Trimmed site number image object) = if same_site site s then trimmed image object r else r
records_behind s r (Expired site number image who) = if same_site site s then expired image who r else r
records_behind s r _ = r

abbrev pub records_after : SiteId → List Happening → Records
records_after s [] = no_records
records_after s (h ∷ run) = records_behind s (records_after s run) h

-- a flat site: the effects of the run, one after another
abbrev pub flat_behind : SiteId → Flat → Happening → Flat
flat_behind s f (Did o reply) = if same_site o.site s then changed_by f o.effect else f
flat_behind s f _ = f

abbrev pub flat_after : SiteId → List Happening → Flat
flat_after s [] = no_images
flat_after s (h ∷ run) = flat_behind s (flat_after s run) h

-- the notices of both sites
abbrev pub mail_behind : List Notice → (before : List Happening) → Happening → List Notice
mail_behind mail before (Did o reply) = mail_after o.site (records_after o.site before) o.instance o.op mail
mail_behind mail before _ = mail

abbrev pub mail_of : List Happening → List Notice
mail_of [] = []
mail_of (h ∷ run) = mail_behind (mail_of run) run h

-- ---- of a line

abbrev pub step_of : Operation → Answered
step_of o = record { site = o.site; op = o.op; answer = o.answer }

-- the operations of a line's command itself, with their answers, in order
abbrev pub steps_in : (line : ℕ) → Happening → List Answered
steps_in line (Did o reply) = if is_own line o.by then step_of o ∷ [] else []
steps_in line _ = []

abbrev pub steps_of : (line : ℕ) → List Happening → List Answered
steps_of line [] = []
steps_of line (h ∷ run) = steps_of line run ++ steps_in line h

-- the operations on a line's way to the lock of its image, with their answers, in order
abbrev pub way_in : (line : ℕ) → Happening → List Answered
way_in line (Did o reply) = if is_on_way line o.by then step_of o ∷ [] else []
way_in line _ = []

abbrev pub way_of : (line : ℕ) → List Happening → List Answered
way_of line [] = []
way_of line (h ∷ run) = way_of line run ++ way_in line h

-- what a line asked for, where an instance began it here
abbrev pub or_asked : (line : ℕ) → Happening → Option Asked → Option Asked
or_asked line (Began asked slot) before = if asked.line == line then Some asked else before
or_asked line h before = before

abbrev pub asked_by : (line : ℕ) → List Happening → Option Asked
asked_by line [] = None
asked_by line (h ∷ run) = or_asked line h (asked_by line run)

-- whether the line gets its reply here
abbrev pub replies_to : (line : ℕ) → Happening → Bool
replies_to line (Did o (Some reply)) = is_for line o.by
replies_to line (Refused site other reply) = other == line
replies_to line _ = false

-- whether a line is among others
abbrev pub is_line_among : (line : ℕ) → List ℕ → Bool
is_line_among line lines = list_any (λ other. other == line) lines

-- whether the line is lost here
abbrev pub loses : (line : ℕ) → Happening → Bool
loses line (Stopped who wanted lost) = is_line_among line lost
loses line _ = false

-- whether the line gets its reply or is lost here
abbrev pub ends : (line : ℕ) → Happening → Bool
ends line h = replies_to line h || loses line h

-- ---- of a session

-- the number of a session's latest life, and whether that life runs
pub record Life : Type 0 where
  pub number : ℕ
  pub runs : Bool

abbrev pub life_behind : (session : ℕ) → Happening → Life → Life
life_behind session (Stopped who wanted lost) l = if who.session == session
    then record { number = l.number; runs = false } else l
life_behind session (Restarted who) l = if who.session == session then record { number = who.life; runs = true } else l
life_behind session _ l = l

abbrev pub life_after : (session : ℕ) → List Happening → Life
life_after session [] = record { number = 0; runs = true }
life_after session (h ∷ run) = life_behind session h (life_after session run)

-- what a slot of a session wanted when the session was stopped last, as long as that hasn't come
abbrev pub sent_of : Instance → Option (SiteId × Op) → Option Sent
sent_of who None = None
sent_of who (Some wanted) = Some (record { instance = who; site = wanted.0; op = wanted.1 })

abbrev pub comes_of : (session slot : ℕ) → Instance → Doer → Bool
comes_of session slot who (AfterStop at) = who.session == session && at == slot
comes_of session slot who by = false

abbrev pub sent_behind : (session slot : ℕ) → Happening → Option Sent → Option Sent
sent_behind session slot (Stopped who wanted lost) before = if who.session == session
    then sent_of who (held_in slot wanted) else before
sent_behind session slot (Did o reply) before = if comes_of session slot o.instance o.by then None else before
sent_behind session slot _ before = before

abbrev pub sent_after : (session slot : ℕ) → List Happening → Option Sent
sent_after session slot [] = None
sent_after session slot (h ∷ run) = sent_behind session slot h (sent_after session slot run)

-- ---- the calls that did this

pub record IsBeginOf (session line : ℕ) (command : Command) (asked : Asked) : Type 0 where
  pub session_is : asked.who.session ≡ session
  pub line_is : asked.line ≡ line
  pub command_is : asked.command ≡ command

pub record IsLateOf (session slot : ℕ) (o : Operation) (reply : Option Reply) : Type 0 where
  pub by : o.by ≡ AfterStop slot
  pub session_is : o.instance.session ≡ session
  pub none : reply ≡ None

-- A happening that an event can have in some world: it is of the session, slot or site that the
-- event names.
abbrev pub IsOfEvent : Event → Happening → Type 0
IsOfEvent e Nothing = Unit {0}
IsOfEvent (event.Submit session line command) (Began asked slot) = IsBeginOf session line command asked
IsOfEvent (event.Poll session slot) Waited = Unit {0}
IsOfEvent (event.Poll session slot) (Did o reply) = o.instance.session ≡ session
IsOfEvent (event.Poll session slot) (Refused site line reply) = Unit {0}
IsOfEvent (event.Deliver number) (Heard notice) = notice.number ≡ number
IsOfEvent (event.Expire session site image) (Expired there number on who) = (who.session ≡ session) × (there ≡ site)
    × (on ≡ image)
IsOfEvent (event.Stop session) (Stopped who wanted lost) = who.session ≡ session
IsOfEvent (event.Late session slot) (Did o reply) = IsLateOf session slot o reply
IsOfEvent (event.Restart session) (Restarted who) = who.session ≡ session
IsOfEvent (event.Trim site image object) (Trimmed there number on of) = (there ≡ site) × (on ≡ image) × (of ≡ object)
IsOfEvent e h = ⊥

pub record IsCall (c : Call) (h : Happening) : Type 0 where
  pub event : IsOfEvent c.event h
  pub outcome : c.outcome ≡ outcome_of h

pub record EndsIn (calls before : List Call) (h : Happening) : Type 0 where
  pub last : Call
  pub are : calls ≡ before ++ last ∷ []
  pub is : IsCall last h

-- each call did its part of the run
abbrev pub AreCalls : List Call → List Happening → Type 0
AreCalls calls [] = calls ≡ []
AreCalls calls (h ∷ run) = (before : List Call) × EndsIn calls before h × AreCalls before run

-- What an event does to a world, and what is asked of one.
use Rattle.std.specs.Prelude.{◌≡◌, ◌≢◌, ℕ, ◌+◌, ◌==◌, ◌||◌, nat_lt, if◌then◌else◌, Bool, true, false, List, [], ◌∷◌, ◌++◌, length, map, slice_set, is_some, Option, Some, None}
use Rattle.std.specs.List.{list_any, flat_map, range_with_len}
use Rattle.rbd_client.specs.declared.actor.Actor.{Actor}
use Rattle.rbd_client.specs.declared.actor.Actor.TheVariants as actor
use Rattle.rbd_client.specs.Actor.{actor_at, op_wanted}
use Rattle.rbd_client.specs.Client.{ClientView, blank_slot, heard_with, newcomer, slot_state}
use Rattle.rbd_client.specs.Feeding.{DropsAtRest, IsClientAlike, IsFedBy}
use Rattle.rbd_client.specs.Sound.{IsSoundClient}
use Rattle.rbd_commands.specs.declared.command.Command.{Command}
use Rattle.rbd_commands.specs.Quiescing.{quiescing_of}
use Rattle.rbd_flat.specs.Flat.{Flat}
use Rattle.rbd_flat.specs.declared.entry.Entry.{Entry}
use Rattle.rbd_flat.specs.declared.entry.Entry.TheVariants as entry
use Rattle.rbd_kinds.specs.declared.answer.Answer.{Answer}
use Rattle.rbd_kinds.specs.declared.id.Instance.{Instance}
use Rattle.rbd_kinds.specs.declared.id.SiteId.{SiteId}
use Rattle.rbd_kinds.specs.declared.machine.Fed.TheVariants as fed
use Rattle.rbd_kinds.specs.declared.notice.Notice.{Notice}
use Rattle.rbd_kinds.specs.declared.operation.Op.{Op}
use Rattle.rbd_kinds.specs.declared.reply.Reply.{Reply}
use Rattle.rbd_kinds.specs.declared.reply.Reply.TheVariants as reply
use Rattle.rbd_kinds.specs.Instances.{same_instance}
use Rattle.rbd_lock.specs.Locks.{heard, lock_state_at}
use Rattle.rbd_machine.specs.Answers.{CanGive}
use Rattle.rbd_machine.specs.Label.{Label, Lock}
use Rattle.rbd_machine.specs.Path.{at_operation}
use Rattle.rbd_machine.specs.Plan.{Plan, Ask, Return, Goto, Standing, plan_after}
use Rattle.rbd_lock.specs.Acquire.{op_of, rest_of_acquire}
use Rattle.rbd_lock.specs.declared.acquire.Acquire.{Acquire}
use Rattle.rbd_lock.specs.declared.release.Release.{Release}
use Rattle.rbd_lock.specs.Release.{release_op}
use Rattle.rbd_interference.specs.Truth.{changed_by}
use Rattle.rbd_catalog.specs.Plans.{IsPlanFor, is_built}
use Rattle.rbd_catalog.specs.Profile.{changed_extent}
use Rattle.rbd_slots.specs.declared.running.Occupant.{Occupant}
use Rattle.rbd_slots.specs.declared.running.Occupant.TheVariants as occupant
use Rattle.rbd_slots.specs.declared.running.Running.{Running}
use Rattle.rbd_slots.specs.Advance.{track_of}
use Rattle.rbd_slots.specs.Lines.{lines_of}
use Rattle.rbd_slots.specs.OnTrack.{LeavesOthers}
use Rattle.rbd_slots.specs.Session.{SessionView, IsNewcomer, held_in, script_line, seat_of}
use Rattle.rbd_slots.specs.Waits.{waits}
use Rattle.rbd_site.specs.InForm.{AreInForm}
use Rattle.rbd_site.specs.Log.{SiteLog, records_of}
use Rattle.rbd_site.specs.Step.{MayDo, after, answer_to, mail_after}
use Rattle.rbd_site.specs.declared.done.Done.{Done}
use Rattle.rbd_site.specs.declared.done.DoneOp.TheVariants as done
use Rattle.rbd_stands.specs.Effect.{effect_of}
use Rattle.rbd_stands.specs.Site.{StandsFor}
use Rattle.rbd_watch.specs.Posting.{notice_numbered}
use Rattle.rbd_watch.specs.Watching.{oldest_of}
use Rattle.rbd_world.specs.Begun.{has_line}
use Rattle.rbd_world.specs.declared.begun.BegunLines.{BegunLines}
use Rattle.rbd_world.specs.Run.{Asked, Doer, Itself, OnWay, House, AfterStop, Happening, Nothing, Waited, Began, Did, Refused, Trimmed, Expired, Heard, Stopped, Restarted, Operation, Sent, entries_of, lines_at, outcome_of, records_behind}
use Rattle.rbd_world.specs.World.{LateView, LivesView, WorldView, client_in, late_at, lives_in, records_in, site_in}
use Rattle.rbd_world.specs.declared.event.Call.{Call}
use Rattle.rbd_world.specs.declared.event.Event.{Event}
use Rattle.rbd_world.specs.declared.event.Event.TheVariants as event
use Rattle.rbd_world.specs.declared.event.Outcome.{Outcome}
use Rattle.rbd_world.specs.declared.sites.Sites.{Sites}

-- ---- a poll

-- the number of a site's next operation
abbrev pub next_number : SiteLog → ℕ
next_number at_site = length at_site.log + 1

-- an operation as the site does it now
abbrev pub operation_at : SiteLog → Instance → Doer → SiteId → Op → Operation
operation_at at_site who by s o = record {
  by = by;
  instance = who;
  site = s;
  number = next_number at_site;
  op = o;
  answer = answer_to (records_of at_site) who o;
  effect = effect_of (records_of at_site) (done.Op o) (answer_to (records_of at_site) who o);
}

-- the reply of a request that has ended there
abbrev pub reply_at : Plan → Option Reply
reply_at (Return reply) = Some reply
reply_at plan = None

-- the reply of a request whose way ends there, refused
abbrev pub reply_on_way : Acquire → Answer → Option Reply
reply_on_way a told = reply_at (plan_after (rest_of_acquire a (Goto Lock)) (fed.Answer told))

-- what happens when a request does the operation that it wants: it has its reply where its plan
-- ends after the answer
abbrev pub done_by : Sites → Instance → (line : ℕ) → (labels : Label → Plan) → Plan → Happening
done_by sites who line labels (Ask s why o next) =
    Did (operation_at (site_in s sites) who (Itself line) s o)
    (reply_at (at_operation labels (next (answer_to (records_in s sites) who o))))
done_by sites who line labels plan = Nothing

-- what happens when its way to the lock does an operation: the way goes on, or the request is
-- refused there
abbrev pub gone_by : Sites → Instance → (line : ℕ) → Acquire → Happening
gone_by sites who line a =
    Did (operation_at (site_in a.site sites) who (OnWay line) a.site (op_of a))
    (reply_on_way a (answer_to (records_in a.site sites) who (op_of a)))

-- what happens when a release does an operation
abbrev pub release_done : Sites → Instance → Release → Happening
release_done sites who r = Did (operation_at (site_in r.site sites) who House r.site (release_op r)) None

-- what happens at slot 0, where no request ever is
abbrev pub releases : Sites → Instance → Actor → Happening
releases sites who (actor.Release r) = release_done sites who r
releases sites who acts = Waited

module _ {R : Type 0} (stands : R → Standing) where
  -- what happens in a slot with a request
  abbrev pub goes_on_by : Sites → ClientView R → (slot : ℕ) → Running R → Actor → Happening
  goes_on_by sites c slot r actor.Nobody = Waited
  goes_on_by sites c slot r actor.Request =
      if waits slot (track_of r c.session.lines) then Waited
      else done_by sites c.session.instance r.line (stands r.request).labels (stands r.request).plan
  goes_on_by sites c slot r (actor.Way a) = gone_by sites c.session.instance r.line a
  goes_on_by sites c slot r (actor.Release x) = Waited

  abbrev pub polled_in : Sites → ClientView R → (slot : ℕ) → Option (Occupant R) → Happening
  polled_in sites c slot None = if slot == 0 then releases sites c.session.instance (actor_at stands slot c)
      else Nothing
  polled_in sites c slot (Some (occupant.Refused line refusal)) = Refused c.session.home line (reply.Refused refusal)
  polled_in sites c slot (Some (occupant.Running r)) = goes_on_by sites c slot r (actor_at stands slot c)

  abbrev pub polled : Sites → (slot : ℕ) → Option (ClientView R) → Happening
  polled sites slot None = Nothing
  polled sites slot (Some c) = polled_in sites c slot (held_in slot c.session.slots)

-- ---- a submission

-- the history has the line's start
abbrev pub is_start_of : (line : ℕ) → Entry → Bool
is_start_of line (entry.Start other who) = other == line
is_start_of line e = false

abbrev pub is_begun : (line : ℕ) → List Entry → Bool
is_begun line history = list_any (is_start_of line) history

abbrev pub begins_of : Instance → (line : ℕ) → Command → Asked
begins_of who line c = record { who = who; line = line; command = c }

-- what a submission does where its line is new and a slot is free
abbrev pub submitted : {R : Type 0} → (is_begun : Bool) → (line : ℕ) → Command → Option (ClientView R) → Happening
submitted begun line c None = Nothing
submitted begun line c (Some client) =
    if begun || nat_lt 64 client.session.lowest then Nothing
    else Began (begins_of client.session.instance line c) client.session.lowest

-- ---- a notice

abbrev pub heard_by : {R : Type 0} → Notice → Option (ClientView R) → Happening
heard_by notice None = Nothing
heard_by notice (Some c) = if same_instance c.session.instance notice.to then Heard notice else Nothing

-- what a delivery does where the notice is there and the instance that it is for runs
abbrev pub delivered : {R : Type 0} → Option Notice → List (LivesView R) → Happening
delivered None lives = Nothing
delivered (Some notice) lives = heard_by notice (client_in notice.to.session lives)

-- ---- the store

abbrev pub trimmed_of : SiteLog → SiteId → (image object : ℕ) → Happening
trimmed_of at_site s image object = if is_some ((records_of at_site).objects image object)
    then Trimmed s (next_number at_site) image object else Nothing

abbrev pub trimmed_at : Sites → SiteId → (image object : ℕ) → Happening
trimmed_at sites s image object = trimmed_of (site_in s sites) s image object

abbrev pub ended_watch : SiteLog → SiteId → (image : ℕ) → Option Instance → Happening
ended_watch at_site s image None = Nothing
ended_watch at_site s image (Some who) = Expired s (next_number at_site) image who

-- of a session's instances the oldest that watches loses its watch
abbrev pub expired_of : SiteLog → (session : ℕ) → SiteId → (image : ℕ) → Happening
expired_of at_site session s image =
    ended_watch at_site s image (oldest_of session ((records_of at_site).watchers image))

abbrev pub expired_at : Sites → (session : ℕ) → SiteId → (image : ℕ) → Happening
expired_at sites session s image = expired_of (site_in s sites) session s image

-- ---- a stop, and what comes behind it

-- a line among others that ascend
abbrev pub insert_line : (line : ℕ) → List ℕ → List ℕ
insert_line line [] = line ∷ []
insert_line line (other ∷ lines) = if nat_lt other line then other ∷ insert_line line lines else line ∷ other ∷ lines

abbrev pub ascending : List ℕ → List ℕ
ascending [] = []
ascending (line ∷ lines) = insert_line line (ascending lines)

abbrev pub line_or_none : Option ℕ → List ℕ
line_or_none None = []
line_or_none (Some line) = line ∷ []

-- each slot by its number, slot 0 too
abbrev pub all_slots : List ℕ
all_slots = range_with_len 0 65

module _ {R : Type 0} (stands : R → Standing) where
  -- what each slot wants
  abbrev pub wanted_in_slots : ClientView R → List (Option (SiteId × Op))
  wanted_in_slots c = map (λ slot. op_wanted stands slot c) all_slots

  -- the lines of a stopped instance that have no reply yet, in their order
  abbrev pub lost_by : ClientView R → List ℕ
  lost_by c = ascending (flat_map (λ slot. line_or_none (script_line (held_in slot c.session.slots))) all_slots)

  abbrev pub stopped : Option (ClientView R) → Happening
  stopped None = Nothing
  stopped (Some c) = Stopped c.session.instance (wanted_in_slots c) (lost_by c)

-- what happens when what a slot of a stopped life wanted comes
abbrev pub come : Sites → (slot : ℕ) → Option Sent → Happening
come sites slot None = Nothing
come sites slot (Some x) = Did (operation_at (site_in x.site sites) x.instance (AfterStop slot) x.site x.op) None

-- the greatest number of a life
abbrev pub last_life : ℕ
last_life = 4294967295

abbrev pub next_life : Instance → Instance
next_life who = record { session = who.session; life = who.life + 1 }

-- a session that doesn't run begins its next life, where there is a number for it
abbrev pub restarted_of : {R : Type 0} → Instance → Option (ClientView R) → Happening
restarted_of latest (Some c) = Nothing
restarted_of latest None = if nat_lt latest.life last_life then Restarted (next_life latest) else Nothing

abbrev pub restarted : {R : Type 0} → Option (LivesView R) → Happening
restarted None = Nothing
restarted (Some l) = restarted_of l.latest l.running

-- ---- any event

-- what an event does, as a function of the lines that were begun, the sites and the sessions
abbrev pub happens : {R : Type 0} → (stands : R → Standing) → Event → (begun : (line : ℕ) → Bool) → Sites
    → List (LivesView R) → Happening
happens stands (event.Submit session line c) begun sites lives = submitted (begun line) line c (client_in session lives)
happens stands (event.Poll session slot) begun sites lives = polled stands sites slot (client_in session lives)
happens stands (event.Deliver number) begun sites lives = delivered (notice_numbered number sites.mail) lives
happens stands (event.Expire session s image) begun sites lives = expired_at sites session s image
happens stands (event.Stop session) begun sites lives = stopped stands (client_in session lives)
happens stands (event.Late session slot) begun sites lives = come sites slot (late_at session slot lives)
happens stands (event.Restart session) begun sites lives = restarted (lives_in session lives)
happens stands (event.Trim s image object) begun sites lives = trimmed_at sites s image object

abbrev pub happening : {R : Type 0} → (stands : R → Standing) → Event → WorldView R → Happening
happening stands e w = happens stands e (λ line. is_begun line w.history) w.sites w.lives

-- ---- what becomes of the client of the session that it names

-- a slot holds what it held
abbrev pub AreSlotsBut : {R : Type 0} → (slot : ℕ) → (old new : SessionView R) → Type 0
AreSlotsBut slot old new = (other : ℕ) → other ≢ slot → held_in other new.slots ≡ held_in other old.slots

pub record IsSameClient {R : Type 0} (old new : SessionView R) : Type 0 where
  pub instance : new.instance ≡ old.instance
  pub home : new.home ≡ old.home

-- what the client keeps of the other slots stays
abbrev pub AreStatesBut : {R : Type 0} → (slot : ℕ) → (old new : ClientView R) → Type 0
AreStatesBut slot old new = (other : ℕ) → other ≢ slot → slot_state other new.slots ≡ slot_state other old.slots

-- what a client counts of locks, its release under way and what it heard are as they were
pub record IsSameHouse {R : Type 0} (old new : ClientView R) : Type 0 where
  pub locks : new.locks ≡ old.locks
  pub release : new.release ≡ old.release
  pub heard : new.heard ≡ old.heard

-- A life without requests, which knows of no lock, lets none go, and has heard nothing: no line is
-- held, each slot is free, and slot 1 is the first to be given.
pub record IsFresh {R : Type 0} (who : Instance) (home : SiteId) (c : ClientView R) : Type 0 where
  pub instance : c.session.instance ≡ who
  pub at_home : c.session.home ≡ home
  pub slots : (slot : ℕ) → held_in slot c.session.slots ≡ None
  pub lowest : c.session.lowest ≡ 1
  pub lines : c.session.lines.entries ≡ []
  pub states : (slot : ℕ) → slot_state slot c.slots ≡ blank_slot
  pub many : (length c.session.slots ≡ 65) × (length c.slots ≡ 65)
  pub noted : c.locks.entries ≡ []
  pub asked : c.locks.asked ≡ []
  pub release : c.release ≡ None
  pub heard : c.heard ≡ []

abbrev pub IsFreshIf : {R : Type 0} → Instance → SiteId → Option (ClientView R) → Type 0
IsFreshIf who home None = ⊥
IsFreshIf who home (Some c) = IsFresh who home c

module _ {R : Type 0} (stands : R → Standing) where
  -- the lowest free slot has the command's request, at its beginning
  pub record Begins (line : ℕ) (c : Command) (old new : SessionView R) : Type 0 where
    pub held : IsNewcomer stands IsPlanFor changed_extent (seat_of old) line c (held_in old.lowest new.slots)
    pub slots : AreSlotsBut old.lowest old new
    pub lines : new.lines ≡ old.lines
    pub client : IsSameClient old new

  pub record BeginsIn (line : ℕ) (c : Command) (old new : ClientView R) : Type 0 where
    pub begins : Begins line c old.session new.session
    pub state : slot_state old.session.lowest new.slots ≡ newcomer (quiescing_of c)
    pub states : AreStatesBut old.session.lowest old new
    pub house : IsSameHouse old new

  -- who acts at the slot was fed the answer: the request, its way, or a release
  pub record Goes (slot : ℕ) (o : Operation) (result : Option Reply) (old new : ClientView R) : Type 0 where
    pub fed : IsFedBy stands slot o.site o.op (fed.Answer o.answer) result old new (actor_at stands slot old)
    pub slots : AreSlotsBut slot old.session new.session
    pub states : AreStatesBut slot old new
    pub others : LeavesOthers slot (lines_of old.session.lines) (lines_of new.session.lines)
    pub client : IsSameClient old.session new.session
    pub heard : new.heard ≡ old.heard

  -- a request that was refused before any operation has its reply, and its slot is free
  pub record Serves (slot : ℕ) (old new : ClientView R) : Type 0 where
    pub held : held_in slot new.session.slots ≡ None
    pub slots : AreSlotsBut slot old.session new.session
    pub states : AreStatesBut slot old new
    pub lines : new.session.lines ≡ old.session.lines
    pub client : IsSameClient old.session new.session
    pub house : IsSameHouse old new

  -- the client has heard the notice
  pub record Hears (notice : Notice) (old new : ClientView R) : Type 0 where
    pub session : new.session ≡ old.session
    pub slots : new.slots ≡ old.slots
    pub release : new.release ≡ old.release
    pub locks : (s : SiteId) (image : ℕ)
        → lock_state_at s image new.locks ≡ heard notice s image (lock_state_at s image old.locks)
    pub told : new.heard ≡ heard_with notice old.heard

  abbrev pub Becomes : Event → Happening → (old new : ClientView R) → Type 0
  Becomes (event.Submit session line c) (Began asked slot) old new = BeginsIn line c old new
  Becomes (event.Poll session slot) (Did o reply) old new = Goes slot o reply old new
  Becomes (event.Poll session slot) (Refused s line reply) old new = Serves slot old new
  Becomes (event.Deliver number) (Heard notice) old new = Hears notice old new
  Becomes e h old new = new ≡ old

  -- what becomes of the client that the event names, of one that runs or of none
  abbrev pub BecomesOf : Event → Happening → (old new : Option (ClientView R)) → Type 0
  BecomesOf e h None new = new ≡ None
  BecomesOf e h (Some old) None = ⊥
  BecomesOf e h (Some old) (Some new) = Becomes e h old new

  -- what becomes of a session's client: a stopped session has none, and a restarted one a new one
  abbrev pub RunsOn : Event → Happening → SiteId → (old new : Option (ClientView R)) → Type 0
  RunsOn e (Stopped who wanted lost) home old new = new ≡ None
  RunsOn e (Restarted who) home old new = IsFreshIf who home new
  RunsOn e h home old new = BecomesOf e h old new

-- ---- and of its lives

abbrev pub latest_behind : Happening → Instance → Instance
latest_behind (Restarted who) latest = who
latest_behind h latest = latest

-- without what a slot wanted, once that has come
abbrev pub without_sent : (slot : ℕ) → Option LateView → Option LateView
without_sent slot None = None
without_sent slot (Some l) = Some (record { instance = l.instance; wanted = slice_set l.wanted slot None })

abbrev pub late_behind : Event → Happening → Option LateView → Option LateView
late_behind e (Stopped who wanted lost) late = Some (record { instance = who; wanted = wanted })
late_behind (event.Late session slot) (Did o reply) late = without_sent slot late
late_behind e h late = late

module _ {R : Type 0} (stands : R → Standing) where
  pub record LivesOn (e : Event) (h : Happening) (old new : LivesView R) : Type 0 where
    pub home : new.home ≡ old.home
    pub latest : new.latest ≡ latest_behind h old.latest
    pub running : RunsOn stands e h old.home old.running new.running
    pub late : new.late ≡ late_behind e h old.late

  -- of a session that is there, or of none
  abbrev pub LivesOnIf : Event → Happening → (old new : Option (LivesView R)) → Type 0
  LivesOnIf e h None new = new ≡ None
  LivesOnIf e h (Some old) None = ⊥
  LivesOnIf e h (Some old) (Some new) = LivesOn e h old new

-- the session that an event names: a delivery that of the instance that hears
abbrev pub hears_in : Happening → (session : ℕ) → Bool
hears_in (Heard notice) session = notice.to.session == session
hears_in h session = false

abbrev pub names_session : Event → Happening → (session : ℕ) → Bool
names_session (event.Submit named line c) h session = named == session
names_session (event.Poll named slot) h session = named == session
names_session (event.Deliver number) h session = hears_in h session
names_session (event.Expire named s image) h session = false
names_session (event.Stop named) h session = named == session
names_session (event.Late named slot) h session = named == session
names_session (event.Restart named) h session = named == session
names_session (event.Trim s image object) h session = false

-- ---- the whole step

abbrev pub with_log_lines : List Done → SiteLog → SiteLog
with_log_lines lines s = record s { log = s.log ++ lines }

abbrev pub call_of : Event → Happening → Call
call_of e h = record { event = e; outcome = outcome_of h }

-- the mail behind it
abbrev pub mail_then : Happening → Sites → List Notice
mail_then (Did o reply) sites =
    mail_after (site_in o.site sites).id (records_in o.site sites) o.instance o.op sites.mail
mail_then h sites = sites.mail

module _ {R : Type 0} (stands : R → Standing) where
  -- The event did this: its call is one more, history, logs and mail have what belongs to it, and
  -- no session changed but the one that it names.
  pub record Does (e : Event) (h : Happening) (old new : WorldView R) : Type 0 where
    pub calls : new.calls ≡ old.calls ++ call_of e h ∷ []
    pub history : new.history ≡ old.history ++ entries_of h
    pub sites : (s : SiteId) → site_in s new.sites ≡ with_log_lines (lines_at s h) (site_in s old.sites)
    pub mail : new.sites.mail ≡ mail_then h old.sites
    pub named : (session : ℕ) → names_session e h session ≡ true
        → LivesOnIf stands e h (lives_in session old.lives) (lives_in session new.lives)
    pub others : (session : ℕ) → names_session e h session ≡ false
        → lives_in session new.lives ≡ lives_in session old.lives

  abbrev pub IsWorldStep : Event → (old : WorldView R) → Outcome → (new : WorldView R) → Type 0
  IsWorldStep e old result new = (result ≡ outcome_of (happening stands e old))
      × Does e (happening stands e old) old new

  -- a step that is refused memory: all is as it was, but for what a client is ready for
  abbrev pub IsClientAlikeIf : (old new : Option (ClientView R)) → Type 0
  IsClientAlikeIf None new = new ≡ None
  IsClientAlikeIf (Some old) None = ⊥
  IsClientAlikeIf (Some old) (Some new) = IsClientAlike stands old new

  pub record AreLivesAlike (old new : LivesView R) : Type 0 where
    pub home : new.home ≡ old.home
    pub latest : new.latest ≡ old.latest
    pub running : IsClientAlikeIf old.running new.running
    pub late : new.late ≡ old.late

  abbrev pub IsAlikeOf : (old new : Option (LivesView R)) → Type 0
  IsAlikeOf None new = new ≡ None
  IsAlikeOf (Some old) None = ⊥
  IsAlikeOf (Some old) (Some new) = AreLivesAlike old new

  pub record IsUndone (old new : WorldView R) : Type 0 where
    pub sites : new.sites ≡ old.sites
    pub lives : (session : ℕ) → IsAlikeOf (lives_in session old.lives) (lives_in session new.lives)
    pub history : new.history ≡ old.history
    pub calls : new.calls ≡ old.calls

-- ---- on its parts

-- what an event does to one site, and what holds of the site again
pub record DoesAt (s : SiteId) (h : Happening) (old new : SiteLog) : Type 0 where
  pub site : new ≡ with_log_lines (lines_at s h) old
  pub records : records_of new ≡ records_behind s (records_of old) h
  pub form : AreInForm (records_of old) (length old.log) → AreInForm (records_of new) (length new.log)

-- what an event does to both sites and to the mail
pub record DoesAtSites (h : Happening) (old new : Sites) : Type 0 where
  pub sites : (s : SiteId) → site_in s new ≡ with_log_lines (lines_at s h) (site_in s old)
  pub records : (s : SiteId) → records_in s new ≡ records_behind s (records_in s old) h
  pub form : (s : SiteId) → AreInForm (records_in s old) (length (site_in s old).log)
      → AreInForm (records_in s new) (length (site_in s new).log)
  pub mail : new.mail ≡ mail_then h old

-- no site changed
pub record AreSameSites (old new : Sites) : Type 0 where
  pub sites : (s : SiteId) → site_in s new ≡ site_in s old
  pub mail : new.mail ≡ old.mail

-- The operation may be done at its site, and the answer is one that it can give. Where the site's
-- records stand for a flat site, it is a step of the flat-copy machine there, or none.
pub record IsPermitted (sites : Sites) (who : Instance) (s : SiteId) (o : Op) : Type 0 where
  pub may : MayDo (records_in s sites) who o
  pub gives : CanGive o (answer_to (records_in s sites) who o)
  pub steps : (f : Flat) → StandsFor [] (records_in s sites) f
      → StandsFor [] (after (records_in s sites) who o)
      (changed_by f (effect_of (records_in s sites) (done.Op o) (answer_to (records_in s sites) who o)))

-- what a slot of a stopped life may still send may be done as well
abbrev pub MayCome : Sites → Option Sent → Type 0
MayCome sites None = Unit {0}
MayCome sites (Some x) = IsPermitted sites x.instance x.site x.op

module _ {R : Type 0} (stands : R → Standing) where
  -- what becomes of the sessions: those that the event doesn't name stay
  pub record DoesToLives (e : Event) (h : Happening) (old new : List (LivesView R)) : Type 0 where
    pub named : (session : ℕ) → names_session e h session ≡ true
        → LivesOnIf stands e h (lives_in session old) (lives_in session new)
    pub others : (session : ℕ) → names_session e h session ≡ false → lives_in session new ≡ lives_in session old
    pub sound : (session : ℕ) (c : ClientView R) → names_session e h session ≡ true → client_in session new ≡ Some c
        → IsSoundClient stands c

  abbrev pub IsSoundIf : Option (ClientView R) → Type 0
  IsSoundIf None = Unit {0}
  IsSoundIf (Some c) = IsSoundClient stands c

  -- the sessions that a refused step leaves
  pub record LeavesLives (old new : List (LivesView R)) : Type 0 where
    pub alike : (session : ℕ) → IsAlikeOf stands (lives_in session old) (lives_in session new)
    pub sound : (session : ℕ) → IsSoundIf (client_in session old) → IsSoundIf (client_in session new)

  -- what a slot wants that may go on is permitted at its site
  abbrev pub WantsWhatItMay : Sites → (slot : ℕ) → ClientView R → Type 0
  WantsWhatItMay sites slot c = (s : SiteId) (o : Op) → op_wanted stands slot c ≡ Some (s, o)
      → IsPermitted sites c.session.instance s o

  -- and a lock that it would drop may be dropped: no request of its client relies on it
  abbrev pub DropsWhatItMay : (slot : ℕ) → ClientView R → Type 0
  DropsWhatItMay slot c = (s : SiteId) (o : Op) → op_wanted stands slot c ≡ Some (s, o)
      → DropsAtRest (actor_at stands slot c) s o c

-- the lines that were begun behind it
abbrev pub begun_behind : (begun : (line : ℕ) → Bool) → Happening → (line : ℕ) → Bool
begun_behind begun h line = begun line || is_begun line (entries_of h)

module _ {R : Type 0} (stands : R → Standing) where
  -- what an event does to all parts
  pub record DoesToParts (e : Event) (h : Happening) (old_sites new_sites : Sites) (old new : List (LivesView R))
      (old_begun new_begun : BegunLines) : Type 0 where
    pub sites : DoesAtSites h old_sites new_sites
    pub lives : DoesToLives stands e h old new
    pub begun : (line : ℕ) → has_line line new_begun ≡ begun_behind (λ l. has_line l old_begun) h line

  -- what is left of them where it was refused memory
  pub record LeavesParts (old_sites new_sites : Sites) (old new : List (LivesView R))
      (old_begun new_begun : BegunLines) : Type 0 where
    pub sites : AreSameSites old_sites new_sites
    pub lives : LeavesLives stands old new
    pub begun : (line : ℕ) → has_line line new_begun ≡ has_line line old_begun

  -- A step of all parts: what it does to them, what history and calls have more, and its outcome.
  pub record StepsParts (e : Event) (h : Happening) (old_sites new_sites : Sites) (old new : List (LivesView R))
      (old_begun new_begun : BegunLines)
      (old_history new_history : List Entry) (old_calls new_calls : List Call) (result : Outcome) : Type 0 where
    pub parts : DoesToParts e h old_sites new_sites old new old_begun new_begun
    pub history : new_history ≡ old_history ++ entries_of h
    pub calls : new_calls ≡ old_calls ++ call_of e h ∷ []
    pub outcome : result ≡ outcome_of h

-- ---- what is asked of an event

-- the command of a submission is built
abbrev pub IsBuiltEvent : Event → Type 0
IsBuiltEvent (event.Submit session line c) = is_built c ≡ true
IsBuiltEvent e = Unit {0}

-- What contracts see of a world.
use Rattle.std.specs.Prelude.{ℕ, List, [], Option, Some, None, slice_get}
use Rattle.rbd_client.specs.Actor.{kind_wanted}
use Rattle.rbd_client.specs.Client.{ClientView}
use Rattle.rbd_flat.specs.declared.entry.Entry.{Entry}
use Rattle.rbd_kinds.specs.declared.id.Instance.{Instance}
use Rattle.rbd_kinds.specs.declared.id.SiteId.{SiteId}
use Rattle.rbd_kinds.specs.declared.id.SiteId.TheVariants as site
use Rattle.rbd_kinds.specs.declared.notice.Notice.{Notice}
use Rattle.rbd_kinds.specs.declared.operation.Op.{Op}
use Rattle.rbd_kinds.specs.declared.operation_kind.OpKind.{OpKind}
use Rattle.rbd_machine.specs.Plan.{Standing}
use Rattle.rbd_slots.specs.Session.{SessionView, free_slot, held_in}
use Rattle.rbd_site.specs.Log.{SiteLog, records_of}
use Rattle.rbd_site.specs.Records.{Records}
use Rattle.rbd_world.specs.Run.{Sent, sent_of}
use Rattle.rbd_world.specs.declared.event.Call.{Call}
use Rattle.rbd_world.specs.declared.sites.Sites.{Sites}

-- operations in flight when the instance stopped: what each of its slots wanted then, where it
-- hasn't come yet
pub record LateView : Type 0 where
  pub instance : Instance
  pub wanted : List (Option (SiteId × Op))

-- The lives of a session at its home: the latest one, its client while it runs, and what the life
-- that was stopped last may still send.
pub record LivesView (R : Type 0) : Type 0 where
  pub home : SiteId
  pub latest : Instance
  pub running : Option (ClientView R)
  pub late : Option LateView

-- both sites by their logs, and their mail; the sessions by their numbers, each with its lives; and
-- what happened: the history, and the calls
pub record WorldView (R : Type 0) : Type 0 where
  pub sites : Sites
  pub lives : List (LivesView R)
  pub history : List Entry
  pub calls : List Call

-- ---- sites

abbrev pub site_in : SiteId → Sites → SiteLog
site_in site.A sites = sites.a
site_in site.B sites = sites.b

-- a site's records, as its log leaves them
abbrev pub records_in : SiteId → Sites → Records
records_in s sites = records_of (site_in s sites)

-- ---- sessions

abbrev pub lives_in : {R : Type 0} → (session : ℕ) → List (LivesView R) → Option (LivesView R)
lives_in session lives = slice_get lives session

abbrev pub running_of : {R : Type 0} → Option (LivesView R) → Option (ClientView R)
running_of None = None
running_of (Some l) = l.running

abbrev pub late_of : {R : Type 0} → Option (LivesView R) → Option LateView
late_of None = None
late_of (Some l) = l.late

-- the client of a session that is there and runs
abbrev pub client_in : {R : Type 0} → (session : ℕ) → List (LivesView R) → Option (ClientView R)
client_in session lives = running_of (lives_in session lives)

abbrev pub session_of_client : {R : Type 0} → Option (ClientView R) → Option (SessionView R)
session_of_client None = None
session_of_client (Some c) = Some c.session

-- the requests of a session that is there and runs
abbrev pub session_in : {R : Type 0} → (session : ℕ) → List (LivesView R) → Option (SessionView R)
session_in session lives = session_of_client (client_in session lives)

-- what a slot of a session may still send of its stopped life
abbrev pub sent_in : (slot : ℕ) → Option LateView → Option Sent
sent_in slot None = None
sent_in slot (Some l) = sent_of l.instance (held_in slot l.wanted)

abbrev pub late_at : {R : Type 0} → (session slot : ℕ) → List (LivesView R) → Option Sent
late_at session slot lives = sent_in slot (late_of (lives_in session lives))

-- the lowest free slot of a client that is there
abbrev pub free_in : {R : Type 0} → Option (ClientView R) → Option ℕ
free_in None = None
free_in (Some c) = free_slot c.session.lowest

-- the kind of a slot's next operation
abbrev pub kind_in : {R : Type 0} → (stands : R → Standing) → (slot : ℕ) → Option (ClientView R)
    → Option (SiteId × OpKind)
kind_in stands slot None = None
kind_in stands slot (Some c) = kind_wanted stands slot c

-- what the life that runs was told by other clients
abbrev pub heard_in : {R : Type 0} → Option (ClientView R) → List Notice
heard_in None = []
heard_in (Some c) = c.heard

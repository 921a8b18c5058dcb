-- Where a request of `snap create` or `snap rm` stands.
use Rattle.std.specs.Prelude.{ℕ, List, Option, Some}
use Rattle.rbd_commands.specs.declared.refusal.Refusal.{Refusal}
use Rattle.rbd_kinds.specs.declared.sharing.Sharing.{Sharing}
use Rattle.rbd_kinds.specs.declared.sharing.Sharing.TheVariants as sharing
use Rattle.rbd_kinds.specs.declared.answer.Answer.{Answer}
use Rattle.rbd_kinds.specs.declared.header.HeaderView.{HeaderView}
use Rattle.rbd_kinds.specs.declared.id.SiteId.{SiteId}
use Rattle.rbd_kinds.specs.declared.journal.JournalEvent.{JournalEvent}
use Rattle.rbd_kinds.specs.declared.journal.JournalEvent.TheVariants as event
use Rattle.rbd_machine.specs.Plan.{Plan}
use Rattle.rbd_change.specs.Request as of_change
use Rattle.rbd_change.specs.declared.request.ChangeRequest.{ChangeRequest}
use Rattle.rbd_meaning.specs.Snaps.{create_refuses, remove_refuses}
use Rattle.rbd_snap.specs.Snap.{take, remove_snap_plan}
use Rattle.rbd_snap.specs.SnapParts.{rest_of_taking, TellsTaking, HasBits, rest_of_removing, TellsRemoving}
use Rattle.rbd_snap.specs.declared.snap.ChangeKind.{ChangeKind}
use Rattle.rbd_snap.specs.declared.snap.ChangeKind.TheVariants as kind
use Rattle.rbd_snap.specs.declared.snap.SnapChange.{SnapChange}
use Rattle.rbd_snap.specs.declared.snap.SnapPart.{SnapPart}
use Rattle.rbd_snap.specs.declared.snap.SnapPart.TheVariants as part

-- ---- its part, one of the two

abbrev pub rest_of_part : SnapPart → (next : Plan) → Plan
rest_of_part (part.Take t) next = rest_of_taking t next
rest_of_part (part.Remove r) next = rest_of_removing r next

abbrev pub TellsPart : SnapPart → Answer → Type 0
TellsPart (part.Take t) = TellsTaking t.stage
TellsPart (part.Remove r) = TellsRemoving r.stage

abbrev pub IsPartReady : SnapPart → Answer → Type 0
IsPartReady (part.Take t) a = HasBits t a
IsPartReady (part.Remove r) a = Unit {0}

-- ---- its change: what it refuses, its event, and what it does then

abbrev pub refuses_by : ChangeKind → (snap : List ℕ) → HeaderView → Option Refusal
refuses_by kind.Create = create_refuses
refuses_by kind.Remove = remove_refuses

abbrev pub refuses_of : SnapChange → HeaderView → Option Refusal
refuses_of change = refuses_by change.kind change.snap

abbrev pub event_by : ChangeKind → (snap : List ℕ) → JournalEvent
event_by kind.Create = event.SnapCreate
event_by kind.Remove = event.SnapRemove

abbrev pub shares_of : SnapChange → Sharing
shares_of change = sharing.Alone

abbrev pub event_of : SnapChange → Option JournalEvent
event_of change = Some (event_by change.kind change.snap)

abbrev pub does_by : ChangeKind → SiteId → (snap : List ℕ) → (image : ℕ) → HeaderView → Plan
does_by kind.Create = take
does_by kind.Remove = remove_snap_plan

abbrev pub does : SnapChange → SiteId → (image : ℕ) → HeaderView → Plan
does change site = does_by change.kind site change.snap

-- ---- the request

-- what is left of one
abbrev pub rest_of_snap : ChangeRequest SnapChange SnapPart → Plan
rest_of_snap r = of_change.rest_of_change refuses_of event_of does rest_of_part r

-- the memory that an answer needs
abbrev pub IsReady : ChangeRequest SnapChange SnapPart → Answer → Type 0
IsReady r a = of_change.IsReady refuses_of event_of does rest_of_part IsPartReady r a

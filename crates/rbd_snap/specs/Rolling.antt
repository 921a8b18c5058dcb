-- Where a rollback stands, as a part of a request and as a request.
use Rattle.std.specs.Prelude.{ℕ, Option, Some}
use Rattle.rbd_commands.specs.declared.refusal.Refusal.{Refusal}
use Rattle.rbd_kinds.specs.declared.sharing.Sharing.{Sharing}
use Rattle.rbd_kinds.specs.declared.sharing.Sharing.TheVariants as sharing
use Rattle.rbd_kinds.specs.declared.answer.Answer.{Answer}
use Rattle.rbd_kinds.specs.declared.header.HeaderView.{HeaderView}
use Rattle.rbd_kinds.specs.declared.id.SiteId.{SiteId}
use Rattle.rbd_kinds.specs.declared.journal.JournalEvent.{JournalEvent}
use Rattle.rbd_kinds.specs.declared.journal.JournalEvent.TheVariants as event
use Rattle.rbd_machine.specs.Plan.{Plan}
use Rattle.rbd_change.specs.Request as of_change
use Rattle.rbd_change.specs.declared.request.ChangeRequest.{ChangeRequest}
use Rattle.rbd_meaning.specs.Rollbacks.{rollback_refuses}
use Rattle.rbd_pieces.specs.Size as of_size
use Rattle.rbd_pieces.specs.Size.{rest_of_size}
use Rattle.rbd_snap.specs.Restore as of_restore
use Rattle.rbd_snap.specs.Restore.{rest_of_restore, rest_of_some}
use Rattle.rbd_snap.specs.Rollback.{roll_back_to}
use Rattle.rbd_snap.specs.declared.rollback.Rollback.{Rollback}
use Rattle.rbd_snap.specs.declared.rollback.Stage as part
use Rattle.rbd_snap.specs.declared.rollback.Stage.TheVariants as part_stage
use Rattle.rbd_snap.specs.declared.rollback_request.RollbackChange.{RollbackChange}

-- ---- the part

abbrev pub rest_from : part.Stage → (next : Plan) → Plan
rest_from (part_stage.Sizing size objects) next = rest_of_size size (rest_of_some objects next)
rest_from (part_stage.Restoring objects) next = rest_of_restore objects next

-- what is left of one
abbrev pub rest_of_rollback : Rollback → (next : Plan) → Plan
rest_of_rollback r next = rest_from r.stage next

-- what its operation may be answered
abbrev pub TellsAt : part.Stage → Answer → Type 0
TellsAt (part_stage.Sizing size objects) = of_size.Tells size.stage
TellsAt (part_stage.Restoring objects) = of_restore.Tells objects.stage

abbrev pub Tells : Rollback → Answer → Type 0
Tells r = TellsAt r.stage

-- the memory that an answer needs
abbrev pub IsPartReadyAt : part.Stage → Answer → Type 0
IsPartReadyAt (part_stage.Sizing size objects) = of_size.IsReady size
IsPartReadyAt (part_stage.Restoring objects) = of_restore.IsReady objects

abbrev pub IsPartReady : Rollback → Answer → Type 0
IsPartReady r = IsPartReadyAt r.stage

-- ---- the change of the request: what it refuses, its event, and what it does then

abbrev pub refuses_of : RollbackChange → HeaderView → Option Refusal
refuses_of change = rollback_refuses change.snap

abbrev pub shares_of : RollbackChange → Sharing
shares_of change = sharing.Alone

abbrev pub event_of : RollbackChange → Option JournalEvent
event_of change = Some (event.SnapRollback change.snap)

abbrev pub does : RollbackChange → SiteId → (image : ℕ) → HeaderView → Plan
does change site = roll_back_to site change.snap

-- ---- the request

-- what is left of one
abbrev pub rest_of_rollback_request : ChangeRequest RollbackChange Rollback → Plan
rest_of_rollback_request r = of_change.rest_of_change refuses_of event_of does rest_of_rollback r

-- the memory that an answer needs
abbrev pub IsReady : ChangeRequest RollbackChange Rollback → Answer → Type 0
IsReady r a = of_change.IsReady refuses_of event_of does rest_of_rollback IsPartReady r a

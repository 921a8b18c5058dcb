-- `resize`: the size of the head is set.
use Rattle.std.specs.Prelude.{ℕ, List, Bool, true, false, Option, Some}
use Rattle.rbd_commands.specs.declared.command.Command.{Command}
use Rattle.rbd_commands.specs.declared.command.Command.TheVariants as command
use Rattle.rbd_commands.specs.declared.refusal.Refusal.{Refusal}
use Rattle.rbd_commands.specs.declared.refusal.Refusal.TheVariants as refusal
use Rattle.rbd_kinds.specs.declared.sharing.Sharing.{Sharing}
use Rattle.rbd_kinds.specs.declared.sharing.Sharing.TheVariants as sharing
use Rattle.rbd_kinds.specs.declared.answer.Answer.{Answer}
use Rattle.rbd_kinds.specs.declared.header.HeaderView.{HeaderView}
use Rattle.rbd_kinds.specs.declared.id.SiteId.{SiteId}
use Rattle.rbd_kinds.specs.declared.journal.JournalEvent.{JournalEvent}
use Rattle.rbd_kinds.specs.declared.journal.JournalEvent.TheVariants as event
use Rattle.rbd_machine.specs.Plan.{Plan, Note}
use Rattle.rbd_machine.specs.Steps.{refused, change_plan, applied}
use Rattle.rbd_change.specs.Request as of_change
use Rattle.rbd_change.specs.declared.request.ChangeRequest.{ChangeRequest}
use Rattle.rbd_meaning.specs.Resizes.{resize_refuses}
use Rattle.rbd_pieces.specs.Size as of_size
use Rattle.rbd_pieces.specs.Size.{resize, rest_of_size}
use Rattle.rbd_meaning.specs.Count.{object_count}
use Rattle.rbd_image.specs.declared.resize.NewSize.{NewSize}
use Rattle.rbd_image.specs.declared.resize.SizeChange.{SizeChange}

-- the commands that it serves
abbrev pub is_resize : Command → Bool
is_resize (command.Resize image size) = true
is_resize _ = false

-- its event is noted, then the size is set, and then the event counts as applied
abbrev pub set_size : SiteId → (to : ℕ) → (image : ℕ) → HeaderView → Plan
set_size site to image h =
    Note site image (event.Resize to) (resize site image h to (object_count h.layout to) (applied site image))

abbrev pub size_change : SiteId → (name : List ℕ) → (to : ℕ) → Plan
size_change site name to = change_plan site name sharing.Alone (resize_refuses to) (set_size site to)

abbrev pub resize_plan : SiteId → Command → Plan
resize_plan site (command.Resize image size) = size_change site image size
resize_plan site _ = refused refusal.NoImage

-- ---- its change: what it refuses, beside whom it goes, its event, and what it does then

abbrev pub refuses_of : SizeChange → HeaderView → Option Refusal
refuses_of change = resize_refuses change.to

abbrev pub shares_of : SizeChange → Sharing
shares_of change = sharing.Alone

abbrev pub event_of : SizeChange → Option JournalEvent
event_of change = Some (event.Resize change.to)

abbrev pub does : SizeChange → SiteId → (image : ℕ) → HeaderView → Plan
does change site = set_size site change.to

-- ---- its part, a new size

abbrev pub rest_of_new_size : NewSize → (next : Plan) → Plan
rest_of_new_size n next = rest_of_size n.size next

abbrev pub TellsNewSize : NewSize → Answer → Type 0
TellsNewSize n = of_size.Tells n.size.stage

abbrev pub IsNewSizeReady : NewSize → Answer → Type 0
IsNewSizeReady n = of_size.IsReady n.size

-- ---- the request

-- what is left of one
abbrev pub rest_of_resize : ChangeRequest SizeChange NewSize → Plan
rest_of_resize r = of_change.rest_of_change refuses_of event_of does rest_of_new_size r

-- the memory that an answer needs
abbrev pub IsReady : ChangeRequest SizeChange NewSize → Answer → Type 0
IsReady r a = of_change.IsReady refuses_of event_of does rest_of_new_size IsNewSizeReady r a

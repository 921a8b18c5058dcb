-- `snap create` and `snap rm`: the plans of their parts, and those of changes that are alone on
-- their image.
use Rattle.std.specs.Prelude.{ℕ, ◌+◌, List, Bool, true, false, Option, Some, None}
use Rattle.rbd_kinds.specs.declared.sharing.Sharing.TheVariants as sharing
use Rattle.rbd_kinds.specs.declared.answer.Answer.{Answer}
use Rattle.rbd_kinds.specs.declared.answer.Answer.TheVariants as answer
use Rattle.rbd_commands.specs.declared.command.Command.{Command}
use Rattle.rbd_commands.specs.declared.command.Command.TheVariants as command
use Rattle.rbd_kinds.specs.declared.header.HeaderView.{HeaderView}
use Rattle.rbd_kinds.specs.declared.header.SnapView.{SnapView}
use Rattle.rbd_kinds.specs.declared.header_op.HeaderOp.TheVariants as header
use Rattle.rbd_kinds.specs.declared.id.SiteId.{SiteId}
use Rattle.rbd_kinds.specs.declared.map_op.MapOp.TheVariants as states
use Rattle.rbd_kinds.specs.declared.journal.JournalEvent.TheVariants as event
use Rattle.rbd_kinds.specs.declared.operation.Op.TheVariants as op
use Rattle.rbd_commands.specs.declared.refusal.Refusal.TheVariants as refusal
use Rattle.rbd_kinds.specs.Header.{snap_named}
use Rattle.rbd_machine.specs.Plan.{Plan, Note}
use Rattle.rbd_machine.specs.Steps.{own, refused, not_there, on_bits, on_done, EndsIt, change_plan, applied}
use Rattle.rbd_meaning.specs.Snaps.{create_refuses, remove_refuses}

-- the commands that it serves
abbrev pub is_snap : Command → Bool
is_snap (command.SnapCreate image snap) = true
is_snap (command.SnapRemove image snap) = true
is_snap _ = false

-- ---- the steps that take one

abbrev pub on_snap : Plan → Answer → Plan
on_snap next (answer.Snap snap) = next
on_snap next a = not_there a

abbrev pub TellsSnap : Answer → Type 0
TellsSnap (answer.Snap snap) = Unit {0}
TellsSnap a = EndsIt a

abbrev pub taking_snap : SiteId → (snap : List ℕ) → (image : ℕ) → (next : Plan) → Plan
taking_snap site snap image next = own site (op.Header image (header.SnapAdd snap)) (on_snap next)

-- the head's states become the map of the snapshot that is taken next
abbrev pub putting : SiteId → (snap : List ℕ) → (image id : ℕ) → (next : Plan) → (bits : List ℕ) → Plan
putting site snap image id next bits =
    own site (op.Map image (states.Put (Some id) bits)) (on_done (taking_snap site snap image next))

abbrev pub copying : SiteId → (snap : List ℕ) → (image id : ℕ) → (next : Plan) → Plan
copying site snap image id next = own site (op.Map image (states.Get None)) (on_bits (putting site snap image id next))

-- ---- the steps that remove one

-- A map that isn't there needn't be removed.
abbrev pub on_gone : Plan → Answer → Plan
on_gone next answer.Done = next
on_gone next answer.Absent = next
on_gone next a = not_there a

abbrev pub TellsGone : Answer → Type 0
TellsGone answer.Done = Unit {0}
TellsGone a = EndsIt a

-- the map of a snapshot that isn't listed any more goes
abbrev pub unmapping : SiteId → (image snap : ℕ) → (next : Plan) → Plan
unmapping site image snap next = own site (op.Map image (states.Remove (Some snap))) (on_gone next)

abbrev pub removing : SiteId → (image snap : ℕ) → (next : Plan) → Plan
removing site image snap next =
    own site (op.Header image (header.SnapRemove snap)) (on_done (unmapping site image snap next))

-- ---- the commands

abbrev pub take : SiteId → (snap : List ℕ) → (image : ℕ) → HeaderView → Plan
take site snap image h =
    Note site image (event.SnapCreate snap) (copying site snap image (h.snap_seq + 1) (applied site image))

-- by the id that the look under the lock lists under the name
abbrev pub remove_listed : SiteId → (snap : List ℕ) → (image : ℕ) → Option SnapView → Plan
remove_listed site snap image None = refused refusal.NoSnap
remove_listed site snap image (Some listed) =
    Note site image (event.SnapRemove snap) (removing site image listed.id (applied site image))

abbrev pub remove_snap_plan : SiteId → (snap : List ℕ) → (image : ℕ) → HeaderView → Plan
remove_snap_plan site snap image h = remove_listed site snap image (snap_named h.snaps snap)

abbrev pub snap_plan : SiteId → Command → Plan
snap_plan site (command.SnapCreate image snap) = change_plan site image sharing.Alone (create_refuses snap)
    (take site snap)
snap_plan site (command.SnapRemove image snap) =
    change_plan site image sharing.Alone (remove_refuses snap) (remove_snap_plan site snap)
snap_plan site _ = refused refusal.NoImage

-- `snap rollback`: the head gets the size and the bytes that it had at a snapshot.
use Rattle.std.specs.Prelude.{ℕ, List, [], ◌∷◌, Bool, true, false, Option, Some, None}
use Rattle.rbd_commands.specs.declared.command.Command.{Command}
use Rattle.rbd_commands.specs.declared.command.Command.TheVariants as command
use Rattle.rbd_commands.specs.declared.refusal.Refusal.TheVariants as refusal
use Rattle.rbd_kinds.specs.declared.sharing.Sharing.TheVariants as sharing
use Rattle.rbd_kinds.specs.declared.header.HeaderView.{HeaderView}
use Rattle.rbd_kinds.specs.declared.header.SnapView.{SnapView}
use Rattle.rbd_kinds.specs.declared.id.SiteId.{SiteId}
use Rattle.rbd_kinds.specs.declared.journal.JournalEvent.TheVariants as event
use Rattle.rbd_kinds.specs.Header.{snap_named}
use Rattle.rbd_layout.specs.Pieces.{pieces_of}
use Rattle.rbd_layout.specs.declared.types.Piece.{Piece}
use Rattle.rbd_machine.specs.Plan.{Plan, Note}
use Rattle.rbd_machine.specs.Steps.{refused, change_plan, applied}
use Rattle.rbd_meaning.specs.Rollbacks.{at_size, rollback_refuses}
use Rattle.rbd_pieces.specs.Gather.{gather}
use Rattle.rbd_pieces.specs.Full.{full_piece}
use Rattle.rbd_pieces.specs.Size.{resize}
use Rattle.rbd_pieces.specs.Zero.{head_of}
use Rattle.rbd_meaning.specs.Count.{object_count}

-- the commands that it serves
abbrev pub is_rollback : Command → Bool
is_rollback (command.SnapRollback image snap) = true
is_rollback _ = false

-- ---- the steps

-- a piece is read at a snapshot, and what it shows replaces the head's object
abbrev pub restore : SiteId → (image : ℕ) → HeaderView → (snap : ℕ) → Piece → (next : Plan) → Plan
restore site image h snap p next =
    gather site image (Some snap) (p ∷ []) [] (λ bytes. full_piece site image h p bytes next)

-- one piece after another
abbrev pub restore_pieces : SiteId → (image : ℕ) → HeaderView → (snap : ℕ) → List Piece → (next : Plan) → Plan
restore_pieces site image h snap [] next = next
restore_pieces site image h snap (p ∷ pieces) next =
    restore site image h snap p (restore_pieces site image h snap pieces next)

-- all objects of the head, by the header at the snapshot's size
abbrev pub restore_all : SiteId → (image : ℕ) → HeaderView → (snap : ℕ) → (next : Plan) → Plan
restore_all site image h snap next = restore_pieces site image h snap (pieces_of h.layout (head_of h)) next

-- The size is set first, to that of the snapshot.
abbrev pub roll_back : SiteId → (image : ℕ) → HeaderView → (listed : SnapView) → (next : Plan) → Plan
roll_back site image h listed next =
    resize site image h listed.size (object_count h.layout listed.size)
    (restore_all site image (at_size listed.size h) listed.id next)

-- ---- the command

-- by the snapshot that the look under the lock lists under the name
abbrev pub roll_back_listed : SiteId → (snap : List ℕ) → (image : ℕ) → HeaderView → Option SnapView → Plan
roll_back_listed site snap image h None = refused refusal.NoSnap
roll_back_listed site snap image h (Some listed) =
    Note site image (event.SnapRollback snap) (roll_back site image h listed (applied site image))

abbrev pub roll_back_to : SiteId → (snap : List ℕ) → (image : ℕ) → HeaderView → Plan
roll_back_to site snap image h = roll_back_listed site snap image h (snap_named h.snaps snap)

abbrev pub rollback : SiteId → (name snap : List ℕ) → Plan
rollback site name snap = change_plan site name sharing.Alone (rollback_refuses snap) (roll_back_to site snap)

abbrev pub rollback_plan : SiteId → Command → Plan
rollback_plan site (command.SnapRollback image snap) = rollback site image snap
rollback_plan site _ = refused refusal.NoImage

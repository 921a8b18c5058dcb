-- A rollback goes to no label of its own.
use Rattle.std.proofs.Common.{ℕ, List, [], ◌∷◌, Option, Some, None}
use Rattle.rbd_commands.specs.declared.command.Command.{Command}
use Rattle.rbd_commands.specs.declared.command.Command.TheVariants as command
use Rattle.rbd_kinds.specs.declared.sharing.Sharing.TheVariants as sharing
use Rattle.rbd_kinds.specs.declared.header.HeaderView.{HeaderView}
use Rattle.rbd_kinds.specs.declared.header.SnapView.{SnapView}
use Rattle.rbd_kinds.specs.declared.id.SiteId.{SiteId}
use Rattle.rbd_kinds.specs.Header.{snap_named}
use Rattle.rbd_layout.specs.declared.types.Piece.{Piece}
use Rattle.rbd_layout.specs.Pieces.{pieces_of}
use Rattle.rbd_machine.specs.Label.{Label}
use Rattle.rbd_machine.specs.Plan.{Plan, Goto, IsClosed}
use Rattle.rbd_machine.specs.Steps.{applied}
use Rattle.rbd_machine.proofs.Closed.{closed_change}
use Rattle.rbd_meaning.specs.Rollbacks.{at_size, rollback_refuses}
use Rattle.rbd_pieces.proofs.Closed.{closed_gather}
use Rattle.rbd_pieces.specs.Full.{full_piece}
use Rattle.rbd_pieces.specs.Zero.{head_of}
use Rattle.rbd_pieces.proofs.ZerosClosed.{closed_full, closed_resize}
use Rattle.rbd_meaning.specs.Count.{object_count}
use Rattle.rbd_snap.specs.Rollback.{restore_all, restore_pieces, roll_back, roll_back_listed, roll_back_to, rollback_plan}

module _ (labels : Label → Plan) where
  closed_pieces : (pieces : List Piece) (site : SiteId) (image : ℕ) (h : HeaderView) (snap : ℕ) (next : Plan) → IsClosed labels next → IsClosed labels (restore_pieces site image h snap pieces next)
  closed_pieces [] site image h snap next closed = closed
  closed_pieces (p ∷ pieces) site image h snap next closed =
      let later = restore_pieces site image h snap pieces next in
      closed_gather labels (p ∷ []) site image (Some snap) [] (λ bytes. full_piece site image h p bytes later) (λ bytes. closed_full labels site image h p bytes later (closed_pieces pieces site image h snap next closed))

  pub closed_roll_back : (site : SiteId) (image : ℕ) (h : HeaderView) (listed : SnapView) (next : Plan) → IsClosed labels next → IsClosed labels (roll_back site image h listed next)
  closed_roll_back site image h listed next closed =
      let head = at_size listed.size h in
      closed_resize labels site image h listed.size (object_count h.layout listed.size) (restore_all site image head listed.id next)
      (closed_pieces (pieces_of h.layout (head_of head)) site image head listed.id next closed)

closed_listed : (site : SiteId) (snap : List ℕ) (image : ℕ) (h : HeaderView) (listed : Option SnapView) → IsClosed Goto (roll_back_listed site snap image h listed)
closed_listed site snap image h None = tt
closed_listed site snap image h (Some listed) = closed_roll_back Goto site image h listed (applied site image) tt

pub closed_rollback_plan : (site : SiteId) (c : Command) → IsClosed Goto (rollback_plan site c)
closed_rollback_plan site (command.SnapRollback image snap) =
    closed_change Goto site image sharing.Alone (rollback_refuses snap) (roll_back_to site snap) (λ found h. closed_listed site snap found h (snap_named h.snaps snap))
closed_rollback_plan site _ = tt

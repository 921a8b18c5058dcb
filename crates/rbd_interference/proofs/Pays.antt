-- The plans of all commands pay the states that they set.
use Rattle.std.proofs.Common.{◌≡◌, ℕ, false, List, [], ◌∷◌, replicate, Some, None, refl}
use Rattle.rbd_commands.specs.declared.command.Command.{Command}
use Rattle.rbd_commands.specs.declared.command.Command.TheVariants as command
use Rattle.rbd_header.specs.Header.{context_of}
use Rattle.rbd_kinds.specs.declared.data_op.DataOp.TheVariants as object
use Rattle.rbd_kinds.specs.declared.header.HeaderView.{HeaderView}
use Rattle.rbd_kinds.specs.declared.id.SiteId.{SiteId}
use Rattle.rbd_kinds.specs.declared.sharing.Sharing.TheVariants as sharing
use Rattle.rbd_layout.specs.Pieces.{pieces_of}
use Rattle.rbd_layout.specs.declared.types.Piece.{Piece}
use Rattle.rbd_machine.specs.Plan.{Plan, Standing}
use Rattle.rbd_machine.specs.Steps.{applied}
use Rattle.rbd_machine.specs.declared.seat.Seat.{Seat}
use Rattle.rbd_meaning.specs.Range.{extent_at}
use Rattle.rbd_meaning.specs.Writes.{write_refuses}
use Rattle.rbd_parts.specs.Parts.{bytes_for}
use Rattle.rbd_data.specs.Discard.{discard}
use Rattle.rbd_image.specs.Remove.{remove_image}
use Rattle.rbd_data.specs.Write.{put_plan, write, write_pieces}
use Rattle.rbd_image.specs.Resize.{size_change}
use Rattle.rbd_snap.specs.Rollback.{rollback}
use Rattle.rbd_catalog.specs.Plans.{IsPlanFor, planned}
use Rattle.rbd_catalog.specs.Profile.{between, profile}
use Rattle.rbd_catalog.specs.EachRequest.{of_plan}
use Rattle.rbd_catalog.proofs.FollowsAll.{command_follows}
use Rattle.rbd_interference.specs.Owed.{PaysFrom}
use Rattle.rbd_interference.proofs.PaysChanges.{pays_discard, pays_rollback, pays_size_change}
use Rattle.rbd_interference.proofs.PaysRemoval.{pays_removal}
use Rattle.rbd_interference.proofs.PaysSteps.{Pays, pays_change, pays_making}
use Rattle.rbd_interference.proofs.Unowing.{pays_by_row}

-- ---- write: an object is written directly behind its state

pays_pieces : (pieces : List Piece) (site : SiteId) (image : ℕ) (h : HeaderView) (from : ℕ) (bytes : List ℕ) (next : Plan) → Pays next
    → Pays (write_pieces site image h from bytes pieces next)
pays_pieces [] site image h from bytes next pays = pays
pays_pieces (p ∷ pieces) site image h from bytes next pays =
    pays_making site image p.object (object.Write (context_of h) false p.parts (bytes_for p.parts from bytes)) (write_pieces site image h from bytes pieces next) refl
    (pays_pieces pieces site image h from bytes next pays)

pays_write : (site : SiteId) (name : List ℕ) (from : ℕ) (bytes : List ℕ) → Pays (write site name from bytes)
pays_write site name from bytes =
    pays_change site name sharing.Shared (write_refuses (extent_at from bytes)) (put_plan site from bytes)
    (λ image h standalone. pays_pieces (pieces_of h.layout (extent_at from bytes)) site image h from bytes (applied site image) tt)

-- ---- all of them

-- a request without labels pays where its plan does
from_plan : (plan : Plan) (s : Standing) → planned plan ≡ Some s → Pays plan → PaysFrom None s
from_plan plan s is pays = of_plan (PaysFrom None) plan s is (record { plan = pays; labels = λ label. tt })

-- Whoever sets no state and removes no object pays by its row.
pub request_pays : (seat : Seat) (c : Command) (s : Standing) → IsPlanFor seat c s → PaysFrom None s
request_pays seat (command.Write image at bytes) s is = from_plan (write seat.home image at bytes) s is (pays_write seat.home image at bytes)
request_pays seat (command.Fill image at len byte) s is =
    from_plan (write seat.home image at (replicate len byte)) s is (pays_write seat.home image at (replicate len byte))
request_pays seat (command.Discard image at len) s is = from_plan (discard seat.home image (between at len)) s is (pays_discard seat.home image (between at len))
request_pays seat (command.Resize image size) s is = from_plan (size_change seat.home image size) s is (pays_size_change seat.home image size)
request_pays seat (command.Remove image) s is = from_plan (remove_image seat.home seat.session image) s is (pays_removal seat.home seat.session image)
request_pays seat (command.SnapRollback image snap) s is = from_plan (rollback seat.home image snap) s is (pays_rollback seat.home image snap)
request_pays seat c s is = pays_by_row (profile c) refl s (command_follows seat c s is)

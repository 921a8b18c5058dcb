-- `write` and `fill`: a change that goes beside other writes, object by object.
use Rattle.std.specs.Prelude.{ℕ, List, [], ◌∷◌, map, replicate, Bool, true, false, Option}
use Rattle.rbd_kinds.specs.declared.sharing.Sharing.TheVariants as sharing
use Rattle.rbd_kinds.specs.declared.answer.Answer.{Answer}
use Rattle.rbd_commands.specs.declared.command.Command.{Command}
use Rattle.rbd_commands.specs.declared.command.Command.TheVariants as command
use Rattle.rbd_kinds.specs.declared.header.HeaderView.{HeaderView}
use Rattle.rbd_kinds.specs.declared.id.SiteId.{SiteId}
use Rattle.rbd_kinds.specs.declared.journal.JournalEvent.{JournalEvent}
use Rattle.rbd_kinds.specs.declared.journal.JournalEvent.TheVariants as event
use Rattle.rbd_commands.specs.declared.refusal.Refusal.{Refusal}
use Rattle.rbd_commands.specs.declared.refusal.Refusal.TheVariants as refusal
use Rattle.rbd_layout.specs.Pieces.{pieces_of}
use Rattle.rbd_layout.specs.declared.types.Piece.{Piece}
use Rattle.rbd_parts.specs.Parts.{bytes_for}
use Rattle.rbd_machine.specs.Plan.{Plan, Await, Note}
use Rattle.rbd_machine.specs.Steps.{TellsDone, refused, change_plan, applied}
use Rattle.rbd_machine.specs.Wait as wait
use Rattle.rbd_change.specs.Extent as of_extent
use Rattle.rbd_change.specs.Extent.{in_turn}
use Rattle.rbd_change.specs.declared.extent_request.ExtentRequest.{ExtentRequest}
pub use Rattle.rbd_meaning.specs.Range.{extent_at}
pub use Rattle.rbd_meaning.specs.Writes.{write_refuses}
use Rattle.rbd_pieces.specs.Write.{write_piece, rest_of_write}
use Rattle.rbd_data.specs.declared.write.WriteChange.{WriteChange}
use Rattle.rbd_data.specs.declared.write.WriteTurn.{WriteTurn}

-- the commands that it serves
abbrev pub is_write : Command → Bool
is_write (command.Write image at bytes) = true
is_write (command.Fill image at len byte) = true
is_write _ = false

-- each piece at its turn, by ascending object
abbrev pub write_pieces : SiteId → (image : ℕ) → HeaderView → (at : ℕ) → (bytes : List ℕ) → List Piece
    → (next : Plan) → Plan
write_pieces site image h at bytes [] next = next
write_pieces site image h at bytes (p ∷ pieces) next =
    Await (wait.Turn p.object)
    (write_piece site image h p (bytes_for p.parts at bytes) (write_pieces site image h at bytes pieces next))

-- its event is noted, then the pieces are written, and then the event counts as applied
abbrev pub put_plan : SiteId → (at : ℕ) → (bytes : List ℕ) → (image : ℕ) → HeaderView → Plan
put_plan site at bytes image h =
    Note site image (event.Write at bytes)
    (write_pieces site image h at bytes (pieces_of h.layout (extent_at at bytes)) (applied site image))

-- the objects of pieces, in their order
abbrev pub objects_of : List Piece → List ℕ
objects_of = map (λ (p : Piece). p.object)

abbrev pub write : SiteId → (name : List ℕ) → (at : ℕ) → (bytes : List ℕ) → Plan
write site name at bytes = change_plan site name sharing.Shared (write_refuses (extent_at at bytes))
    (put_plan site at bytes)

abbrev pub write_plan : SiteId → Command → Plan
write_plan site (command.Write image at bytes) = write site image at bytes
write_plan site (command.Fill image at len byte) = write site image at (replicate len byte)
write_plan site _ = refused refusal.NoImage

-- ---- its change: what it refuses, its event, and what it does then

abbrev pub refuses_of : WriteChange → HeaderView → Option Refusal
refuses_of w = write_refuses (extent_at w.at w.bytes)

abbrev pub event_of : WriteChange → JournalEvent
event_of w = event.Write w.at w.bytes

abbrev pub does : WriteChange → SiteId → (image : ℕ) → HeaderView → Plan
does w site = put_plan site w.at w.bytes

-- ---- its pieces

abbrev pub rest_of_piece : WriteTurn → (next : Plan) → Plan
rest_of_piece t next = rest_of_write t.piece next

abbrev pub turn_object : WriteTurn → ℕ
turn_object t = t.piece.piece.object

abbrev pub TellsPiece : WriteTurn → Answer → Type 0
TellsPiece t = TellsDone

abbrev pub IsPieceReady : WriteTurn → Answer → Type 0
IsPieceReady t a = Unit {0}

-- the pieces that are left
abbrev pub rest_of_pieces : List WriteTurn → (next : Plan) → Plan
rest_of_pieces pieces next = in_turn rest_of_piece turn_object pieces next

-- ---- the request

-- what is left of one
abbrev pub rest_of_request : ExtentRequest WriteChange WriteTurn → Plan
rest_of_request w = of_extent.rest_of_extent refuses_of event_of does rest_of_piece turn_object w

-- the memory that an answer needs
abbrev pub IsReady : ExtentRequest WriteChange WriteTurn → Answer → Type 0
IsReady w a = of_extent.IsReady refuses_of event_of does rest_of_piece turn_object IsPieceReady w a

-- `discard`: a change that goes beside writes, object by object.
use Rattle.std.specs.Prelude.{ℕ, List, [], ◌∷◌, Bool, true, false, Option}
use Rattle.rbd_kinds.specs.declared.sharing.Sharing.TheVariants as sharing
use Rattle.rbd_kinds.specs.declared.answer.Answer.{Answer}
use Rattle.rbd_commands.specs.declared.command.Command.{Command}
use Rattle.rbd_commands.specs.declared.command.Command.TheVariants as command
use Rattle.rbd_kinds.specs.declared.header.HeaderView.{HeaderView}
use Rattle.rbd_kinds.specs.declared.id.SiteId.{SiteId}
use Rattle.rbd_kinds.specs.declared.journal.JournalEvent.{JournalEvent}
use Rattle.rbd_kinds.specs.declared.journal.JournalEvent.TheVariants as event
use Rattle.rbd_kinds.specs.declared.layout.Extent.{Extent}
use Rattle.rbd_commands.specs.declared.refusal.Refusal.{Refusal}
use Rattle.rbd_commands.specs.declared.refusal.Refusal.TheVariants as refusal
use Rattle.rbd_layout.specs.Pieces.{pieces_of}
use Rattle.rbd_layout.specs.declared.types.Piece.{Piece}
use Rattle.rbd_machine.specs.Plan.{Plan, Await, Note}
use Rattle.rbd_machine.specs.Steps.{TellsDone, refused, change_plan, applied}
use Rattle.rbd_machine.specs.Wait as wait
use Rattle.rbd_change.specs.Extent as of_extent
use Rattle.rbd_change.specs.Extent.{in_turn}
use Rattle.rbd_change.specs.declared.extent_request.ExtentRequest.{ExtentRequest}
use Rattle.rbd_meaning.specs.Writes.{write_refuses}
use Rattle.rbd_pieces.specs.Zero.{zero_piece, rest_of_zero}
use Rattle.rbd_data.specs.declared.discard.DiscardChange.{DiscardChange}
use Rattle.rbd_data.specs.declared.discard.DiscardTurn.{DiscardTurn}

-- the commands that it serves
abbrev pub is_discard : Command → Bool
is_discard (command.Discard image at len) = true
is_discard _ = false

-- each piece at its turn, by ascending object
abbrev pub zero_in_turns : SiteId → (image : ℕ) → HeaderView → List Piece → (next : Plan) → Plan
zero_in_turns site image h [] next = next
zero_in_turns site image h (p ∷ pieces) next =
    Await (wait.Turn p.object) (zero_piece site image h p (zero_in_turns site image h pieces next))

-- its event is noted, then the pieces become zeros, and then the event counts as applied
abbrev pub zero : SiteId → Extent → (image : ℕ) → HeaderView → Plan
zero site e image h =
    Note site image (event.Discard e.at e.len) (zero_in_turns site image h (pieces_of h.layout e) (applied site image))

abbrev pub discard : SiteId → (name : List ℕ) → Extent → Plan
discard site name e = change_plan site name sharing.Discard (write_refuses e) (zero site e)

abbrev pub discard_plan : SiteId → Command → Plan
discard_plan site (command.Discard image at len) = discard site image (record { at = at; len = len })
discard_plan site _ = refused refusal.NoImage

-- ---- its change: what it refuses, its event, and what it does then

abbrev pub refuses_of : DiscardChange → HeaderView → Option Refusal
refuses_of d = write_refuses d.extent

abbrev pub event_of : DiscardChange → JournalEvent
event_of d = event.Discard d.extent.at d.extent.len

abbrev pub does : DiscardChange → SiteId → (image : ℕ) → HeaderView → Plan
does d site = zero site d.extent

-- ---- its pieces

abbrev pub rest_of_piece : DiscardTurn → (next : Plan) → Plan
rest_of_piece t next = rest_of_zero t.piece next

abbrev pub turn_object : DiscardTurn → ℕ
turn_object t = t.piece.piece.object

abbrev pub TellsPiece : DiscardTurn → Answer → Type 0
TellsPiece t = TellsDone

abbrev pub IsPieceReady : DiscardTurn → Answer → Type 0
IsPieceReady t a = Unit {0}

-- the pieces that are left
abbrev pub rest_of_pieces : List DiscardTurn → (next : Plan) → Plan
rest_of_pieces pieces next = in_turn rest_of_piece turn_object pieces next

-- ---- the request

-- what is left of one
abbrev pub rest_of_request : ExtentRequest DiscardChange DiscardTurn → Plan
rest_of_request d = of_extent.rest_of_extent refuses_of event_of does rest_of_piece turn_object d

-- the memory that an answer needs
abbrev pub IsReady : ExtentRequest DiscardChange DiscardTurn → Answer → Type 0
IsReady d a = of_extent.IsReady refuses_of event_of does rest_of_piece turn_object IsPieceReady d a

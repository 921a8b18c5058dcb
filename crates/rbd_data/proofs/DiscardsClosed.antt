-- A discard begins no part again.
use Rattle.std.proofs.Common.{ℕ, List, [], ◌∷◌}
use Rattle.rbd_commands.specs.declared.command.Command.{Command}
use Rattle.rbd_commands.specs.declared.command.Command.TheVariants as command
use Rattle.rbd_kinds.specs.declared.sharing.Sharing.TheVariants as sharing
use Rattle.rbd_kinds.specs.declared.header.HeaderView.{HeaderView}
use Rattle.rbd_kinds.specs.declared.id.SiteId.{SiteId}
use Rattle.rbd_kinds.specs.declared.layout.Extent.{Extent}
use Rattle.rbd_layout.specs.Pieces.{pieces_of}
use Rattle.rbd_layout.specs.declared.types.Piece.{Piece}
use Rattle.rbd_machine.specs.Plan.{Goto, IsClosed}
use Rattle.rbd_machine.specs.Steps.{applied}
use Rattle.rbd_machine.proofs.Closed.{closed_change}
use Rattle.rbd_meaning.specs.Writes.{write_refuses}
use Rattle.rbd_pieces.proofs.ZerosClosed.{closed_zero}
use Rattle.rbd_data.specs.Discard.{discard, discard_plan, zero, zero_in_turns}

closed_pieces : (pieces : List Piece) (site : SiteId) (image : ℕ) (h : HeaderView) → IsClosed Goto (zero_in_turns site image h pieces (applied site image))
closed_pieces [] site image h = tt
closed_pieces (p ∷ pieces) site image h = closed_zero Goto site image h p (zero_in_turns site image h pieces (applied site image)) (closed_pieces pieces site image h)

pub closed_discard : (site : SiteId) (name : List ℕ) (e : Extent) → IsClosed Goto (discard site name e)
closed_discard site name e = closed_change Goto site name sharing.Discard (write_refuses e) (zero site e) (λ image h. closed_pieces (pieces_of h.layout e) site image h)

pub closed_discard_plan : (site : SiteId) (c : Command) → IsClosed Goto (discard_plan site c)
closed_discard_plan site (command.Discard image at len) = closed_discard site image (record { at = at; len = len })
closed_discard_plan site _ = tt

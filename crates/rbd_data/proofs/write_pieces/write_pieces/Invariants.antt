use Rattle.std.proofs.Common.{◌≡◌, All}
use Rattle.rbd_layout.specs.Pieces.{pieces_of}
use Rattle.rbd_layout.specs.declared.types.Piece.{Piece}
use Rattle.rbd_parts.specs.Parts.{AreBehind}
use Rattle.rbd_machine.specs.Plan.{Plan}
use Rattle.rbd_meaning.specs.Range.{extent_at}
use Rattle.rbd_data.specs.Write.{rest_of_pieces, write_pieces}
use Rattle.rbd_data.proofs.write_pieces.write_pieces.Given as goal

-- the pieces that are made, and those that are left to make
abbrev pub invariant-loop-piece : goal.invariant-loop-piece
invariant-loop-piece l = record {
  made : (next : Plan) → rest_of_pieces l.made.items (write_pieces l.target.site l.target.image l.header l.at l.bytes l.piece-iterator.rest.items next)
      ≡ write_pieces l.target.site l.target.image l.header l.at l.bytes (pieces_of l.header.layout (extent_at l.at l.bytes)) next;
  behind : All (λ (p : Piece). AreBehind l.at p.parts) l.piece-iterator.rest.items;
}

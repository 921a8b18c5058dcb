use Rattle.std.proofs.Common.{◌≡◌, All, map}
use Rattle.rbd_layout.specs.Pieces.{piece_in, pieces_of}
use Rattle.rbd_machine.specs.Plan.{Plan}
use Rattle.rbd_pieces.specs.Zero.{IsOfHead}
use Rattle.rbd_data.specs.Discard.{rest_of_pieces, zero_in_turns}
use Rattle.rbd_data.proofs.zero_pieces.zero_pieces.Given as goal

-- the pieces that are made, and the objects of those that are left to make
abbrev pub invariant-loop-object : goal.invariant-loop-object
invariant-loop-object l = record {
  made : (next : Plan) → rest_of_pieces l.made.items (zero_in_turns l.target.site l.target.image l.header (map (piece_in l.header.layout l.extent) l.object-iterator.rest.items) next)
      ≡ zero_in_turns l.target.site l.target.image l.header (pieces_of l.header.layout l.extent) next;
  head : All (IsOfHead l.header) l.object-iterator.rest.items;
}

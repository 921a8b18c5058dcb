-- What a shrink zeros before it sets the size.
use Rattle.std.specs.Prelude.{ℕ, ◌-◌, ◌==◌, ◌||◌, not, Bool, List, filter}
use Rattle.rbd_kinds.specs.declared.header.HeaderView.{HeaderView}
use Rattle.rbd_kinds.specs.declared.layout.Extent.{Extent}
use Rattle.rbd_kinds.specs.States.{state_at}
use Rattle.rbd_layout.specs.declared.types.Piece.{Piece}
use Rattle.rbd_layout.specs.Pieces.{pieces_of}
use Rattle.rbd_pieces.specs.Zero.{is_inside}

-- the head by a header becomes as short as this
pub record Shrunk : Type 0 where
  pub header : HeaderView
  pub to : ℕ

-- the head's bytes from a size on
abbrev pub head_from : HeaderView → (to : ℕ) → Extent
head_from h to = record { at = to; len = h.size - to }

-- An object outside the overlap that isn't there has no bytes. Which state it has, the head's map
-- says.
abbrev pub piece_has_bytes : HeaderView → (bits : List ℕ) → Piece → Bool
piece_has_bytes h bits p = is_inside h p.object || not (state_at bits p.object == 0)

-- the pieces that become zeros, by ascending object
abbrev pub pieces_from : HeaderView → (to : ℕ) → (bits : List ℕ) → List Piece
pieces_from h to bits = filter (piece_has_bytes h bits) (pieces_of h.layout (head_from h to))

-- A write of bytes to an extent, piece by piece.
use Rattle.std.specs.Prelude.{ℕ, List, map}
use Rattle.rbd_layout.specs.declared.types.Piece.{Piece}
use Rattle.rbd_parts.specs.Parts.{bytes_for}
use Rattle.rbd_flat.specs.declared.effect.Effect.{Effect}
use Rattle.rbd_flat.specs.declared.effect.Effect.TheVariants as effect
use Rattle.rbd_stands.specs.Condition.{extents_of}

-- the effect of one piece
abbrev pub piece_effect : (image from : ℕ) → (bytes : List ℕ) → Piece → Effect
piece_effect image from bytes piece = effect.Piece image (extents_of piece.parts) (bytes_for piece.parts from bytes)

abbrev pub piece_effects : (image from : ℕ) → (bytes : List ℕ) → List Piece → List Effect
piece_effects image from bytes pieces = map (piece_effect image from bytes) pieces

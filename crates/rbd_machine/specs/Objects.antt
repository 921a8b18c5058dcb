-- Operations on the object of a piece, and on its state in the head's map.
use Rattle.std.specs.Prelude.{ℕ, List, Option, None, false}
use Rattle.rbd_kinds.specs.declared.data_op.DataOp.TheVariants as object
use Rattle.rbd_kinds.specs.declared.header.SnapContext.{SnapContext}
use Rattle.rbd_kinds.specs.declared.map_op.MapOp.TheVariants as states
use Rattle.rbd_kinds.specs.declared.operation.Op.{Op}
use Rattle.rbd_kinds.specs.declared.operation.Op.TheVariants as op
use Rattle.rbd_layout.specs.declared.types.Piece.{Piece}

-- the parts of the object are read, of the head or of a snapshot
abbrev pub data_read : (image : ℕ) → (snap : Option ℕ) → Piece → Op
data_read image snap piece = op.Data image piece.object (object.Read snap piece.parts)

-- the bytes go to the parts of the object, one part after another, under a snapshot context
abbrev pub data_write : (image : ℕ) → SnapContext → Piece → (bytes : List ℕ) → Op
data_write image context piece bytes = op.Data image piece.object (object.Write context false piece.parts bytes)

-- the object is there, or is about to be: state 1 in the head's map
abbrev pub map_exists : (image object : ℕ) → Op
map_exists image object = op.Map image (states.Set None object 1)

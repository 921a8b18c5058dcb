-- Operations that zero or replace an object, and on states in the head's map.
use Rattle.std.specs.Prelude.{ℕ, List, Bool, None}
use Rattle.rbd_kinds.specs.declared.answer.Answer.TheVariants as answer
use Rattle.rbd_kinds.specs.declared.data_op.DataOp.TheVariants as object
use Rattle.rbd_kinds.specs.declared.header.SnapContext.{SnapContext}
use Rattle.rbd_kinds.specs.declared.header_op.HeaderOp.TheVariants as header
use Rattle.rbd_kinds.specs.declared.id.SiteId.{SiteId}
use Rattle.rbd_kinds.specs.declared.map_op.MapOp.TheVariants as states
use Rattle.rbd_kinds.specs.declared.operation.Op.{Op}
use Rattle.rbd_kinds.specs.declared.operation.Op.TheVariants as op
use Rattle.rbd_layout.specs.declared.types.Piece.{Piece}
use Rattle.rbd_machine.specs.Path.{Answered}

-- ---- on an object, under a snapshot context

-- the parts become zeros; with `must`, nothing is done where the object isn't there
abbrev pub data_zero : (image : ℕ) → SnapContext → (must : Bool) → Piece → Op
data_zero image context must piece = op.Data image piece.object (object.Zero context must piece.parts)

-- the object is there, without bytes
abbrev pub data_empty : (image : ℕ) → SnapContext → (number : ℕ) → Op
data_empty image context number = op.Data image number (object.Empty context)

-- the object isn't there any more
abbrev pub data_remove : (image : ℕ) → SnapContext → (number : ℕ) → Op
data_remove image context number = op.Data image number (object.Remove context)

-- the object is exactly these bytes
abbrev pub data_write_full : (image : ℕ) → SnapContext → (number : ℕ) → (bytes : List ℕ) → Op
data_write_full image context number bytes = op.Data image number (object.WriteFull context bytes)

-- ---- on the head's map

-- the state of an object: 1 it exists, 2 it may exist, 0 it doesn't
abbrev pub map_set : (image number state : ℕ) → Op
map_set image number state = op.Map image (states.Set None number state)

abbrev pub map_get : (image : ℕ) → Op
map_get image = op.Map image (states.Get None)

-- the map has so many objects, at least
abbrev pub map_resize : (image objects : ℕ) → Op
map_resize image objects = op.Map image (states.Resize objects)

-- ---- on the header

abbrev pub header_set_size : (image to : ℕ) → Op
header_set_size image to = op.Header image (header.SetSize to)

-- ---- what was done

-- an operation that was answered done
abbrev pub done : SiteId → Op → Answered
done site o = record { site = site; op = o; answer = answer.Done }

-- One piece of a write: its bytes go to one object, whole or not at all.
use Rattle.std.specs.Prelude.{ℕ, List}
use Rattle.rbd_kinds.specs.declared.header.HeaderView.{HeaderView}
use Rattle.rbd_kinds.specs.declared.header.SnapContext.{SnapContext}
use Rattle.rbd_kinds.specs.declared.id.SiteId.{SiteId}
use Rattle.rbd_layout.specs.declared.types.Piece.{Piece}
use Rattle.rbd_header.specs.Header.{context_of}
use Rattle.rbd_machine.specs.Objects.{data_write, map_exists}
use Rattle.rbd_machine.specs.Plan.{Plan}
use Rattle.rbd_machine.specs.Steps.{own, on_done}
use Rattle.rbd_pieces.specs.declared.write_piece.Stage.{Stage}
use Rattle.rbd_pieces.specs.declared.write_piece.Stage.TheVariants as stage
use Rattle.rbd_pieces.specs.declared.write_piece.WritePiece.{WritePiece}

-- the bytes go to the object under a snapshot context
abbrev pub writing : SiteId → (image : ℕ) → SnapContext → Piece → (bytes : List ℕ) → (next : Plan) → Plan
writing site image context piece bytes next = own site (data_write image context piece bytes) (on_done next)

-- the object's state is raised before, in the head's map
abbrev pub raising : SiteId → (image : ℕ) → SnapContext → Piece → (bytes : List ℕ) → (next : Plan) → Plan
raising site image context piece bytes next =
    own site (map_exists image piece.object) (on_done (writing site image context piece bytes next))

-- under the header's snapshot context
abbrev pub write_piece : SiteId → (image : ℕ) → HeaderView → Piece → (bytes : List ℕ) → (next : Plan) → Plan
write_piece site image h piece bytes next = raising site image (context_of h) piece bytes next

-- what is left of one
abbrev pub rest_from : Stage → WritePiece → (next : Plan) → Plan
rest_from stage.Raising w next = raising w.site w.image w.context w.piece w.bytes next
rest_from stage.Writing w next = writing w.site w.image w.context w.piece w.bytes next

abbrev pub rest_of_write : WritePiece → (next : Plan) → Plan
rest_of_write w next = rest_from w.stage w next

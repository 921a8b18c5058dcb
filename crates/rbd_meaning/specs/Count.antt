-- How many objects a size has.
use Rattle.std.specs.Prelude.{ℕ, length}
use Rattle.rbd_kinds.specs.declared.layout.Layout.{Layout}
use Rattle.rbd_layout.specs.Pieces.{pieces_of}

-- Each object of a size has a piece of its bytes.
abbrev pub object_count : Layout → (size : ℕ) → ℕ
object_count layout size = length (pieces_of layout (record { at = 0; len = size }))

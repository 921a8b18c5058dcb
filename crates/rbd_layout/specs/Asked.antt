-- The layout that a new image or a clone is asked to have.
use Rattle.std.specs.Prelude.{ℕ, Bool, ◌||◌, is_some, if◌then◌else◌, unwrap_or}
use Rattle.rbd_commands.specs.declared.command.Shape.{Shape}
use Rattle.rbd_kinds.specs.declared.layout.Layout.{Layout}
use Rattle.rbd_kinds.specs.Form.{HasFewObjects}
use Rattle.rbd_kinds.specs.Striping.{IsLayout}

-- objects of a usual size, the stripe unit the whole object, and one object in a stripe, where
-- nothing else is asked for
abbrev pub layout_on : (usual : ℕ) → Shape → Layout
layout_on usual shape =
    let object : ℕ = unwrap_or shape.object usual in
    record { object = object; unit = unwrap_or shape.unit object; count = unwrap_or shape.count 1 }

-- a new image's: objects of 4 MiB
abbrev pub layout_of : Shape → Layout
layout_of shape = layout_on 4194304 shape

abbrev pub asks_for_layout : Shape → Bool
asks_for_layout shape = is_some shape.object || is_some shape.unit || is_some shape.count

-- A clone's is its parent's. Where any part is asked for, the parent gives the usual object size
-- alone.
abbrev pub clone_layout_of : (parent : Layout) → Shape → Layout
clone_layout_of parent shape = if asks_for_layout shape then layout_on parent.object shape else parent

-- the layout is within its limits, and a size has at most 2^20 objects
pub record KeepsLimits (layout : Layout) (size : ℕ) : Type 0 where
  pub is_layout : IsLayout layout
  pub objects : HasFewObjects layout size

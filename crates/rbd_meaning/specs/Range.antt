-- The bytes of an image that a command is about, and whether they are there.
use Rattle.std.specs.Prelude.{ℕ, List, length, if◌then◌else◌, Option, Some, None}
use Rattle.rbd_kinds.specs.declared.layout.Extent.{Extent}
use Rattle.rbd_commands.specs.declared.refusal.Refusal.{Refusal}
use Rattle.rbd_commands.specs.declared.refusal.Refusal.TheVariants as refusal
use Rattle.rbd_kinds.specs.Extents.{fits}

-- the bytes of an image that are written
abbrev pub extent_at : (at : ℕ) → (bytes : List ℕ) → Extent
extent_at at bytes = record { at = at; len = length bytes }

-- the extent doesn't fit into the size that the header tells
abbrev pub out_of_range : Extent → (size : ℕ) → Option Refusal
out_of_range e size = if fits e size then None else Some refusal.BadRange

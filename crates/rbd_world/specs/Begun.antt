-- The lines that were begun.
use Rattle.std.specs.Prelude.{ℕ, Bool}
use Rattle.rbd_line_table.specs.Known.{HasRoom as HasRoomFor, is_known}
use Rattle.rbd_world.specs.declared.begun.BegunLines.{BegunLines}

-- whether a line was begun
abbrev pub has_line : (line : ℕ) → BegunLines → Bool
has_line line b = is_known b.lines line

-- There is room for a line.
abbrev pub HasRoomToBegin : (line : ℕ) → BegunLines → Type 0
HasRoomToBegin line b = HasRoomFor b.lines line

-- How a fault is told.
use Rattle.std.specs.Prelude.{ℕ, ◌/◌, ◌%◌, false, List, [], ◌∷◌, ◌++◌, codes, decimal}
use Rattle.std.specs.Fmt.{digit_glyph}
use Rattle.rbd_values.specs.Memory.{no_memory_text}
use Rattle.rbd_journal.specs.declared.fault.FrameFault.{FrameFault}
use Rattle.rbd_journal.specs.declared.fault.FrameFault.TheVariants.{Short, BadKind, BadLength, BadText, NoMemory}

-- a byte as `0x` and two digits
abbrev pub hex_text : ℕ → List ℕ
hex_text byte = codes "0x" ++ digit_glyph false (byte / 16) ∷ digit_glyph false (byte % 16) ∷ []

abbrev pub fault_text : FrameFault → List ℕ
fault_text Short = codes "the frame is cut short"
fault_text (BadKind kind) = codes "no kind of frame is " ++ hex_text kind
fault_text (BadLength length) = codes "a length of " ++ (decimal length ++ codes " is out of range")
fault_text (BadText place) = codes "the byte at " ++ (decimal place ++ codes " is not of a name")
fault_text NoMemory = no_memory_text

-- Which bytes are which script, and which is the first fault.
use Rattle.std.specs.Prelude.{ℕ, ◌+◌, Bool, nat_le, if◌then◌else◌, List, [], ◌∷◌, length, take, Result, Ok, Err}
use Rattle.rbd_script.specs.declared.fault.LineCause.{LineCause}
use Rattle.rbd_script.specs.declared.fault.LineCause.TheVariants.{ExtraPart}
use Rattle.rbd_script.specs.declared.fault.LineFault.{LineFault}
use Rattle.rbd_script.specs.declared.script.Script.{Script}
use Rattle.rbd_script.specs.Line.{with_line}
use Rattle.rbd_script.specs.Token.{text_lines, without_last}

abbrev pub no_script : Script
no_script = record { sessions = []; lines = [] }

-- the line of a number, and then what follows it
abbrev pub and_on : (number : ℕ) → Result Script LineCause → (Script → Result Script LineFault)
    → Result Script LineFault
and_on number (Ok s) next = next s
and_on number (Err cause) next = Err (record { line = number; cause = cause })

-- The lines from the line of this number on are added to a script. The first fault decides.
unfoldable pub with_lines : (threads : Bool) (number : ℕ) → Script → List (List ℕ) → Result Script LineFault
with_lines threads number s [] = Ok s
with_lines threads number s (line ∷ lines) = and_on number (with_line threads number s line)
    (λ t. with_lines threads (number + 1) t lines)

-- how many bytes a script may have
abbrev pub limit : ℕ
limit = 16777216

-- the lines that end before the byte too many
abbrev pub lines_before : List ℕ → List (List ℕ)
lines_before text = without_last (text_lines (take limit text))

-- The byte too many is a fault of its line, whatever else is wrong in it, where no earlier line has
-- one.
abbrev pub too_long : (lines : ℕ) → Result Script LineFault → Result Script LineFault
too_long lines (Ok s) = Err (record { line = lines + 1; cause = ExtraPart })
too_long lines (Err fault) = Err fault

unfoldable pub reading : (threads : Bool) → List ℕ → Result Script LineFault
reading threads text =
    if nat_le (length text) limit then with_lines threads 1 no_script (text_lines text)
    else too_long (length (lines_before text)) (with_lines threads 1 no_script (lines_before text))

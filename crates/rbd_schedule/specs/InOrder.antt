-- What holds of the lines of each script that was read.
use Rattle.std.specs.Prelude.{ℕ, ◌<◌, List, [], ◌∷◌}
use Rattle.rbd_script.specs.declared.script.Line.{Line}
use Rattle.rbd_script.specs.declared.script.Said.{Said}
use Rattle.rbd_script.specs.declared.script.Said.TheVariants as said

-- each line has a greater number than the one before it, and the first a greater one than this
abbrev pub AreAscendingFrom : (number : ℕ) → List Line → Type 0
AreAscendingFrom number [] = Unit {0}
AreAscendingFrom number (line ∷ lines) = (number < line.number) × AreAscendingFrom line.number lines

-- The numbers are at least 1, and ascend.
abbrev pub AreLinesInOrder : List Line → Type 0
AreLinesInOrder lines = AreAscendingFrom 0 lines

-- A line that names a session names a declared one.
abbrev pub NamesDeclared : (sessions : ℕ) → Said → Type 0
NamesDeclared sessions (said.Command session beside command) = session < sessions
NamesDeclared sessions (said.Poll session slot times) = session < sessions
NamesDeclared sessions (said.Until session slot kind) = session < sessions
NamesDeclared sessions (said.Expire session site image) = session < sessions
NamesDeclared sessions (said.Stop session) = session < sessions
NamesDeclared sessions (said.Restart session) = session < sessions
NamesDeclared sessions (said.Late session slot) = session < sessions
NamesDeclared sessions (said.Settle rounds) = Unit {0}
NamesDeclared sessions (said.Deliver notice) = Unit {0}
NamesDeclared sessions (said.Lose notice) = Unit {0}
NamesDeclared sessions (said.Trim site image object) = Unit {0}

-- each of the lines names only declared sessions
abbrev pub AreDeclared : (sessions : ℕ) → List Line → Type 0
AreDeclared sessions [] = Unit {0}
AreDeclared sessions (line ∷ lines) = NamesDeclared sessions line.said × AreDeclared sessions lines

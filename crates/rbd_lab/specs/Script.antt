-- Which bytes are a script of built forms, and which fault is told of others.
use Rattle.std.specs.Prelude.{◌≡◌, ℕ, All, Bool, true, false, if◌then◌else◌, List, [], ◌∷◌, ◌++◌, codes, decimal, Option, Some, None, Result, Ok, Err}
use Rattle.rbd_catalog.specs.Plans.{is_built}
use Rattle.rbd_script.specs.declared.fault.LineCause.TheVariants.{UnknownWord}
use Rattle.rbd_script.specs.declared.fault.LineFault.{LineFault}
use Rattle.rbd_script.specs.declared.script.Line.{Line}
use Rattle.rbd_script.specs.declared.script.Said.{Said}
use Rattle.rbd_script.specs.declared.script.Said.TheVariants as said
use Rattle.rbd_script.specs.declared.script.Script.{Script}
use Rattle.rbd_script.specs.Fault.{cause_text}
use Rattle.rbd_script.specs.Reading.{reading}

-- ---- the forms that are built

-- whether a line is a command that is served, or one of the schedule
abbrev pub is_said : Said → Bool
is_said (said.Command session beside command) = is_built command
is_said s = true

-- each of these lines is built
abbrev pub AreBuilt : List Line → Type 0
AreBuilt lines = All (λ (line : Line). is_said line.said ≡ true) lines

-- The bytes are a script by the grammar, and each of its forms is built.
pub record IsBuiltScript (bytes : List ℕ) (script : Script) : Type 0 where
  pub reads : reading false bytes ≡ Ok script
  pub built : AreBuilt script.lines

-- the first line with a form that isn't built, by its number
abbrev pub unbuilt_line : List Line → Option ℕ
unbuilt_line [] = None
unbuilt_line (line ∷ lines) = if is_said line.said then unbuilt_line lines else Some line.number

abbrev pub first_unbuilt : Script → Option ℕ
first_unbuilt script = unbuilt_line script.lines

-- ---- what is played, or told

-- a form that isn't built is an unknown word
abbrev pub where_built : Option ℕ → Script → Result Script LineFault
where_built None script = Ok script
where_built (Some line) script = Err (record { line = line; cause = UnknownWord })

abbrev pub if_built : Result Script LineFault → Result Script LineFault
if_built (Ok script) = where_built (first_unbuilt script) script
if_built (Err fault) = Err fault

-- the script that is played for these bytes, or the first fault of a line
abbrev pub judged : List ℕ → Result Script LineFault
judged bytes = if_built (reading false bytes)

-- `line 4: bad number`
abbrev pub fault_text : LineFault → List ℕ
fault_text fault = codes "line " ++ decimal fault.line ++ codes ": " ++ cause_text fault.cause ++ 10 ∷ []

-- The commands that a script gives to its sessions, and the notices that it loses.
use Rattle.std.specs.Prelude.{ℕ, ◌==◌, Bool, false, List, [], ◌∷◌, filter, Option, Some, None}
use Rattle.std.specs.List.{flat_map, list_any}
use Rattle.rbd_script.specs.declared.script.Line.{Line}
use Rattle.rbd_script.specs.declared.script.Said.{Said}
use Rattle.rbd_script.specs.declared.script.Said.TheVariants as said
use Rattle.rbd_world.specs.declared.event.Event.TheVariants as event
use Rattle.rbd_schedule.specs.declared.given.Given.{Given}

-- the command of a line, as the event of its submission
abbrev pub given_by : (line : ℕ) → Said → List Given
given_by line (said.Command session beside command) =
    record { session = session; line = line; beside = beside; submission = event.Submit session line command } ∷ []
given_by line s = []

-- in the order of the script
abbrev pub commands_of : List Line → List Given
commands_of lines = flat_map (λ (line : Line). given_by line.number line.said) lines

-- the commands of one session
abbrev pub of_session : (session : ℕ) → List Given → List Given
of_session session given = filter (λ (c : Given). c.session == session) given

abbrev pub given_in : List Line → (session : ℕ) → List Given
given_in lines session = of_session session (commands_of lines)

-- one, or none
abbrev pub given_or_none : Option Given → List Given
given_or_none None = []
given_or_none (Some c) = c ∷ []

-- ---- notices

-- whether the notice is one that no settle delivers, by this line
abbrev pub loses_notice : (number : ℕ) → Said → Bool
loses_notice number (said.Lose other) = other == number
loses_notice number s = false

-- whether the notice is lost by one of these lines
abbrev pub is_lost_by : List Line → (number : ℕ) → Bool
is_lost_by lines number = list_any (λ (line : Line). loses_notice number line.said) lines

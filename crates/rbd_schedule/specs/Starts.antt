-- Which command starts next.
use Rattle.std.specs.Prelude.{◌≡◌, ℕ, ◌==◌, ◌&&◌, ◌||◌, not, if◌then◌else◌, Bool, true, false, List, [], ◌∷◌, is_some, Option, Some, None}
use Rattle.std.specs.List.{list_any}
use Rattle.rbd_flat.specs.declared.entry.Entry.{Entry}
use Rattle.rbd_flat.specs.declared.entry.Entry.TheVariants as entry
use Rattle.rbd_world.specs.Step.{is_begun}
use Rattle.rbd_world.specs.World.{WorldView, client_in, free_in}
use Rattle.rbd_schedule.specs.declared.given.Given.{Given}

-- whether the entry gives the line its reply, or tells that it is lost
abbrev pub is_end_of : (line : ℕ) → Entry → Bool
is_end_of line (entry.Reply other reply) = line == other
is_end_of line (entry.Lost other) = line == other
is_end_of line e = false

-- whether the history has the end of the line
abbrev pub is_ended : (line : ℕ) → List Entry → Bool
is_ended line history = list_any (is_end_of line) history

-- The earliest command that may start, of a session's commands: of those that weren't begun the
-- first that stands beside the others, or has only ended ones before it.
abbrev pub earliest : (begun ended : (line : ℕ) → Bool) → (are_ended : Bool) → List Given → Option Given
earliest begun ended before [] = None
earliest begun ended before (c ∷ given) =
    if not (begun c.line) && (c.beside || before) then Some c else earliest begun ended (before && ended c.line) given

-- The same in a world, where the session runs and has a free slot. `given` are the commands of a
-- session so far.
abbrev pub to_start : {R : Type 0} → (given : List Given) → WorldView R → (session : ℕ) → Option Given
to_start given w session =
    if is_some (free_in (client_in session w.lives))
    then earliest (λ line. is_begun line w.history) (λ line. is_ended line w.history) true given
    else None

-- no command of the session may start
abbrev pub IsIdle : {R : Type 0} → (given : (session : ℕ) → List Given) → WorldView R → (session : ℕ) → Type 0
IsIdle given w session = to_start (given session) w session ≡ None

-- no command may start
abbrev pub IsQuiet : {R : Type 0} → (given : (session : ℕ) → List Given) → WorldView R → Type 0
IsQuiet given w = (session : ℕ) → IsIdle given w session

-- What comes of a stopped life: each of its operations once, and none of another life.
use Rattle.std.specs.Prelude.{ℕ, ◌==◌, Bool, true, false, List}
use Rattle.std.specs.List.{list_any}
use Rattle.rbd_world.specs.Run.{Doer, AfterStop, Happening, Did, Stopped, comes_of}

-- whether an operation was sent by a life that was stopped since
abbrev pub is_late : Doer → Bool
is_late (AfterStop slot) = true
is_late by = false

-- whether what a slot of a stopped life of the session wanted comes with this
abbrev pub comes_in : (session slot : ℕ) → Happening → Bool
comes_in session slot (Did o reply) = comes_of session slot o.instance o.by
comes_in session slot h = false

abbrev pub stops_in : (session : ℕ) → Happening → Bool
stops_in session (Stopped who wanted lost) = who.session == session
stops_in session h = false

-- whether it comes anywhere among these
abbrev pub comes_among : (session slot : ℕ) → List Happening → Bool
comes_among session slot run = list_any (comes_in session slot) run

-- whether the session is stopped anywhere among these
abbrev pub is_stopped_among : (session : ℕ) → List Happening → Bool
is_stopped_among session run = list_any (stops_in session) run

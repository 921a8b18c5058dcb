-- When a slot waits.
use Rattle.std.specs.Prelude.{ℕ, ◌&&◌, ◌||◌, not, Bool, false, List, Option, Some, None}
use Rattle.rbd_machine.specs.Course.{PlaceInLine, is_waiting}
use Rattle.rbd_machine.specs.declared.stage.Stage.{Stage}
use Rattle.rbd_queue.specs.Line.{Member, may_pass, has_turn}
use Rattle.rbd_slots.specs.Track.{Track, line_in, place_in_line}

abbrev pub awaits_look : Option PlaceInLine → Bool
awaits_look None = false
awaits_look (Some p) = is_waiting p.stage

-- whether the line holds the request back from its look under the lock
abbrev pub awaits_line : (slot : ℕ) → Track → Bool
awaits_line slot t = awaits_look (place_in_line slot t) && not (may_pass slot (line_in t.place t.lines))

abbrev pub lacks_turn : (slot : ℕ) → (turn : Option ℕ) → List Member → Bool
lacks_turn slot None members = false
lacks_turn slot (Some object) members = not (has_turn slot object members)

-- whether another request's ticket is first at the object of the piece
abbrev pub awaits_turn : (slot : ℕ) → Track → Bool
awaits_turn slot t = lacks_turn slot t.turn (line_in t.place t.lines)

abbrev pub waits : (slot : ℕ) → Track → Bool
waits slot t = awaits_line slot t || awaits_turn slot t

-- whether a request waits for its look under the lock, by its stage alone
abbrev pub waits_at : Option Stage → Bool
waits_at None = false
waits_at (Some s) = is_waiting s

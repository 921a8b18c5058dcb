-- The calls of a world, as its ghost log has them.
use Rattle.std.specs.Prelude.{List, map}
use Rattle.rbd_world.specs.declared.event.Call.{Call}
use Rattle.rbd_world.specs.declared.event.Event.{Event}
use Rattle.rbd_world.specs.declared.event.Outcome.{Outcome}

-- an event with what came of it
abbrev pub call_from : Event × Outcome → Call
call_from made = record { event = made.0; outcome = made.1 }

abbrev pub calls_from : List (Event × Outcome) → List Call
calls_from made = map call_from made

-- Turns without their tickets: which slots hold an object, and which objects a slot holds.
use Rattle.std.specs.Prelude.{ℕ, ◌==◌, Bool, false, List, [], ◌∷◌, map, Option, Some, None}
use Rattle.rbd_guard.specs.Tickets.{Tickets, queue, list, ticket_object, ticket_request}

abbrev pub or_zero : Option ℕ → ℕ
or_zero None = 0
or_zero (Some n) = n

-- the slot and the object of a ticket that is in
abbrev pub slot_of : Tickets → (ticket : ℕ) → ℕ
slot_of g ticket = or_zero (ticket_request ticket g)

abbrev pub object_of_ticket : Tickets → (ticket : ℕ) → ℕ
object_of_ticket g ticket = or_zero (ticket_object ticket g)

-- the slots that hold an object, in the order in which they took it
unfoldable pub holders : (object : ℕ) → Tickets → List ℕ
holders object g = map (slot_of g) (queue object g)

-- the objects that a slot holds, in the order in which it took them
unfoldable pub held_by : (slot : ℕ) → Tickets → List ℕ
held_by slot g = map (object_of_ticket g) (list slot g)

-- whether a list begins with a number
abbrev pub begins_with : (number : ℕ) → List ℕ → Bool
begins_with number [] = false
begins_with number (n ∷ numbers) = n == number

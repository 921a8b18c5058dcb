-- How the slab and the tables of a guard hold its tickets.
use Rattle.std.specs.Prelude.{◌≡◌, ℕ, ◌<◌, ◌≤◌, ◌^◌, Some}
use Rattle.rbd_guard.specs.Slab.{queue_link, list_link, number_at}
use Rattle.rbd_guard.specs.Links.{AreLines}
use Rattle.rbd_guard.specs.Tickets.{NoneIsEmpty, Tickets, ends_at, place_of_ticket}

-- A ticket at a place stands in one queue and in one list, and its number is found at that place
-- alone. Of a queue or a list that is empty nothing is kept.
pub record AreHeld (g : Tickets) : Type 0 where
  pub queues : AreLines (queue_link g.slots) (ends_at g.queues)
  pub lists : AreLines (list_link g.slots) (ends_at g.lists)
  pub found : (number p : ℕ) → place_of_ticket number g ≡ Some p → number_at g.slots p ≡ Some number
  pub known : (number p : ℕ) → number_at g.slots p ≡ Some number → place_of_ticket number g ≡ Some p
  pub drawn : (number p : ℕ) → number_at g.slots p ≡ Some number → number < g.drawn
  pub queue_fits : (object : ℕ) → (ends_at g.queues object).count ≤ g.drawn
  pub list_fits : (request : ℕ) → (ends_at g.lists request).count ≤ g.drawn
  pub queues_used : NoneIsEmpty g.queues
  pub lists_used : NoneIsEmpty g.lists
  pub fits : g.drawn < 2 ^ 64

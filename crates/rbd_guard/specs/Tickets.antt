-- The tickets of a session's requests: each object's queue, and each request's list.
use Rattle.std.specs.Prelude.{◌≡◌, ℕ, ◌==◌, nat_eq, ◌<◌, ◌≤◌, ◌^◌, cond, not, Bool, false, List, [], ◌∷◌, Option, None, Some, IsSome, is_some, option_map, unwrap_or, map, length}
use Rattle.std.specs.List.{filter}
use Rattle.std.specs.Map.{lookup}
use Rattle.std.specs.Option.{IfSome}
use Rattle.rbd_guard.specs.declared.link.TicketLink.{TicketLink}
use Rattle.rbd_guard.specs.declared.link.Ends.{Ends}
use Rattle.rbd_guard.specs.declared.link.SlabPlace.{SlabPlace}
use Rattle.rbd_guard.specs.Order.{is_in, IsEachInItsLine, ends_or, walked}
use Rattle.rbd_guard.specs.Slab.{queue_link, list_link, number_at}

-- what a guard holds: the places of tickets, where each ticket's number is found, the ends of each
-- queue and of each list, how many tickets were ever given, and for how many more there is room.
-- Contracts read it by the words below alone
pub record Tickets : Type 0 where
  pub slots : List SlabPlace
  pub places : List (ℕ × ℕ)
  pub queues : List (ℕ × Ends)
  pub lists : List (ℕ × Ends)
  pub drawn : ℕ
  pub reserved : ℕ

abbrev pub ends_at : List (ℕ × Ends) → (key : ℕ) → Ends
ends_at ends key = ends_or (lookup (nat_eq key) ends)

-- no ends are kept of a line in which nobody stands
abbrev pub NoneIsEmpty : List (ℕ × Ends) → Type 0
NoneIsEmpty ends = (key : ℕ) → IfSome (lookup (nat_eq key) ends) (λ (e : Ends). 0 < e.count)

-- the numbers of the tickets at some places
abbrev pub ticket_numbers : (number : ℕ → Option ℕ) → List ℕ → List ℕ
ticket_numbers number places = map (λ p. unwrap_or (number p) 0) places

-- the key of the link at the place where a ticket is found
abbrev pub key_at : (links : ℕ → Option TicketLink) → Option ℕ → Option ℕ
key_at links None = None
key_at links (Some p) = option_map (λ (l : TicketLink). l.key) (links p)

-- the tickets that are in at an object, and those of a request, earliest first
unfoldable pub queue : (object : ℕ) → Tickets → List ℕ
queue object g = ticket_numbers (number_at g.slots) (walked (queue_link g.slots) (ends_at g.queues object))

unfoldable pub list : (request : ℕ) → Tickets → List ℕ
list request g = ticket_numbers (number_at g.slots) (walked (list_link g.slots) (ends_at g.lists request))

abbrev pub place_of_ticket : (ticket : ℕ) → Tickets → Option ℕ
place_of_ticket ticket g = lookup (nat_eq ticket) g.places

-- the object and the request that a ticket which is in belongs to: none of one that isn't in
unfoldable pub ticket_object : (ticket : ℕ) → Tickets → Option ℕ
ticket_object ticket g = key_at (queue_link g.slots) (place_of_ticket ticket g)

unfoldable pub ticket_request : (ticket : ℕ) → Tickets → Option ℕ
ticket_request ticket g = key_at (list_link g.slots) (place_of_ticket ticket g)

-- the others, in their order
abbrev pub without_all : (gone : List ℕ) → List ℕ → List ℕ
without_all gone tickets = filter (λ t. not (is_in t gone)) tickets

-- whether one ticket stands ahead of another
abbrev pub is_ahead : (one other : ℕ) → List ℕ → Bool
is_ahead one other [] = false
is_ahead one other (t ∷ tickets) = cond (t == one) (is_in other tickets) (is_ahead one other tickets)

-- each queue and each list stays, each ticket's object and request, and the number of the next
-- ticket
pub record AreSame (old new : Tickets) : Type 0 where
  pub queue : (object : ℕ) → queue object new ≡ queue object old
  pub list : (request : ℕ) → list request new ≡ list request old
  pub object : (ticket : ℕ) → ticket_object ticket new ≡ ticket_object ticket old
  pub request : (ticket : ℕ) → ticket_request ticket new ≡ ticket_request ticket old
  pub drawn : new.drawn ≡ old.drawn

-- what holds of each guard: a ticket stands once, in the queue of its object and in the list of its
-- request alone; who has an object has a request; and each ticket that is in has a number that was
-- drawn
pub record IsSoundGuard (g : Tickets) : Type 0 where
  pub queues : IsEachInItsLine (λ object. queue object g) (λ ticket. ticket_object ticket g)
  pub lists : IsEachInItsLine (λ request. list request g) (λ ticket. ticket_request ticket g)
  pub both : (ticket : ℕ) → is_some (ticket_object ticket g) ≡ is_some (ticket_request ticket g)
  pub drawn : (ticket : ℕ) → IsSome (ticket_object ticket g) → ticket < g.drawn
  pub queue_fits : (object : ℕ) → length (queue object g) ≤ g.drawn
  pub list_fits : (request : ℕ) → length (list request g) ≤ g.drawn
  pub fits : g.drawn < 2 ^ 64

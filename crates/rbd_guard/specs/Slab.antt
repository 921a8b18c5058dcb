-- A slab: places of tickets, and the free ones among them.
use Rattle.std.specs.Prelude.{◌≡◌, ℕ, zero, suc, true, cond, length, List, [], ◌∷◌, Option, Some, None, option_map, IsTrue}
use Rattle.std.specs.List.{slice_get}
use Rattle.rbd_guard.specs.declared.link.TicketLink.{TicketLink}
use Rattle.rbd_guard.specs.declared.link.SlabPlace.{SlabPlace}
use Rattle.rbd_guard.specs.Order.{is_in, AreApart}
use Rattle.rbd_guard.specs.Links.{front, link}

-- the places, of which some are free, and for how many more tickets there is room
pub record Slots : Type 0 where
  pub places : List SlabPlace
  pub room : ℕ

abbrev pub if_used : Option SlabPlace → Option SlabPlace
if_used None = None
if_used (Some p) = cond p.used (Some p) None

-- what stands at a place that isn't free
abbrev pub used_at : List SlabPlace → (at : ℕ) → Option SlabPlace
used_at places at = if_used (slice_get places at)

-- the number of the ticket at a place, and its links
abbrev pub number_at : List SlabPlace → (at : ℕ) → Option ℕ
number_at places at = option_map (λ (p : SlabPlace). p.number) (used_at places at)

abbrev pub queue_link : List SlabPlace → (at : ℕ) → Option TicketLink
queue_link places at = option_map (λ (p : SlabPlace). p.queue) (used_at places at)

abbrev pub list_link : List SlabPlace → (at : ℕ) → Option TicketLink
list_link places at = option_map (λ (p : SlabPlace). p.list) (used_at places at)

abbrev pub number_or_none : (number : ℕ → Option ℕ) → (at : Option ℕ) → Option ℕ
number_or_none number None = None
number_or_none number (Some at) = number at

-- what stands at the place of a ticket that isn't linked with others yet
abbrev pub entering : (number object request : ℕ) → SlabPlace
entering number object request =
    record {
      used = true;
      number = number;
      queue = link object None None;
      list = link request None None;
      free = None;
    }

-- what a free place names: the next free one, or that it is the last
abbrev pub if_free : Option SlabPlace → Option (Option ℕ)
if_free None = None
if_free (Some p) = cond p.used None (Some p.free)

abbrev pub free_at : List SlabPlace → (at : ℕ) → Option (Option ℕ)
free_at places at = if_free (slice_get places at)

abbrev pub or_end : Option (Option ℕ) → Option ℕ
or_end None = None
or_end (Some next) = next

-- so many free places, from one on, each with the one that it names
abbrev pub walk_free : (free : ℕ → Option (Option ℕ)) → (count : ℕ) → (from : Option ℕ) → List ℕ
walk_free free zero from = []
walk_free free (suc count) None = []
walk_free free (suc count) (Some p) = p ∷ walk_free free count (or_end (free p))

-- each place of a list is free, and names the next
abbrev pub AreChained : (free : ℕ → Option (Option ℕ)) → List ℕ → Type 0
AreChained free [] = Unit {0}
AreChained free (p ∷ chain) = (free p ≡ Some (front chain None)) × AreChained free chain

-- the list of the free places: all of them stand there, each once, and no place that is used
pub record IsChain (free : ℕ → Option (Option ℕ)) (head : Option ℕ) (size : ℕ) (chain : List ℕ) : Type 0 where
  pub first : head ≡ front chain None
  pub count : size ≡ length chain
  pub chained : AreChained free chain
  pub apart : AreApart chain
  pub all : (p : ℕ) (next : Option ℕ) → free p ≡ Some next → IsTrue (is_in p chain)

abbrev pub AreFree : List SlabPlace → (first : Option ℕ) → (count : ℕ) → Type 0
AreFree places first count = IsChain (free_at places) first count (walk_free (free_at places) count first)

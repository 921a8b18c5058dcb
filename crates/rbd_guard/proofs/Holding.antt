-- What the slab and the tables of a guard say, in the words of its contract.
use Rattle.std.proofs.Common.{◌≡◌, ℕ, ◌<◌, ◌≤◌, true, List, length, Option, Some, None, refl, sym, ap, subst, ◌∙◌, true≢false}
use Rattle.std.specs.List.{slice_get}
use Rattle.std.specs.Option.{option_map, is_some, IfSome}
use Rattle.std.proofs.lemmas.Option.{none-some}
use Rattle.rbd_guard.specs.declared.link.TicketLink.{TicketLink}
use Rattle.rbd_guard.specs.declared.link.SlabPlace.{SlabPlace}
use Rattle.rbd_guard.specs.Order.{walked}
use Rattle.rbd_guard.specs.Slab.{used_at, number_at, queue_link, list_link, number_or_none}
use Rattle.rbd_guard.specs.Tickets.{Tickets, ends_at, ticket_numbers, key_at, place_of_ticket, queue, list, ticket_object, ticket_request, IsSoundGuard}
use Rattle.rbd_guard.specs.Held.{AreHeld}
use Rattle.rbd_guard.proofs.Numbered.{HasNumber, AreKnown, in_order, count_is, first_is, first_found}

pub queue_is : (g : Tickets) (o : ℕ) → queue o g ≡ ticket_numbers (number_at g.slots) (walked (queue_link g.slots) (ends_at g.queues o))
unfolding queue
queue_is g o = refl

pub list_is : (g : Tickets) (r : ℕ) → list r g ≡ ticket_numbers (number_at g.slots) (walked (list_link g.slots) (ends_at g.lists r))
unfolding list
list_is g r = refl

pub object_is : (g : Tickets) (t : ℕ) → ticket_object t g ≡ key_at (queue_link g.slots) (place_of_ticket t g)
unfolding ticket_object
object_is g t = refl

pub request_is : (g : Tickets) (t : ℕ) → ticket_request t g ≡ key_at (list_link g.slots) (place_of_ticket t g)
unfolding ticket_request
request_is g t = refl

-- who stands in a queue or a list has a number
pub queue_has : (slots : List SlabPlace) (p : ℕ) (l : TicketLink) → queue_link slots p ≡ Some l → HasNumber (number_at slots) p
queue_has slots p l is = by (used_at slots p) refl is
  where
    by : (o : Option SlabPlace) → used_at slots p ≡ o → option_map (λ (p : SlabPlace). p.queue) o ≡ Some l → HasNumber (number_at slots) p
    by None e is = absurd (none-some l is)
    by (Some place) e is = record { of = place.number; is = ap (λ o. option_map (λ (p : SlabPlace). p.number) o) e }

pub list_has : (slots : List SlabPlace) (p : ℕ) (l : TicketLink) → list_link slots p ≡ Some l → HasNumber (number_at slots) p
list_has slots p l is = by (used_at slots p) refl is
  where
    by : (o : Option SlabPlace) → used_at slots p ≡ o → option_map (λ (p : SlabPlace). p.list) o ≡ Some l → HasNumber (number_at slots) p
    by None e is = absurd (none-some l is)
    by (Some place) e is = record { of = place.number; is = ap (λ o. option_map (λ (p : SlabPlace). p.number) o) e }

-- a place has a ticket's number exactly where it is used
used_of : (slots : List SlabPlace) (p t : ℕ) → number_at slots p ≡ Some t → is_some (used_at slots p) ≡ true
used_of slots p t is = by (used_at slots p) is
  where
    by : (o : Option SlabPlace) → option_map (λ (p : SlabPlace). p.number) o ≡ Some t → is_some o ≡ true
    by None is = absurd (none-some t is)
    by (Some place) is = refl

-- the same tables with another room
pub again : (g : Tickets) (room : ℕ) → AreHeld g
    → AreHeld (record { slots = g.slots; places = g.places; queues = g.queues; lists = g.lists; drawn = g.drawn; reserved = room })
again g room held =
    record {
      queues = held.queues;
      lists = held.lists;
      found = held.found;
      known = held.known;
      drawn = held.drawn;
      queue_fits = held.queue_fits;
      list_fits = held.list_fits;
      queues_used = held.queues_used;
      lists_used = held.lists_used;
      fits = held.fits;
    }

module _ (g : Tickets) (held : AreHeld g) where
  pub are_known : AreKnown (number_at g.slots) (λ t. place_of_ticket t g)
  are_known = record { found = held.found; known = held.known }

  pub queue_count : (o : ℕ) → (ends_at g.queues o).count ≡ length (queue o g)
  queue_count o =
      count_is (queue_link g.slots) (ends_at g.queues) (number_at g.slots) (λ t. place_of_ticket t g) held.queues are_known (queue_has g.slots) o
      ∙ sym (ap length (queue_is g o))

  pub list_count : (r : ℕ) → (ends_at g.lists r).count ≡ length (list r g)
  list_count r =
      count_is (list_link g.slots) (ends_at g.lists) (number_at g.slots) (λ t. place_of_ticket t g) held.lists are_known (list_has g.slots) r
      ∙ sym (ap length (list_is g r))

  pub queue_first : (o : ℕ) → number_or_none (number_at g.slots) (ends_at g.queues o).first ≡ slice_get (queue o g) 0
  queue_first o =
      first_is (queue_link g.slots) (ends_at g.queues) (number_at g.slots) (λ t. place_of_ticket t g) held.queues are_known (queue_has g.slots) o
      ∙ sym (ap (λ ts. slice_get ts 0) (queue_is g o))

  pub list_first : (r : ℕ) → number_or_none (number_at g.slots) (ends_at g.lists r).first ≡ slice_get (list r g) 0
  list_first r =
      first_is (list_link g.slots) (ends_at g.lists) (number_at g.slots) (λ t. place_of_ticket t g) held.lists are_known (list_has g.slots) r
      ∙ sym (ap (λ ts. slice_get ts 0) (list_is g r))

  both_used : (t : ℕ) (o : Option ℕ) → place_of_ticket t g ≡ o → is_some (key_at (queue_link g.slots) o) ≡ is_some (key_at (list_link g.slots) o)
  both_used t None e = refl
  both_used t (Some p) e = by (used_at g.slots p)
    where
      by : (o : Option SlabPlace) → is_some (option_map (λ (l : TicketLink). l.key) (option_map (λ (p : SlabPlace). p.queue) o)) ≡ is_some (option_map (λ (l : TicketLink). l.key) (option_map (λ (p : SlabPlace). p.list) o))
      by None = refl
      by (Some place) = refl

  is_drawn : (t : ℕ) (o : Option ℕ) → place_of_ticket t g ≡ o → is_some (key_at (queue_link g.slots) o) ≡ true → t < g.drawn
  is_drawn t None e some = absurd (true≢false (sym some))
  is_drawn t (Some p) e some = held.drawn t p (held.found t p e)

  pub sound : IsSoundGuard g
  unfolding queue list ticket_object ticket_request
  sound =
      record {
        queues = in_order (queue_link g.slots) (ends_at g.queues) (number_at g.slots) (λ t. place_of_ticket t g) held.queues are_known (queue_has g.slots);
        lists = in_order (list_link g.slots) (ends_at g.lists) (number_at g.slots) (λ t. place_of_ticket t g) held.lists are_known (list_has g.slots);
        both = λ t. both_used t (place_of_ticket t g) refl;
        drawn = λ t some. is_drawn t (place_of_ticket t g) refl some;
        queue_fits = λ o. subst (λ n. n ≤ g.drawn) (queue_count o) (held.queue_fits o);
        list_fits = λ r. subst (λ n. n ≤ g.drawn) (list_count r) (held.list_fits r);
        fits = held.fits;
      }

  -- a ticket that is in stands at a place
  pub has_place : (t : ℕ) → is_some (ticket_object t g) ≡ true → is_some (place_of_ticket t g) ≡ true
  has_place t some = by (place_of_ticket t g) (sym (ap is_some (object_is g t)) ∙ some)
    where
      by : (o : Option ℕ) → is_some (key_at (queue_link g.slots) o) ≡ true → is_some o ≡ true
      by None e = e
      by (Some p) e = refl

  pub place_used : (t p : ℕ) → place_of_ticket t g ≡ Some p → is_some (used_at g.slots p) ≡ true
  place_used t p e = used_of g.slots p t (held.found t p e)

  pub object_found : (o : ℕ) (r : Option ℕ) → r ≡ slice_get (queue o g) 0 → IfSome r (λ t. ticket_object t g ≡ Some o)
  object_found o r is = first_found (λ o. queue o g) (λ t. ticket_object t g) o r sound.queues is

  pub request_found : (k : ℕ) (r : Option ℕ) → r ≡ slice_get (list k g) 0 → IfSome r (λ t. ticket_request t g ≡ Some k)
  request_found k r is = first_found (λ k. list k g) (λ t. ticket_request t g) k r sound.lists is

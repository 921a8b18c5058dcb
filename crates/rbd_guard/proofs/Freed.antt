-- A ticket leaves a guard: its place is free.
use Rattle.std.proofs.Common.{◌≡◌, ℕ, ◌-◌, ◌<◌, ◌≤◌, ◌^◌, Bool, true, false, cond, eqb, List, Some, None, sym, ap, subst, ◌∙◌, inl, inr, arith}
use Rattle.std.specs.Prelude.{◌⊎◌}
use Rattle.std.specs.Option.{option_map}
use Rattle.std.proofs.lemmas.Bool.{cond-true, cond-false, cases_Bool}
use Rattle.std.proofs.lemmas.Option.{none-some}
use Rattle.rbd_guard.specs.declared.link.TicketLink.{TicketLink}
use Rattle.rbd_guard.specs.declared.link.Ends.{Ends}
use Rattle.rbd_guard.specs.declared.link.SlabPlace.{SlabPlace}
use Rattle.rbd_guard.specs.Order.{without, no_ends}
use Rattle.rbd_guard.specs.Links.{with_after, with_before, shorter, or_none}
use Rattle.rbd_guard.specs.Slab.{used_at, number_at, queue_link, list_link}
use Rattle.rbd_guard.specs.Tickets.{NoneIsEmpty, Tickets, ends_at, place_of_ticket, queue, list, ticket_object, ticket_request}
use Rattle.rbd_guard.specs.Held.{AreHeld}
use Rattle.rbd_guard.proofs.Numbered.{AreKnown}
use Rattle.rbd_guard.proofs.Entering.{map_cond}
use Rattle.rbd_guard.proofs.Emptying.{left_sound, left_line, left_key, left_known}
use Rattle.rbd_guard.proofs.Holding.{queue_is, list_is, object_is, request_is, queue_has, list_has, are_known}

-- what leaving does to them: the place is free, and those around it are linked with each other
pub record IsOut (old new : Tickets) (one two : List SlabPlace) (at ticket : ℕ) (was : SlabPlace) : Type 0 where
  pub here : place_of_ticket ticket old ≡ Some at
  pub stood : used_at old.slots at ≡ Some was
  pub put : (p : ℕ) → used_at one p ≡ cond (eqb at p) None (used_at old.slots p)
  pub queue : (p : ℕ) → queue_link new.slots p ≡ with_before (with_after (queue_link one) was.queue.before was.queue.after) was.queue.after was.queue.before p
  pub list : (p : ℕ) → list_link new.slots p ≡ with_before (with_after (list_link two) was.list.before was.list.after) was.list.after was.list.before p
  pub kept : (p : ℕ) → list_link two p ≡ list_link one p
  pub number : (p : ℕ) → number_at new.slots p ≡ number_at one p
  pub queues : (k : ℕ) → ends_at new.queues k ≡ cond (eqb was.queue.key k) (or_none (shorter (ends_at old.queues was.queue.key) was.queue)) (ends_at old.queues k)
  pub lists : (k : ℕ) → ends_at new.lists k ≡ cond (eqb was.list.key k) (or_none (shorter (ends_at old.lists was.list.key) was.list)) (ends_at old.lists k)
  pub used_queues : NoneIsEmpty old.queues → NoneIsEmpty new.queues
  pub used_lists : NoneIsEmpty old.lists → NoneIsEmpty new.lists
  pub places : (t : ℕ) → place_of_ticket t new ≡ cond (eqb ticket t) None (place_of_ticket t old)
  pub drawn : new.drawn ≡ old.drawn

shorter_fits : (b : Bool) (e f : Ends) (l : TicketLink) (drawn : ℕ) → e.count ≤ drawn → f.count ≤ drawn → (cond b (or_none (shorter e l)) f).count ≤ drawn
shorter_fits false e f l drawn fits others = others
shorter_fits true e f l drawn fits others = by (eqb (e.count - 1) 0)
  where
    by : (b : Bool) → (cond b no_ends (shorter e l)).count ≤ drawn
    by true = omega arith
    by false = omega (arith, fits)

module _ (old new : Tickets) (one two : List SlabPlace) (at ticket : ℕ) (was : SlabPlace) (held : AreHeld old) (e : IsOut old new one two at ticket was) where
  queue_taken : (p : ℕ) → queue_link one p ≡ cond (eqb at p) None (queue_link old.slots p)
  queue_taken p = ap (λ o. option_map (λ (p : SlabPlace). p.queue) o) (e.put p) ∙ map_cond (λ (p : SlabPlace). p.queue) (eqb at p) _ (used_at old.slots p)

  list_taken : (p : ℕ) → list_link two p ≡ cond (eqb at p) None (list_link old.slots p)
  list_taken p = e.kept p ∙ ap (λ o. option_map (λ (p : SlabPlace). p.list) o) (e.put p) ∙ map_cond (λ (p : SlabPlace). p.list) (eqb at p) _ (used_at old.slots p)

  number_taken : (p : ℕ) → number_at new.slots p ≡ cond (eqb at p) None (number_at old.slots p)
  number_taken p = e.number p ∙ ap (λ o. option_map (λ (p : SlabPlace). p.number) o) (e.put p) ∙ map_cond (λ (p : SlabPlace). p.number) (eqb at p) _ (used_at old.slots p)

  had_queue : queue_link old.slots at ≡ Some was.queue
  had_queue = ap (λ o. option_map (λ (p : SlabPlace). p.queue) o) e.stood

  had_list : list_link old.slots at ≡ Some was.list
  had_list = ap (λ o. option_map (λ (p : SlabPlace). p.list) o) e.stood

  mine : number_at old.slots at ≡ Some ticket
  mine = held.found ticket at e.here

  known : AreKnown (number_at new.slots) (λ t. place_of_ticket t new)
  known = left_known (number_at old.slots) (number_at new.slots) (λ t. place_of_ticket t old) (λ t. place_of_ticket t new) at ticket (are_known old held) mine number_taken e.places

  drawn_all : (t p : ℕ) → (eqb at p ≡ true) ⊎ (eqb at p ≡ false) → number_at new.slots p ≡ Some t → t < new.drawn
  drawn_all t p (inl same) is = absurd (none-some t (sym (number_taken p ∙ cond-true (eqb at p) _ _ same) ∙ is))
  drawn_all t p (inr other) is =
      subst (λ n. t < n) (sym e.drawn) (held.drawn t p (sym (number_taken p ∙ cond-false (eqb at p) _ _ other) ∙ is))

  pub left_held : AreHeld new
  left_held =
      record {
        queues = left_sound (queue_link old.slots) (queue_link one) (queue_link new.slots) (ends_at old.queues) (ends_at new.queues)
            (number_at old.slots) (number_at new.slots) (λ t. place_of_ticket t old) (λ t. place_of_ticket t new) at ticket was.queue held.queues (are_known old held) (queue_has old.slots)
            had_queue mine queue_taken e.queue e.queues number_taken e.places;
        lists = left_sound (list_link old.slots) (list_link two) (list_link new.slots) (ends_at old.lists) (ends_at new.lists)
            (number_at old.slots) (number_at new.slots) (λ t. place_of_ticket t old) (λ t. place_of_ticket t new) at ticket was.list held.lists (are_known old held) (list_has old.slots)
            had_list mine list_taken e.list e.lists number_taken e.places;
        found = known.found;
        known = known.known;
        drawn = λ t p is. drawn_all t p (cases_Bool (eqb at p)) is;
        queue_fits = λ k. subst (λ n. (ends_at new.queues k).count ≤ n) (sym e.drawn) (subst (λ (n : Ends). n.count ≤ old.drawn) (sym (e.queues k))
            (shorter_fits (eqb was.queue.key k) (ends_at old.queues was.queue.key) (ends_at old.queues k) was.queue old.drawn (held.queue_fits was.queue.key) (held.queue_fits k)));
        list_fits = λ k. subst (λ n. (ends_at new.lists k).count ≤ n) (sym e.drawn) (subst (λ (n : Ends). n.count ≤ old.drawn) (sym (e.lists k))
            (shorter_fits (eqb was.list.key k) (ends_at old.lists was.list.key) (ends_at old.lists k) was.list old.drawn (held.list_fits was.list.key) (held.list_fits k)));
        queues_used = e.used_queues held.queues_used;
        lists_used = e.used_lists held.lists_used;
        fits = subst (λ n. n < 2 ^ 64) (sym e.drawn) held.fits;
      }

  pub left_queue : (o : ℕ) → queue o new ≡ without ticket (queue o old)
  left_queue o =
      queue_is new o
      ∙ left_line (queue_link old.slots) (queue_link one) (queue_link new.slots) (ends_at old.queues) (ends_at new.queues)
      (number_at old.slots) (number_at new.slots) (λ t. place_of_ticket t old) (λ t. place_of_ticket t new) at ticket was.queue held.queues (are_known old held) (queue_has old.slots)
      had_queue mine queue_taken e.queue e.queues number_taken e.places o
      ∙ sym (ap (λ ts. without ticket ts) (queue_is old o))

  pub left_list : (r : ℕ) → list r new ≡ without ticket (list r old)
  left_list r =
      list_is new r
      ∙ left_line (list_link old.slots) (list_link two) (list_link new.slots) (ends_at old.lists) (ends_at new.lists)
      (number_at old.slots) (number_at new.slots) (λ t. place_of_ticket t old) (λ t. place_of_ticket t new) at ticket was.list held.lists (are_known old held) (list_has old.slots)
      had_list mine list_taken e.list e.lists number_taken e.places r
      ∙ sym (ap (λ ts. without ticket ts) (list_is old r))

  pub left_object : (t : ℕ) → ticket_object t new ≡ cond (eqb ticket t) None (ticket_object t old)
  left_object t =
      object_is new t
      ∙ left_key (queue_link old.slots) (queue_link one) (queue_link new.slots) (ends_at old.queues) (ends_at new.queues)
      (number_at old.slots) (number_at new.slots) (λ t. place_of_ticket t old) (λ t. place_of_ticket t new) at ticket was.queue held.queues (are_known old held) (queue_has old.slots)
      had_queue mine queue_taken e.queue e.queues number_taken e.places t
      ∙ sym (ap (λ k. cond (eqb ticket t) None k) (object_is old t))

  pub left_request : (t : ℕ) → ticket_request t new ≡ cond (eqb ticket t) None (ticket_request t old)
  left_request t =
      request_is new t
      ∙ left_key (list_link old.slots) (list_link two) (list_link new.slots) (ends_at old.lists) (ends_at new.lists)
      (number_at old.slots) (number_at new.slots) (λ t. place_of_ticket t old) (λ t. place_of_ticket t new) at ticket was.list held.lists (are_known old held) (list_has old.slots)
      had_list mine list_taken e.list e.lists number_taken e.places t
      ∙ sym (ap (λ k. cond (eqb ticket t) None k) (request_is old t))

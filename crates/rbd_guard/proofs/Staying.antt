-- A guard whose tickets stay where they are, and one with none.
use Rattle.std.proofs.Common.{◌≡◌, ℕ, ◌<◌, ◌≤◌, ◌^◌, nat_eq, [], Option, None, refl, sym, ap, subst, ◌∙◌, arith}
use Rattle.std.specs.Map.{lookup}
use Rattle.std.specs.Option.{IfSome}
use Rattle.std.proofs.lemmas.Option.{none-some}
use Rattle.rbd_guard.specs.declared.link.TicketLink.{TicketLink}
use Rattle.rbd_guard.specs.declared.link.Ends.{Ends}
use Rattle.rbd_guard.specs.Order.{walked, ends_or}
use Rattle.rbd_guard.specs.Links.{IsLine, AreLines}
use Rattle.rbd_guard.specs.Slab.{number_at, queue_link, list_link}
use Rattle.rbd_guard.specs.Tickets.{Tickets, ends_at, ticket_numbers, key_at, place_of_ticket, queue, list, ticket_object, ticket_request, AreSame}
use Rattle.rbd_guard.specs.Held.{AreHeld}
use Rattle.rbd_guard.proofs.Linking.{linked_frame}
use Rattle.rbd_guard.proofs.Pushed.{AreLinesOf, lines_of}
use Rattle.rbd_guard.proofs.Holding.{queue_is, list_is, object_is, request_is}

same_lines_of : (links others : ℕ → Option TicketLink) (ends other_ends : ℕ → Ends) → AreLines links ends
    → ((n : ℕ) → others n ≡ links n) → ((k : ℕ) → other_ends k ≡ ends k) → AreLinesOf others other_ends (λ k. walked links (ends k))
same_lines_of links others ends other_ends sound same same_ends =
    lines_of others other_ends (λ k. walked links (ends k))
    (λ k. subst (λ e. IsLine others k e (walked links (ends k))) (sym (same_ends k))
    (record {
      first = (sound.lines k).first;
      last = (sound.lines k).last;
      count = (sound.lines k).count;
      linked = linked_frame links others k None (walked links (ends k)) None (λ m h. same m) (sound.lines k).linked;
      apart = (sound.lines k).apart;
    }))
    (λ n l is. sound.stands n l (sym (same n) ∙ is))

module _ (old new : Tickets) (slots : new.slots ≡ old.slots) (places : (t : ℕ) → place_of_ticket t new ≡ place_of_ticket t old)
    (queues : (k : ℕ) → lookup (nat_eq k) new.queues ≡ lookup (nat_eq k) old.queues) (lists : (k : ℕ) → lookup (nat_eq k) new.lists ≡ lookup (nat_eq k) old.lists)
    (drawn : new.drawn ≡ old.drawn) where
  same_queues : (k : ℕ) → ends_at new.queues k ≡ ends_at old.queues k
  same_queues k = ap ends_or (queues k)

  same_lists : (k : ℕ) → ends_at new.lists k ≡ ends_at old.lists k
  same_lists k = ap ends_or (lists k)

  pub same_held : AreHeld old → AreHeld new
  same_held held =
      record {
        queues = (same_lines_of (queue_link old.slots) (queue_link new.slots) (ends_at old.queues) (ends_at new.queues) held.queues (λ n. ap (λ s. queue_link s n) slots) same_queues).sound;
        lists = (same_lines_of (list_link old.slots) (list_link new.slots) (ends_at old.lists) (ends_at new.lists) held.lists (λ n. ap (λ s. list_link s n) slots) same_lists).sound;
        found = λ t p is. ap (λ s. number_at s p) slots ∙ held.found t p (sym (places t) ∙ is);
        known = λ t p is. places t ∙ held.known t p (sym (ap (λ s. number_at s p) slots) ∙ is);
        drawn = λ t p is. subst (λ n. t < n) (sym drawn) (held.drawn t p (sym (ap (λ s. number_at s p) slots) ∙ is));
        queue_fits = λ k. subst (λ n. (ends_at new.queues k).count ≤ n) (sym drawn) (subst (λ (e : Ends). e.count ≤ old.drawn) (sym (same_queues k)) (held.queue_fits k));
        list_fits = λ k. subst (λ n. (ends_at new.lists k).count ≤ n) (sym drawn) (subst (λ (e : Ends). e.count ≤ old.drawn) (sym (same_lists k)) (held.list_fits k));
        queues_used = λ k. subst (λ o. IfSome o (λ (e : Ends). 0 < e.count)) (sym (queues k)) (held.queues_used k);
        lists_used = λ k. subst (λ o. IfSome o (λ (e : Ends). 0 < e.count)) (sym (lists k)) (held.lists_used k);
        fits = subst (λ n. n < 2 ^ 64) (sym drawn) held.fits;
      }

  pub same_tickets : AreSame old new
  same_tickets =
      record {
        queue = λ o. queue_is new o ∙ ap (λ s. ticket_numbers (number_at s) (walked (queue_link s) (ends_at new.queues o))) slots
            ∙ ap (λ e. ticket_numbers (number_at old.slots) (walked (queue_link old.slots) e)) (same_queues o) ∙ sym (queue_is old o);
        list = λ r. list_is new r ∙ ap (λ s. ticket_numbers (number_at s) (walked (list_link s) (ends_at new.lists r))) slots
            ∙ ap (λ e. ticket_numbers (number_at old.slots) (walked (list_link old.slots) e)) (same_lists r) ∙ sym (list_is old r);
        object = λ t. object_is new t ∙ ap (λ s. key_at (queue_link s) (place_of_ticket t new)) slots
            ∙ ap (λ p. key_at (queue_link old.slots) p) (places t) ∙ sym (object_is old t);
        request = λ t. request_is new t ∙ ap (λ s. key_at (list_link s) (place_of_ticket t new)) slots
            ∙ ap (λ p. key_at (list_link old.slots) p) (places t) ∙ sym (request_is old t);
        drawn = drawn;
      }

-- ---- no ticket

pub no_queue : (g : Tickets) → g.queues ≡ [] → (o : ℕ) → queue o g ≡ []
no_queue g none o = queue_is g o ∙ ap (λ es. ticket_numbers (number_at g.slots) (walked (queue_link g.slots) (ends_or (lookup (nat_eq o) es)))) none

pub no_list : (g : Tickets) → g.lists ≡ [] → (r : ℕ) → list r g ≡ []
no_list g none r = list_is g r ∙ ap (λ es. ticket_numbers (number_at g.slots) (walked (list_link g.slots) (ends_or (lookup (nat_eq r) es)))) none

pub no_object : (g : Tickets) → g.places ≡ [] → (t : ℕ) → ticket_object t g ≡ None
no_object g none t = object_is g t ∙ ap (λ ps. key_at (queue_link g.slots) (lookup (nat_eq t) ps)) none

pub no_request : (g : Tickets) → g.places ≡ [] → (t : ℕ) → ticket_request t g ≡ None
no_request g none t = request_is g t ∙ ap (λ ps. key_at (list_link g.slots) (lookup (nat_eq t) ps)) none

nothing : Tickets
nothing = record { slots = []; places = []; queues = []; lists = []; drawn = 0; reserved = 0 }

nothing_held : AreHeld nothing
unfolding nothing
nothing_held =
    record {
      queues = record {
        lines = λ k. record { first = refl; last = refl; count = refl; linked = tt; apart = tt };
        stands = λ n l is. absurd (none-some l is);
      };
      lists = record {
        lines = λ k. record { first = refl; last = refl; count = refl; linked = tt; apart = tt };
        stands = λ n l is. absurd (none-some l is);
      };
      found = λ t p is. absurd (none-some p is);
      known = λ t p is. absurd (none-some t is);
      drawn = λ t p is. absurd (none-some t is);
      queue_fits = λ k. omega arith;
      list_fits = λ k. omega arith;
      queues_used = λ k. tt;
      lists_used = λ k. tt;
      fits = omega arith;
    }

pub none_held : (g : Tickets) → g.slots ≡ [] → g.places ≡ [] → g.queues ≡ [] → g.lists ≡ [] → g.drawn ≡ 0 → AreHeld g
unfolding nothing
none_held g slots places queues lists drawn =
    same_held nothing g slots (λ t. ap (λ ps. lookup (nat_eq t) ps) places)
    (λ k. ap (λ es. lookup (nat_eq k) es) queues) (λ k. ap (λ es. lookup (nat_eq k) es) lists) drawn nothing_held

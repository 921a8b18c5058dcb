-- A ticket enters a guard: a place is taken.
use Rattle.std.proofs.Common.{◌≡◌, ℕ, ◌+◌, ◌-◌, ◌<◌, ◌≤◌, ◌^◌, Bool, true, false, cond, eqb, List, [], ◌∷◌, ◌++◌, Option, Some, None, refl, sym, ap, subst, ◌∙◌, inl, inr, arith}
use Rattle.std.specs.Prelude.{◌⊎◌}
use Rattle.std.specs.Option.{option_map}
use Rattle.std.proofs.lemmas.Bool.{cond-true, cond-false, cases_Bool}
use Rattle.std.proofs.lemmas.Option.{same_Some}
use Rattle.rbd_guard.specs.declared.link.Ends.{Ends}
use Rattle.rbd_guard.specs.declared.link.SlabPlace.{SlabPlace}
use Rattle.rbd_guard.specs.Links.{link, with_after, with_before, longer}
use Rattle.rbd_guard.specs.Slab.{used_at, number_at, queue_link, list_link, entering}
use Rattle.rbd_guard.specs.Tickets.{NoneIsEmpty, Tickets, ends_at, key_at, place_of_ticket, queue, list, ticket_object, ticket_request}
use Rattle.rbd_guard.specs.Held.{AreHeld}
use Rattle.rbd_guard.proofs.Numbered.{AreKnown}
use Rattle.rbd_guard.proofs.Entering.{map_cond, put_before, entered_sound, entered_line, entered_key, entered_known}
use Rattle.rbd_guard.proofs.Holding.{queue_is, list_is, object_is, request_is, queue_has, list_has, are_known}

-- what entering does to the slab and the tables: a place is taken, and linked behind the last ones
pub record IsEntered (old new : Tickets) (one two : List SlabPlace) (at object request : ℕ) : Type 0 where
  pub free : used_at old.slots at ≡ None
  pub put : (p : ℕ) → used_at one p ≡ cond (eqb at p) (Some (entering old.drawn object request)) (used_at old.slots p)
  pub queue : (p : ℕ) → queue_link new.slots p ≡ with_after (with_before (queue_link one) (Some at) (ends_at old.queues object).last) (ends_at old.queues object).last (Some at) p
  pub list : (p : ℕ) → list_link new.slots p ≡ with_after (with_before (list_link two) (Some at) (ends_at old.lists request).last) (ends_at old.lists request).last (Some at) p
  pub kept : (p : ℕ) → list_link two p ≡ list_link one p
  pub number : (p : ℕ) → number_at new.slots p ≡ number_at one p
  pub queues : (k : ℕ) → ends_at new.queues k ≡ cond (eqb object k) (longer (ends_at old.queues object) at) (ends_at old.queues k)
  pub lists : (k : ℕ) → ends_at new.lists k ≡ cond (eqb request k) (longer (ends_at old.lists request) at) (ends_at old.lists k)
  pub used_queues : NoneIsEmpty old.queues → NoneIsEmpty new.queues
  pub used_lists : NoneIsEmpty old.lists → NoneIsEmpty new.lists
  pub places : (t : ℕ) → place_of_ticket t new ≡ cond (eqb old.drawn t) (Some at) (place_of_ticket t old)
  pub drawn : new.drawn ≡ old.drawn + 1
  pub below : old.drawn < 2 ^ 64 - 1

longer_fits : (b : Bool) (e f : Ends) (at drawn more : ℕ) → e.count ≤ drawn → f.count ≤ drawn → more ≡ drawn + 1 → (cond b (longer e at) f).count ≤ more
longer_fits true e f at drawn more fits others is = omega (arith, fits, is)
longer_fits false e f at drawn more fits others is = omega (arith, others, is)

-- the next ticket isn't in yet
no_place : (g : Tickets) → AreHeld g → place_of_ticket g.drawn g ≡ None
no_place g held = by (place_of_ticket g.drawn g) refl
  where
    by : (o : Option ℕ) → place_of_ticket g.drawn g ≡ o → place_of_ticket g.drawn g ≡ None
    by None is = is
    by (Some p) is = absurd (let no = held.drawn g.drawn p (held.found g.drawn p is) in omega (arith, no))

pub no_object : (g : Tickets) → AreHeld g → ticket_object g.drawn g ≡ None
no_object g held = object_is g g.drawn ∙ ap (λ p. key_at (queue_link g.slots) p) (no_place g held)

module _ (old new : Tickets) (one two : List SlabPlace) (at object request : ℕ) (held : AreHeld old) (e : IsEntered old new one two at object request) where
  queue_put : (p : ℕ) → with_before (queue_link one) (Some at) (ends_at old.queues object).last p
      ≡ cond (eqb at p) (Some (link object (ends_at old.queues object).last None)) (queue_link old.slots p)
  queue_put p =
      put_before (queue_link one) (queue_link old.slots) object at (ends_at old.queues object).last p
      (ap (λ o. option_map (λ (p : SlabPlace). p.queue) o) (e.put p) ∙ map_cond (λ (p : SlabPlace). p.queue) (eqb at p) _ (used_at old.slots p))

  list_put : (p : ℕ) → with_before (list_link two) (Some at) (ends_at old.lists request).last p
      ≡ cond (eqb at p) (Some (link request (ends_at old.lists request).last None)) (list_link old.slots p)
  list_put p =
      put_before (list_link two) (list_link old.slots) request at (ends_at old.lists request).last p
      (e.kept p ∙ ap (λ o. option_map (λ (p : SlabPlace). p.list) o) (e.put p) ∙ map_cond (λ (p : SlabPlace). p.list) (eqb at p) _ (used_at old.slots p))

  number_put : (p : ℕ) → number_at new.slots p ≡ cond (eqb at p) (Some old.drawn) (number_at old.slots p)
  number_put p = e.number p ∙ ap (λ o. option_map (λ (p : SlabPlace). p.number) o) (e.put p) ∙ map_cond (λ (p : SlabPlace). p.number) (eqb at p) _ (used_at old.slots p)

  no_queue : queue_link old.slots at ≡ None
  no_queue = ap (λ o. option_map (λ (p : SlabPlace). p.queue) o) e.free

  no_list : list_link old.slots at ≡ None
  no_list = ap (λ o. option_map (λ (p : SlabPlace). p.list) o) e.free

  no_number : number_at old.slots at ≡ None
  no_number = ap (λ o. option_map (λ (p : SlabPlace). p.number) o) e.free

  known : AreKnown (number_at new.slots) (λ t. place_of_ticket t new)
  known = entered_known (number_at old.slots) (number_at new.slots) (λ t. place_of_ticket t old) (λ t. place_of_ticket t new) at old.drawn (are_known old held) no_number (no_place old held) number_put e.places

  drawn_all : (t p : ℕ) → (eqb at p ≡ true) ⊎ (eqb at p ≡ false) → number_at new.slots p ≡ Some t → t < new.drawn
  drawn_all t p (inl same) is =
      let t_is : old.drawn ≡ t = same_Some old.drawn t (sym (number_put p ∙ cond-true (eqb at p) _ _ same) ∙ is) in
      let more = e.drawn in
      omega (arith, t_is, more)
  drawn_all t p (inr other) is =
      let less = held.drawn t p (sym (number_put p ∙ cond-false (eqb at p) _ _ other) ∙ is) in
      let more = e.drawn in
      omega (arith, less, more)

  pub entered_held : AreHeld new
  entered_held =
      record {
        queues = entered_sound (queue_link old.slots) (with_before (queue_link one) (Some at) (ends_at old.queues object).last) (queue_link new.slots) (ends_at old.queues) (ends_at new.queues)
            (number_at old.slots) (number_at new.slots) (λ t. place_of_ticket t old) (λ t. place_of_ticket t new) object at old.drawn held.queues (are_known old held) (queue_has old.slots)
            no_queue no_number queue_put e.queue e.queues number_put e.places;
        lists = entered_sound (list_link old.slots) (with_before (list_link two) (Some at) (ends_at old.lists request).last) (list_link new.slots) (ends_at old.lists) (ends_at new.lists)
            (number_at old.slots) (number_at new.slots) (λ t. place_of_ticket t old) (λ t. place_of_ticket t new) request at old.drawn held.lists (are_known old held) (list_has old.slots)
            no_list no_number list_put e.list e.lists number_put e.places;
        found = known.found;
        known = known.known;
        drawn = λ t p is. drawn_all t p (cases_Bool (eqb at p)) is;
        queue_fits = λ k. subst (λ (n : Ends). n.count ≤ new.drawn) (sym (e.queues k)) (longer_fits (eqb object k) (ends_at old.queues object) (ends_at old.queues k) at old.drawn new.drawn (held.queue_fits object) (held.queue_fits k) e.drawn);
        list_fits = λ k. subst (λ (n : Ends). n.count ≤ new.drawn) (sym (e.lists k)) (longer_fits (eqb request k) (ends_at old.lists request) (ends_at old.lists k) at old.drawn new.drawn (held.list_fits request) (held.list_fits k) e.drawn);
        queues_used = e.used_queues held.queues_used;
        lists_used = e.used_lists held.lists_used;
        fits = (let more = e.drawn in let below = e.below in omega (arith, more, below));
      }

  pub entered_queue : (o : ℕ) → queue o new ≡ cond (eqb object o) (queue o old ++ old.drawn ∷ []) (queue o old)
  entered_queue o =
      queue_is new o
      ∙ entered_line (queue_link old.slots) (with_before (queue_link one) (Some at) (ends_at old.queues object).last) (queue_link new.slots) (ends_at old.queues) (ends_at new.queues)
      (number_at old.slots) (number_at new.slots) (λ t. place_of_ticket t old) (λ t. place_of_ticket t new) object at old.drawn held.queues (are_known old held) (queue_has old.slots)
      no_queue no_number queue_put e.queue e.queues number_put e.places o
      ∙ sym (ap (λ ts. cond (eqb object o) (ts ++ old.drawn ∷ []) ts) (queue_is old o))

  pub entered_list : (r : ℕ) → list r new ≡ cond (eqb request r) (list r old ++ old.drawn ∷ []) (list r old)
  entered_list r =
      list_is new r
      ∙ entered_line (list_link old.slots) (with_before (list_link two) (Some at) (ends_at old.lists request).last) (list_link new.slots) (ends_at old.lists) (ends_at new.lists)
      (number_at old.slots) (number_at new.slots) (λ t. place_of_ticket t old) (λ t. place_of_ticket t new) request at old.drawn held.lists (are_known old held) (list_has old.slots)
      no_list no_number list_put e.list e.lists number_put e.places r
      ∙ sym (ap (λ ts. cond (eqb request r) (ts ++ old.drawn ∷ []) ts) (list_is old r))

  pub entered_object : (t : ℕ) → ticket_object t new ≡ cond (eqb old.drawn t) (Some object) (ticket_object t old)
  entered_object t =
      object_is new t
      ∙ entered_key (queue_link old.slots) (with_before (queue_link one) (Some at) (ends_at old.queues object).last) (queue_link new.slots) (ends_at old.queues) (ends_at new.queues)
      (number_at old.slots) (number_at new.slots) (λ t. place_of_ticket t old) (λ t. place_of_ticket t new) object at old.drawn held.queues (are_known old held) (queue_has old.slots)
      no_queue no_number queue_put e.queue e.queues number_put e.places t
      ∙ sym (ap (λ k. cond (eqb old.drawn t) (Some object) k) (object_is old t))

  pub entered_request : (t : ℕ) → ticket_request t new ≡ cond (eqb old.drawn t) (Some request) (ticket_request t old)
  entered_request t =
      request_is new t
      ∙ entered_key (list_link old.slots) (with_before (list_link two) (Some at) (ends_at old.lists request).last) (list_link new.slots) (ends_at old.lists) (ends_at new.lists)
      (number_at old.slots) (number_at new.slots) (λ t. place_of_ticket t old) (λ t. place_of_ticket t new) request at old.drawn held.lists (are_known old held) (list_has old.slots)
      no_list no_number list_put e.list e.lists number_put e.places t
      ∙ sym (ap (λ k. cond (eqb old.drawn t) (Some request) k) (request_is old t))

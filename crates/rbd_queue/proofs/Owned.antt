-- What becomes of the turns where tickets enter and leave.
use Rattle.std.proofs.Common.{◌≡◌, ℕ, Bool, true, false, cond, not, ◌&&◌, eqb, List, [], ◌∷◌, ◌++◌, map, drop, Option, Some, None, Result, Ok, Err, refl, sym, ap, subst, ◌∙◌, true≢false}
use Rattle.std.specs.List.{slice_get}
use Rattle.std.specs.Option.{is_some}
use Rattle.std.specs.Prelude.{IsOk, IfOk}
use Rattle.std.proofs.lemmas.Bool.{and_right, eq-eqb, ne_eqb, eqb-true, eqb-false, cond-true, cond-false}
use Rattle.std.proofs.lemmas.List.{map-append}
use Rattle.std.proofs.lemmas.Option.{none-some, same_Some}
use Rattle.rbd_kinds.proofs.Plain.{eqb_flip}
use Rattle.rbd_guard.specs.Order.{is_in, without, AreApart}
use Rattle.rbd_guard.specs.Tickets.{Tickets, queue, list, ticket_object, ticket_request, without_all, AreSame, IsSoundGuard}
use Rattle.rbd_guard.proofs.Apart.{head_in, absent}
use Rattle.rbd_guard.proofs.Leaving.{Begins, begins, is_empty, next_is}
use Rattle.rbd_queue.specs.Turns.{or_zero, slot_of, object_of_ticket, holders, held_by, begins_with}
use Rattle.rbd_queue.proofs.Lists.{map_same, map_filter, first_alone}

pub empty_holders : (g : Tickets) (object : ℕ) → queue object g ≡ [] → holders object g ≡ []
unfolding holders
empty_holders g object none = ap (map (slot_of g)) none

pub empty_held : (g : Tickets) (slot : ℕ) → list slot g ≡ [] → held_by slot g ≡ []
unfolding held_by
empty_held g slot none = ap (map (object_of_ticket g)) none

pub same_holders : (old new : Tickets) (object : ℕ) → AreSame old new → holders object new ≡ holders object old
unfolding holders
same_holders old new object same =
    ap (map (slot_of new)) (same.queue object)
    ∙ map_same (slot_of new) (slot_of old) (queue object old) (λ t here. ap or_zero (same.request t))

pub same_held : (old new : Tickets) (slot : ℕ) → AreSame old new → held_by slot new ≡ held_by slot old
unfolding held_by
same_held old new slot same =
    ap (map (object_of_ticket new)) (same.list slot)
    ∙ map_same (object_of_ticket new) (object_of_ticket old) (list slot old) (λ t here. ap or_zero (same.object t))

-- ---- tickets that are in

module _ (g : Tickets) (sound : IsSoundGuard g) where
  pub object_is : (object t : ℕ) → is_in t (queue object g) ≡ true → ticket_object t g ≡ Some object
  object_is object t here = sound.queues.stands t object here

  pub request_is : (slot t : ℕ) → is_in t (list slot g) ≡ true → ticket_request t g ≡ Some slot
  request_is slot t here = sound.lists.stands t slot here

  has_some : (o : Option ℕ) → is_some o ≡ true → o ≡ Some (or_zero o)
  has_some None h = absurd (true≢false (sym h))
  has_some (Some n) h = refl

  pub slot_is : (object t : ℕ) → is_in t (queue object g) ≡ true → ticket_request t g ≡ Some (slot_of g t)
  slot_is object t here = has_some (ticket_request t g) (sym (sound.both t) ∙ ap is_some (object_is object t here))

  pub object_at_is : (slot t : ℕ) → is_in t (list slot g) ≡ true → ticket_object t g ≡ Some (object_of_ticket g t)
  object_at_is slot t here = has_some (ticket_object t g) (sound.both t ∙ ap is_some (request_is slot t here))

  -- a ticket in a queue is in the list of a slot exactly where it is of that slot
  pub in_list : (object slot t : ℕ) → is_in t (queue object g) ≡ true → is_in t (list slot g) ≡ eqb (slot_of g t) slot
  in_list object slot t here = by (eqb (slot_of g t) slot) refl
    where
      found : slot_of g t ≡ slot → is_in t (list slot g) ≡ true
      found same = sound.lists.found t slot (slot_is object t here ∙ ap (λ n. Some n) same)

      lost : (b : Bool) → is_in t (list slot g) ≡ b → (slot_of g t ≡ slot → ⊥) → is_in t (list slot g) ≡ false
      lost true e other = absurd (other (ap or_zero (request_is slot t e)))
      lost false e other = e

      by : (b : Bool) → eqb (slot_of g t) slot ≡ b → is_in t (list slot g) ≡ b
      by true e = found (eqb-true (slot_of g t) slot e)
      by false e = lost (is_in t (list slot g)) refl (eqb-false (slot_of g t) slot e)

-- ---- one enters

module _ (old new : Tickets) (slot object ticket : ℕ) (sound : IsSoundGuard old)
    (queue_is : (o : ℕ) → queue o new ≡ cond (eqb object o) (queue o old ++ ticket ∷ []) (queue o old))
    (list_is : (r : ℕ) → list r new ≡ cond (eqb slot r) (list r old ++ ticket ∷ []) (list r old))
    (object_is_new : (t : ℕ) → ticket_object t new ≡ cond (eqb ticket t) (Some object) (ticket_object t old))
    (request_is_new : (t : ℕ) → ticket_request t new ≡ cond (eqb ticket t) (Some slot) (ticket_request t old))
    (fresh : ticket_object ticket old ≡ None) where
  other_queue : (o t : ℕ) → is_in t (queue o old) ≡ true → eqb ticket t ≡ false
  other_queue o t here =
      ne_eqb ticket t (λ same. none-some o (sym fresh ∙ (ap (λ n. ticket_object n old) same ∙ object_is old sound o t here)))

  other_list : (r t : ℕ) → is_in t (list r old) ≡ true → eqb ticket t ≡ false
  other_list r t here =
      ne_eqb ticket t (λ same. none-some (object_of_ticket old t) (sym fresh ∙ (ap (λ n. ticket_object n old) same ∙ object_at_is old sound r t here)))

  slots_stay : (o : ℕ) → map (slot_of new) (queue o old) ≡ map (slot_of old) (queue o old)
  slots_stay o =
      map_same (slot_of new) (slot_of old) (queue o old)
      (λ t here. ap or_zero (request_is_new t ∙ cond-false (eqb ticket t) _ _ (other_queue o t here)))

  objects_stay : (r : ℕ) → map (object_of_ticket new) (list r old) ≡ map (object_of_ticket old) (list r old)
  objects_stay r =
      map_same (object_of_ticket new) (object_of_ticket old) (list r old)
      (λ t here. ap or_zero (object_is_new t ∙ cond-false (eqb ticket t) _ _ (other_list r t here)))

  its_slot : slot_of new ticket ≡ slot
  its_slot = ap or_zero (request_is_new ticket ∙ cond-true (eqb ticket ticket) _ _ (eq-eqb ticket ticket refl))

  its_object : object_of_ticket new ticket ≡ object
  its_object = ap or_zero (object_is_new ticket ∙ cond-true (eqb ticket ticket) _ _ (eq-eqb ticket ticket refl))

  at_end : (f g : ℕ → ℕ) (xs : List ℕ) (n : ℕ) → map f xs ≡ map g xs → f ticket ≡ n → (b : Bool)
      → map f (cond b (xs ++ ticket ∷ []) xs) ≡ cond b (map g xs ++ n ∷ []) (map g xs)
  at_end f g xs n same is true = map-append f xs (ticket ∷ []) ∙ (ap (λ l. l ++ f ticket ∷ []) same ∙ ap (λ m. map g xs ++ m ∷ []) is)
  at_end f g xs n same is false = same

  pub entered_holders : (o : ℕ) → holders o new ≡ cond (eqb object o) (holders o old ++ slot ∷ []) (holders o old)
  unfolding holders
  entered_holders o =
      ap (map (slot_of new)) (queue_is o) ∙ at_end (slot_of new) (slot_of old) (queue o old) slot (slots_stay o) its_slot (eqb object o)

  pub entered_held : (r : ℕ) → held_by r new ≡ cond (eqb slot r) (held_by r old ++ object ∷ []) (held_by r old)
  unfolding held_by
  entered_held r =
      ap (map (object_of_ticket new)) (list_is r) ∙ at_end (object_of_ticket new) (object_of_ticket old) (list r old) object (objects_stay r) its_object (eqb slot r)

-- ---- all of a slot leave

not_out : (a b : Bool) → a ≡ b → not a ≡ true → b ≡ false
not_out true b e h = absurd (true≢false (sym h))
not_out false b e h = sym e

module _ (old new : Tickets) (slot : ℕ) (sound : IsSoundGuard old)
    (queue_is : (o : ℕ) → queue o new ≡ without_all (list slot old) (queue o old))
    (list_is : (r : ℕ) → list r new ≡ cond (eqb slot r) [] (list r old))
    (object_is_new : (t : ℕ) → ticket_object t new ≡ cond (is_in t (list slot old)) None (ticket_object t old))
    (request_is_new : (t : ℕ) → ticket_request t new ≡ cond (is_in t (list slot old)) None (ticket_request t old)) where
  pub left_holders : (o : ℕ) → holders o new ≡ without slot (holders o old)
  unfolding holders
  left_holders o =
      ap (map (slot_of new)) (queue_is o)
      ∙ map_filter (slot_of new) (slot_of old) (λ t. not (is_in t (list slot old))) (λ n. not (eqb n slot)) (queue o old)
      (λ t here. ap not (in_list old sound o slot t here))
      (λ t here stays. ap or_zero (request_is_new t ∙ cond-false (is_in t (list slot old)) _ _ (not_out (is_in t (list slot old)) (is_in t (list slot old)) refl stays)))

  others_stay : (r t : ℕ) → eqb slot r ≡ false → is_in t (list r old) ≡ true → is_in t (list slot old) ≡ false
  others_stay r t other here = by (is_in t (list slot old)) refl
    where
      by : (b : Bool) → is_in t (list slot old) ≡ b → is_in t (list slot old) ≡ false
      by true e = absurd (eqb-false slot r other (same_Some slot r (sym (request_is old sound slot t e) ∙ request_is old sound r t here)))
      by false e = e

  pub left_held : (r : ℕ) → held_by r new ≡ cond (eqb slot r) [] (held_by r old)
  unfolding held_by
  left_held r = ap (map (object_of_ticket new)) (list_is r) ∙ by (eqb slot r) refl
    where
      by : (b : Bool) → eqb slot r ≡ b → map (object_of_ticket new) (cond b [] (list r old)) ≡ cond b [] (map (object_of_ticket old) (list r old))
      by true e = refl
      by false e =
          map_same (object_of_ticket new) (object_of_ticket old) (list r old)
          (λ t here. ap or_zero (object_is_new t ∙ cond-false (is_in t (list slot old)) _ _ (others_stay r t e here)))

-- ---- the first of a slot leaves

pub held_is : (g : Tickets) (slot ticket : ℕ) (rest : List ℕ) → list slot g ≡ ticket ∷ rest → held_by slot g ≡ object_of_ticket g ticket ∷ map (object_of_ticket g) rest
unfolding held_by
held_is g slot ticket rest is = ap (map (object_of_ticket g)) is

pub holders_is : (g : Tickets) (object ticket : ℕ) (rest : List ℕ) → queue object g ≡ ticket ∷ rest → holders object g ≡ slot_of g ticket ∷ map (slot_of g) rest
unfolding holders
holders_is g object ticket rest is = ap (map (slot_of g)) is

pub held_apart : (g : Tickets) (slot : ℕ) → AreApart (held_by slot g) → AreApart (map (object_of_ticket g) (list slot g))
unfolding held_by
held_apart g slot apart = apart

-- a slot's ticket at the object of its first is its first
pub first_at : (g : Tickets) (slot ticket t : ℕ) (rest : List ℕ) → list slot g ≡ ticket ∷ rest → AreApart (held_by slot g) → is_in t (list slot g) ≡ true
    → object_of_ticket g t ≡ object_of_ticket g ticket → t ≡ ticket
first_at g slot ticket t rest is apart here same =
    first_alone (object_of_ticket g) ticket rest t (subst (λ l. AreApart (map (object_of_ticket g) l)) is (held_apart g slot apart)) (sym (ap (is_in t) is) ∙ here) same

module _ (old new : Tickets) (slot ticket : ℕ) (rest : List ℕ) (sound : IsSoundGuard old) (is : list slot old ≡ ticket ∷ rest) (apart : AreApart (held_by slot old))
    (queue_is : (o : ℕ) → queue o new ≡ without ticket (queue o old))
    (list_is : (r : ℕ) → list r new ≡ without ticket (list r old))
    (object_is_new : (t : ℕ) → ticket_object t new ≡ cond (eqb ticket t) None (ticket_object t old))
    (request_is_new : (t : ℕ) → ticket_request t new ≡ cond (eqb ticket t) None (ticket_request t old)) where
  its_place : is_in ticket (list slot old) ≡ true
  its_place = ap (is_in ticket) is ∙ head_in ticket rest

  its_owner : slot_of old ticket ≡ slot
  its_owner = ap or_zero (request_is old sound slot ticket its_place)

  -- at its object, its ticket is the one of its slot
  the_one : (o t : ℕ) → object_of_ticket old ticket ≡ o → is_in t (queue o old) ≡ true → eqb t ticket ≡ eqb (slot_of old t) slot
  the_one o t at here = by (eqb (slot_of old t) slot) refl
    where
      by : (b : Bool) → eqb (slot_of old t) slot ≡ b → eqb t ticket ≡ b
      by true e =
          eq-eqb t ticket
          (first_at old slot ticket t rest is apart (in_list old sound o slot t here ∙ e) (ap or_zero (object_is old sound o t here) ∙ sym at))
      by false e = ne_eqb t ticket (λ same. eqb-false (slot_of old t) slot e (ap (slot_of old) same ∙ its_owner))

  pub stays_new : (t : ℕ) → not (eqb t ticket) ≡ true → eqb ticket t ≡ false
  stays_new t stays = eqb_flip ticket t ∙ not_out (eqb t ticket) (eqb t ticket) refl stays

  slots_left : (o t : ℕ) → is_in t (queue o old) ≡ true → not (eqb t ticket) ≡ true → slot_of new t ≡ slot_of old t
  slots_left o t here stays = ap or_zero (request_is_new t ∙ cond-false (eqb ticket t) _ _ (stays_new t stays))

  objects_left : (t : ℕ) → eqb ticket t ≡ false → object_of_ticket new t ≡ object_of_ticket old t
  objects_left t other = ap or_zero (object_is_new t ∙ cond-false (eqb ticket t) _ _ other)

  elsewhere : (o : ℕ) → (object_of_ticket old ticket ≡ o → ⊥) → (b : Bool) → is_in ticket (queue o old) ≡ b → is_in ticket (queue o old) ≡ false
  elsewhere o other true e = absurd (other (ap or_zero (object_is old sound o ticket e)))
  elsewhere o other false e = e

  pub ended_holders : (o : ℕ) → holders o new ≡ cond (begins_with o (held_by slot old)) (without slot (holders o old)) (holders o old)
  unfolding holders
  ended_holders o =
      ap (map (slot_of new)) (queue_is o) ∙ (by (eqb (object_of_ticket old ticket) o) refl
      ∙ ap (λ l. cond (begins_with o l) (without slot (map (slot_of old) (queue o old))) (map (slot_of old) (queue o old))) (sym (held_is old slot ticket rest is)))
    where
      by : (b : Bool) → eqb (object_of_ticket old ticket) o ≡ b → map (slot_of new) (without ticket (queue o old))
          ≡ cond b (without slot (map (slot_of old) (queue o old))) (map (slot_of old) (queue o old))
      by true e =
          map_filter (slot_of new) (slot_of old) (λ t. not (eqb t ticket)) (λ n. not (eqb n slot)) (queue o old)
          (λ t here. ap not (the_one o t (eqb-true (object_of_ticket old ticket) o e) here)) (slots_left o)
      by false e =
          let out = elsewhere o (eqb-false (object_of_ticket old ticket) o e) (is_in ticket (queue o old)) refl in
          ap (map (slot_of new)) (absent ticket (queue o old) out)
          ∙ map_same (slot_of new) (slot_of old) (queue o old)
          (λ t here. ap or_zero (request_is_new t ∙ cond-false (eqb ticket t) _ _ (ne_eqb ticket t (λ same. true≢false (sym here ∙ (ap (λ n. is_in n (queue o old)) (sym same) ∙ out))))))

  lists_apart : AreApart (ticket ∷ rest)
  lists_apart = subst AreApart is (sound.lists.apart slot)

  not_in_rest : (t : ℕ) → is_in t rest ≡ true → eqb ticket t ≡ false
  not_in_rest t here = ne_eqb ticket t (λ same. true≢false (sym here ∙ (ap (λ n. is_in n rest) (sym same) ∙ lists_apart.0)))

  pub ended_held : (r : ℕ) → held_by r new ≡ cond (eqb slot r) (drop 1 (held_by r old)) (held_by r old)
  unfolding held_by
  ended_held r = ap (map (object_of_ticket new)) (list_is r) ∙ by (eqb slot r) refl
    where
      own : map (object_of_ticket new) (without ticket (list slot old)) ≡ drop 1 (map (object_of_ticket old) (list slot old))
      own =
          ap (λ l. map (object_of_ticket new) (without ticket l)) is ∙ (ap (map (object_of_ticket new)) (next_is rest ticket lists_apart)
          ∙ (map_same (object_of_ticket new) (object_of_ticket old) rest (λ t here. objects_left t (not_in_rest t here))
          ∙ ap (λ l. drop 1 (map (object_of_ticket old) l)) (sym is)))

      outside : (b : Bool) → is_in ticket (list r old) ≡ b → eqb slot r ≡ false → is_in ticket (list r old) ≡ false
      outside true e other = absurd (eqb-false slot r other (same_Some slot r (sym (request_is old sound slot ticket its_place) ∙ request_is old sound r ticket e)))
      outside false e other = e

      by : (b : Bool) → eqb slot r ≡ b → map (object_of_ticket new) (without ticket (list r old))
          ≡ cond b (drop 1 (map (object_of_ticket old) (list r old))) (map (object_of_ticket old) (list r old))
      by true e = subst (λ n. map (object_of_ticket new) (without ticket (list n old)) ≡ drop 1 (map (object_of_ticket old) (list n old))) (eqb-true slot r e) own
      by false e =
          let out = outside (is_in ticket (list r old)) refl e in
          ap (map (object_of_ticket new)) (absent ticket (list r old) out)
          ∙ map_same (object_of_ticket new) (object_of_ticket old) (list r old)
          (λ t here. objects_left t (ne_eqb ticket t (λ same. true≢false (sym here ∙ (ap (λ n. is_in n (list r old)) (sym same) ∙ out)))))

-- a slot that holds nothing
pub nothing_held : (g : Tickets) (slot : ℕ) → None ≡ slice_get (list slot g) 0 → held_by slot g ≡ []
nothing_held g slot none = empty_held g slot (is_empty (list slot g) none)

pub nothing_ends : (g : Tickets) (slot o : ℕ) → None ≡ slice_get (list slot g) 0 → holders o g ≡ cond (begins_with o (held_by slot g)) (without slot (holders o g)) (holders o g)
nothing_ends g slot o none = ap (λ l. cond (begins_with o l) (without slot (holders o g)) (holders o g)) (sym (nothing_held g slot none))

pub nothing_drops : (g : Tickets) (slot r : ℕ) → None ≡ slice_get (list slot g) 0 → held_by r g ≡ cond (eqb slot r) (drop 1 (held_by r g)) (held_by r g)
nothing_drops g slot r none = by (eqb slot r) refl
  where
    by : (b : Bool) → eqb slot r ≡ b → held_by r g ≡ cond b (drop 1 (held_by r g)) (held_by r g)
    by true e = let none_held = ap (λ n. held_by n g) (sym (eqb-true slot r e)) ∙ nothing_held g slot none in none_held ∙ sym (ap (drop 1) none_held)
    by false e = refl

-- ---- whose turn it is

pub no_next : (g : Tickets) (slot object : ℕ) → None ≡ slice_get (list slot g) 0 → false ≡ begins_with object (held_by slot g) && begins_with slot (holders object g)
no_next g slot object none = ap (λ l. begins_with object l && begins_with slot (holders object g)) (sym (nothing_held g slot none))

pub no_first : (g : Tickets) (slot object : ℕ) → None ≡ slice_get (queue object g) 0 → false ≡ begins_with object (held_by slot g) && begins_with slot (holders object g)
no_first g slot object none =
    sym (and_right (begins_with object (held_by slot g)) false refl)
    ∙ ap (λ l. begins_with object (held_by slot g) && begins_with slot l) (sym (empty_holders g object (is_empty (queue object g) none)))

pub turn_is : (g : Tickets) (slot object first next : ℕ) → IsSoundGuard g → AreApart (held_by slot g) → Some next ≡ slice_get (list slot g) 0 → Some first ≡ slice_get (queue object g) 0
    → eqb first next ≡ begins_with object (held_by slot g) && begins_with slot (holders object g)
turn_is g slot object first next sound apart next_first first_first =
    by (eqb (object_of_ticket g next) object) refl (eqb (slot_of g first) slot) refl
    ∙ (ap (λ l. begins_with object l && eqb (slot_of g first) slot) (sym (held_is g slot next mine.rest mine.is))
    ∙ ap (λ l. begins_with object (held_by slot g) && begins_with slot l) (sym (holders_is g object first there.rest there.is)))
  where
    mine : Begins next (list slot g)
    mine = begins next (list slot g) next_first

    there : Begins first (queue object g)
    there = begins first (queue object g) first_first

    in_queue : is_in first (queue object g) ≡ true
    in_queue = ap (is_in first) there.is ∙ head_in first there.rest

    in_mine : is_in next (list slot g) ≡ true
    in_mine = ap (is_in next) mine.is ∙ head_in next mine.rest

    by : (a : Bool) → eqb (object_of_ticket g next) object ≡ a → (b : Bool) → eqb (slot_of g first) slot ≡ b → eqb first next ≡ (a && b)
    by true at true of =
        eq-eqb first next
        (first_at g slot next first mine.rest mine.is apart (in_list g sound object slot first in_queue ∙ of)
        (ap or_zero (object_is g sound object first in_queue) ∙ sym (eqb-true (object_of_ticket g next) object at)))
    by true at false of =
        ne_eqb first next (λ same. eqb-false (slot_of g first) slot of (ap (slot_of g) same ∙ ap or_zero (request_is g sound slot next in_mine)))
    by false at b of =
        ne_eqb first next
        (λ same. eqb-false (object_of_ticket g next) object at (ap (object_of_ticket g) (sym same) ∙ ap or_zero (object_is g sound object first in_queue)))

-- ---- one enters where there is room

-- what a call of `enter` that is Ok does
pub record IsIn (slot object : ℕ) (old new : Tickets) (ticket : ℕ) : Type 0 where
  pub queues : (o : ℕ) → queue o new ≡ cond (eqb object o) (queue o old ++ ticket ∷ []) (queue o old)
  pub lists : (r : ℕ) → list r new ≡ cond (eqb slot r) (list r old ++ ticket ∷ []) (list r old)
  pub objects : (t : ℕ) → ticket_object t new ≡ cond (eqb ticket t) (Some object) (ticket_object t old)
  pub requests : (t : ℕ) → ticket_request t new ≡ cond (eqb ticket t) (Some slot) (ticket_request t old)
  pub fresh : ticket_object ticket old ≡ None

-- some ticket, with what holds of it
pub some_ticket : {E : Type 0} (slot object : ℕ) (old new : Tickets) (r : Result ℕ E) → IsOk r
    → IfOk r (λ ticket. (o : ℕ) → queue o new ≡ cond (eqb object o) (queue o old ++ ticket ∷ []) (queue o old))
    → IfOk r (λ ticket. (s : ℕ) → list s new ≡ cond (eqb slot s) (list s old ++ ticket ∷ []) (list s old))
    → IfOk r (λ ticket. (t : ℕ) → ticket_object t new ≡ cond (eqb ticket t) (Some object) (ticket_object t old))
    → IfOk r (λ ticket. (t : ℕ) → ticket_request t new ≡ cond (eqb ticket t) (Some slot) (ticket_request t old))
    → IfOk r (λ ticket. ticket_object ticket old ≡ None)
    → (ticket : ℕ) × IsIn slot object old new ticket
some_ticket slot object old new (Ok ticket) ok queues lists objects requests fresh =
    (ticket, record { queues = queues; lists = lists; objects = objects; requests = requests; fresh = fresh })
some_ticket slot object old new (Err e) ok queues lists objects requests fresh = absurd (true≢false (sym ok))

pub in_holders : (slot object : ℕ) (old new : Tickets) (ticket : ℕ) → IsSoundGuard old → IsIn slot object old new ticket
    → (o : ℕ) → holders o new ≡ cond (eqb object o) (holders o old ++ slot ∷ []) (holders o old)
in_holders slot object old new ticket sound is = entered_holders old new slot object ticket sound is.queues is.lists is.objects is.requests is.fresh

pub in_held : (slot object : ℕ) (old new : Tickets) (ticket : ℕ) → IsSoundGuard old → IsIn slot object old new ticket
    → (r : ℕ) → held_by r new ≡ cond (eqb slot r) (held_by r old ++ object ∷ []) (held_by r old)
in_held slot object old new ticket sound is = entered_held old new slot object ticket sound is.queues is.lists is.objects is.requests is.fresh

-- a list that begins with the ticket that was found
pub its_rest : (g : Tickets) (slot ticket : ℕ) → Some ticket ≡ slice_get (list slot g) 0 → Begins ticket (list slot g)
its_rest g slot ticket found = begins ticket (list slot g) found

-- Turns that stay while others change.
use Rattle.std.proofs.Common.{◌≡◌, ℕ, Bool, true, false, cond, not, eqb, List, [], ◌∷◌, ◌++◌, drop, refl, sym, ap, ◌∙◌, true≢false}
use Rattle.std.specs.List.{filter, list_all}
use Rattle.std.proofs.lemmas.Bool.{ne_eqb, eqb-true, cond-false}
use Rattle.rbd_guard.specs.Order.{is_in}
use Rattle.rbd_kinds.specs.declared.sharing.Sharing.{Sharing}
use Rattle.rbd_queue.specs.Line.{Member, members_behind, is_past, holds_ticket, slots, none_past_behind, has_turn, new_member, held, passed, entered, next_piece, changed_member, without, Each, IsFairMember, IsFairLine}
use Rattle.rbd_queue.specs.Turns.{begins_with}
use Rattle.rbd_queue.proofs.Fair.{put, put_is, each_true, in_rest}
use Rattle.rbd_queue.proofs.Keeping.{holding, filter_push, left_turns, none_holds}

-- ---- changes that leave each one's objects

same_turn : (ms : List Member) (slot object other : ℕ) (f : Member → Member) → ((m : Member) → (f m).slot ≡ m.slot) → ((m : Member) → (f m).objects ≡ m.objects)
    → has_turn slot object (changed_member other f ms) ≡ has_turn slot object ms
same_turn ms slot object other f same_slot same_objects =
    ap (begins_with slot)
    (holding (holds_ticket object) (put other f) ms
    (each_true (λ m. (holds_ticket object (put other f m) ≡ holds_ticket object m) × ((put other f m).slot ≡ m.slot)) ms
    (λ m. (put_is (holds_ticket object) other f m (ap (is_in object) (same_objects m)), put_is (λ n. n.slot) other f m (same_slot m)))))

pub turn_held : (ms : List Member) (slot object other : ℕ) → has_turn slot object (changed_member other held ms) ≡ has_turn slot object ms
turn_held ms slot object other = same_turn ms slot object other held (λ m. refl) (λ m. refl)

pub turn_passed : (ms : List Member) (slot object other : ℕ) → has_turn slot object (changed_member other passed ms) ≡ has_turn slot object ms
turn_passed ms slot object other = same_turn ms slot object other passed (λ m. refl) (λ m. refl)

pub turn_joined : (ms : List Member) (slot object other : ℕ) (sharing : Sharing) → has_turn slot object (ms ++ new_member other sharing ∷ []) ≡ has_turn slot object ms
turn_joined ms slot object other sharing = ap (λ l. begins_with slot (slots l)) (filter_push (holds_ticket object) ms (new_member other sharing) refl)

-- ---- others leave, and do their pieces

still_first : (slot other : ℕ) (xs : List ℕ) → (other ≡ slot → ⊥) → begins_with slot xs ≡ true → begins_with slot (filter (λ n. not (eqb n other)) xs) ≡ true
still_first slot other [] differ first = first
still_first slot other (x ∷ xs) differ first =
    ap (λ b. begins_with slot (cond (not b) (x ∷ filter (λ n. not (eqb n other)) xs) (filter (λ n. not (eqb n other)) xs)))
    (ne_eqb x other (λ same. differ (sym same ∙ eqb-true x slot first)))
    ∙ first

pub turn_left : (ms : List Member) (slot object other : ℕ) → (other ≡ slot → ⊥) → has_turn slot object ms ≡ true → has_turn slot object (without other ms) ≡ true
turn_left ms slot object other differ turn =
    ap (begins_with slot) (left_turns other (holds_ticket object) ms) ∙ still_first slot other (slots (filter (holds_ticket object) ms)) differ turn

holds_less : (object other : ℕ) (m : Member) → holds_ticket object m ≡ false → holds_ticket object (put other next_piece m) ≡ false
holds_less object other m none = by (eqb m.slot other)
  where
    rest : (b : Bool) → is_in object (drop 1 m.objects) ≡ b → is_in object (drop 1 m.objects) ≡ false
    rest true e = absurd (true≢false (sym (in_rest object m.objects e) ∙ none))
    rest false e = e

    by : (b : Bool) → holds_ticket object (cond b (next_piece m) m) ≡ false
    by true = rest (is_in object (drop 1 m.objects)) refl
    by false = none

-- the one whose turn it is isn't the one that changes
unchanged : (slot other : ℕ) (f : Member → Member) (m : Member) → (other ≡ slot → ⊥) → eqb m.slot slot ≡ true → put other f m ≡ m
unchanged slot other f m differ at = cond-false (eqb m.slot other) (f m) m (ne_eqb m.slot other (λ same. differ (sym same ∙ eqb-true m.slot slot at)))

first_stays : (p : Member → Bool) (slot other : ℕ) (f : Member → Member) (x : Member) (rest ms : List Member) → (other ≡ slot → ⊥) → p x ≡ true
    → begins_with slot (slots (cond (p x) (x ∷ filter p ms) (filter p ms))) ≡ true → begins_with slot (slots (filter p (put other f x ∷ rest))) ≡ true
first_stays p slot other f x rest ms differ here turn =
    ap (λ m. begins_with slot (slots (filter p (m ∷ rest)))) (unchanged slot other f x differ at)
    ∙ (ap (λ b. begins_with slot (slots (cond b (x ∷ filter p rest) (filter p rest)))) here ∙ at)
  where
    at : eqb x.slot slot ≡ true
    at = sym (ap (λ b. begins_with slot (slots (cond b (x ∷ filter p ms) (filter p ms)))) here) ∙ turn

pub turn_next : (ms : List Member) (slot object other : ℕ) → (other ≡ slot → ⊥) → has_turn slot object ms ≡ true → has_turn slot object (changed_member other next_piece ms) ≡ true
turn_next [] slot object other differ turn = turn
turn_next (x ∷ ms) slot object other differ turn = by (holds_ticket object x) refl (λ more. turn_next ms slot object other differ more)
  where
    by : (b : Bool) → holds_ticket object x ≡ b → (has_turn slot object ms ≡ true → has_turn slot object (changed_member other next_piece ms) ≡ true)
        → has_turn slot object (put other next_piece x ∷ changed_member other next_piece ms) ≡ true
    by true e rest = first_stays (holds_ticket object) slot other next_piece x (changed_member other next_piece ms) ms differ e turn
    by false e rest =
        ap (λ b. begins_with slot (slots (cond b (put other next_piece x ∷ filter (holds_ticket object) (changed_member other next_piece ms)) (filter (holds_ticket object) (changed_member other next_piece ms)))))
        (holds_less object other x e)
        ∙ rest (sym (ap (λ b. begins_with slot (slots (cond b (x ∷ filter (holds_ticket object) ms) (filter (holds_ticket object) ms)))) e) ∙ turn)

-- ---- another takes a ticket

enters : (ms : List Member) (slot object other taken : ℕ) → Each IsFairMember ms → none_past_behind other ms ≡ true → (other ≡ slot → ⊥) → has_turn slot object ms ≡ true
    → has_turn slot object (changed_member other (entered taken) ms) ≡ true
enters [] slot object other taken fair last differ turn = turn
enters (x ∷ ms) slot object other taken fair last differ turn =
    by (holds_ticket object x) refl (eqb x.slot other) refl last (λ none more. enters ms slot object other taken fair.1 none differ more)
  where
    later : holds_ticket object x ≡ false → has_turn slot object ms ≡ true
    later e = sym (ap (λ b. begins_with slot (slots (cond b (x ∷ filter (holds_ticket object) ms) (filter (holds_ticket object) ms)))) e) ∙ turn

    by : (b : Bool) → holds_ticket object x ≡ b → (c : Bool) → eqb x.slot other ≡ c → list_all (λ (m : Member). not (is_past m.stage)) (cond c ms (members_behind other ms)) ≡ true
        → (none_past_behind other ms ≡ true → has_turn slot object ms ≡ true → has_turn slot object (changed_member other (entered taken) ms) ≡ true)
        → has_turn slot object (put other (entered taken) x ∷ changed_member other (entered taken) ms) ≡ true
    by true e c f last rest = first_stays (holds_ticket object) slot other (entered taken) x (changed_member other (entered taken) ms) ms differ e turn
    by false e true f last rest =
        absurd (true≢false (sym (later e) ∙ ap (λ l. begins_with slot (slots l)) (none_holds object ms last fair.1)))
    by false e false f last rest =
        ap (λ m. has_turn slot object (m ∷ changed_member other (entered taken) ms)) (cond-false (eqb x.slot other) (entered taken x) x f)
        ∙ (ap (λ b. begins_with slot (slots (cond b (x ∷ filter (holds_ticket object) (changed_member other (entered taken) ms)) (filter (holds_ticket object) (changed_member other (entered taken) ms))))) e
        ∙ rest last (later e))

pub turn_entered : (ms : List Member) (slot object other taken : ℕ) → IsFairLine ms → none_past_behind other ms ≡ true → (other ≡ slot → ⊥) → has_turn slot object ms ≡ true
    → has_turn slot object (changed_member other (entered taken) ms) ≡ true
turn_entered ms slot object other taken fair last differ turn = enters ms slot object other taken fair.each last differ turn

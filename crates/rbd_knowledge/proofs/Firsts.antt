-- Who is first at an object in a line stays so, whatever becomes of another member.
use Rattle.std.proofs.Common.{◌≡◌, ◌≢◌, ℕ, cond, not, eqb, Bool, true, false, List, [], ◌∷◌, ◌++◌, drop, refl, sym, ap, ◌∙◌, subst}
use Rattle.std.specs.List.{filter, list_all}
use Rattle.std.proofs.lemmas.Bool.{true≢false, and_parts, eqb-true, or_parts}
use Rattle.rbd_kinds.specs.Sharing.{is_alone}
use Rattle.rbd_guard.specs.Order.{is_in}
use Rattle.rbd_queue.specs.Line.{Member, members_behind, changed_member, has_turn, holds_ticket, is_past, none_past_behind, slots, without, Each, IsFairMember}
use Rattle.rbd_queue.specs.Turns.{begins_with}

-- a list begins with one number
pub one_first : (xs : List ℕ) (a b : ℕ) → begins_with a xs ≡ true → begins_with b xs ≡ true → a ≡ b
one_first [] a b one other = absurd (true≢false (sym one))
one_first (x ∷ xs) a b one other = sym (eqb-true x a one) ∙ eqb-true x b other

-- who isn't past its look under the lock holds nothing, so that none of those has a turn
none_first : (n object : ℕ) (ms : List Member) → list_all (λ m. not (is_past m.stage)) ms ≡ true → Each IsFairMember ms → has_turn n object ms ≡ true → ⊥
none_first n object [] none fair is = true≢false (sym is)
none_first n object (m ∷ ms) none fair is = by (holds_ticket object m) refl is (none_first n object ms (and_parts (not (is_past m.stage)) (list_all (λ m. not (is_past m.stage)) ms) none).1 fair.1)
  where
    by : (b : Bool) → holds_ticket object m ≡ b → begins_with n (slots (cond b (m ∷ filter (holds_ticket object) ms) (filter (holds_ticket object) ms))) ≡ true → (has_turn n object ms ≡ true → ⊥) → ⊥
    by true held is rest =
        let past = (and_parts (is_past m.stage) (not (is_alone m.sharing)) (fair.0.holds_by_right object held)).0 in
        true≢false (sym (and_parts (not (is_past m.stage)) (list_all (λ m. not (is_past m.stage)) ms) none).0 ∙ ap not past)
    by false held is rest = rest is

module _ (n object slot : ℕ) (f : Member → Member) where
  -- the line from a member on, with the one at the slot changed
  abbrev changed_on : Bool → Member → List Member → List ℕ
  changed_on here m ms = slots (filter (holds_ticket object) (cond here (f m) m ∷ changed_member slot f ms))

  -- another one, where the changed one holds no more than before
  pub others_first : n ≢ slot → ((m : Member) → holds_ticket object m ≡ false → holds_ticket object (f m) ≡ false) → (ms : List Member)
      → has_turn n object ms ≡ true → has_turn n object (changed_member slot f ms) ≡ true
  others_first differ fewer [] is = is
  others_first differ fewer (m ∷ ms) is = by (eqb m.slot slot) (holds_ticket object m) refl refl is (others_first differ fewer ms)
    where
      by : (here held : Bool) → eqb m.slot slot ≡ here → holds_ticket object m ≡ held → begins_with n (slots (cond held (m ∷ filter (holds_ticket object) ms) (filter (holds_ticket object) ms))) ≡ true
          → (has_turn n object ms ≡ true → has_turn n object (changed_member slot f ms) ≡ true) → begins_with n (changed_on here m ms) ≡ true
      by true true at holding is rest = absurd (differ (sym (eqb-true m.slot n is) ∙ eqb-true m.slot slot at))
      by true false at out is rest =
          subst (λ b. begins_with n (slots (cond b (f m ∷ filter (holds_ticket object) (changed_member slot f ms)) (filter (holds_ticket object) (changed_member slot f ms)))) ≡ true) (sym (fewer m out)) (rest is)
      by false true at holding is rest =
          subst (λ b. begins_with n (slots (cond b (m ∷ filter (holds_ticket object) (changed_member slot f ms)) (filter (holds_ticket object) (changed_member slot f ms)))) ≡ true) (sym holding) is
      by false false at out is rest =
          subst (λ b. begins_with n (slots (cond b (m ∷ filter (holds_ticket object) (changed_member slot f ms)) (filter (holds_ticket object) (changed_member slot f ms)))) ≡ true) (sym out) (rest is)

  -- and where nobody behind the changed one is past its look under the lock, whatever that one
  -- holds then
  pub before_first : n ≢ slot → (ms : List Member) → none_past_behind slot ms ≡ true → Each IsFairMember ms → has_turn n object ms ≡ true → has_turn n object (changed_member slot f ms) ≡ true
  before_first differ [] none fair is = is
  before_first differ (m ∷ ms) none fair is = by (eqb m.slot slot) (holds_ticket object m) refl refl none is (λ later. before_first differ ms later fair.1)
    where
      by : (here held : Bool) → eqb m.slot slot ≡ here → holds_ticket object m ≡ held → list_all (λ m. not (is_past m.stage)) (cond here ms (members_behind slot ms)) ≡ true
          → begins_with n (slots (cond held (m ∷ filter (holds_ticket object) ms) (filter (holds_ticket object) ms))) ≡ true
          → (none_past_behind slot ms ≡ true → has_turn n object ms ≡ true → has_turn n object (changed_member slot f ms) ≡ true) → begins_with n (changed_on here m ms) ≡ true
      by true true at holding none is rest = absurd (differ (sym (eqb-true m.slot n is) ∙ eqb-true m.slot slot at))
      by true false at out none is rest = absurd (none_first n object ms none fair.1 is)
      by false true at holding none is rest =
          subst (λ b. begins_with n (slots (cond b (m ∷ filter (holds_ticket object) (changed_member slot f ms)) (filter (holds_ticket object) (changed_member slot f ms)))) ≡ true) (sym holding) is
      by false false at out none is rest =
          subst (λ b. begins_with n (slots (cond b (m ∷ filter (holds_ticket object) (changed_member slot f ms)) (filter (holds_ticket object) (changed_member slot f ms)))) ≡ true) (sym out) (rest none is)

-- the changed one itself, where it holds no less than before
pub own_first : (slot object : ℕ) (f : Member → Member) → ((m : Member) → (f m).slot ≡ m.slot) → ((m : Member) → holds_ticket object m ≡ true → holds_ticket object (f m) ≡ true) → (ms : List Member)
    → has_turn slot object ms ≡ true → has_turn slot object (changed_member slot f ms) ≡ true
own_first slot object f stays more [] is = is
own_first slot object f stays more (m ∷ ms) is = by (eqb m.slot slot) (holds_ticket object m) refl refl is (own_first slot object f stays more ms)
  where
    -- it is the first where it holds the object
    here_first : eqb m.slot slot ≡ true → (b : Bool) → (b ≡ false → has_turn slot object (changed_member slot f ms) ≡ true)
        → begins_with slot (slots (cond b (f m ∷ filter (holds_ticket object) (changed_member slot f ms)) (filter (holds_ticket object) (changed_member slot f ms)))) ≡ true
    here_first at true rest = ap (λ s. eqb s slot) (stays m) ∙ at
    here_first at false rest = rest refl

    by : (here held : Bool) → eqb m.slot slot ≡ here → holds_ticket object m ≡ held → begins_with slot (slots (cond held (m ∷ filter (holds_ticket object) ms) (filter (holds_ticket object) ms))) ≡ true
        → (has_turn slot object ms ≡ true → has_turn slot object (changed_member slot f ms) ≡ true)
        → begins_with slot (slots (filter (holds_ticket object) (cond here (f m) m ∷ changed_member slot f ms))) ≡ true
    by true true at holding is rest = here_first at (holds_ticket object (f m)) (λ out. absurd (true≢false (sym (more m holding) ∙ out)))
    by true false at out is rest = here_first at (holds_ticket object (f m)) (λ none. rest is)
    by false true at holding is rest = absurd (true≢false (sym is ∙ at))
    by false false at out is rest =
        subst (λ b. begins_with slot (slots (cond b (m ∷ filter (holds_ticket object) (changed_member slot f ms)) (filter (holds_ticket object) (changed_member slot f ms)))) ≡ true) (sym out) (rest is)

-- one goes
pub left_first : (n object slot : ℕ) → n ≢ slot → (ms : List Member) → has_turn n object ms ≡ true → has_turn n object (without slot ms) ≡ true
left_first n object slot differ [] is = is
left_first n object slot differ (m ∷ ms) is = by (eqb m.slot slot) (holds_ticket object m) refl refl is (left_first n object slot differ ms)
  where
    by : (here held : Bool) → eqb m.slot slot ≡ here → holds_ticket object m ≡ held → begins_with n (slots (cond held (m ∷ filter (holds_ticket object) ms) (filter (holds_ticket object) ms))) ≡ true
        → (has_turn n object ms ≡ true → has_turn n object (without slot ms) ≡ true)
        → begins_with n (slots (filter (holds_ticket object) (cond (not here) (m ∷ without slot ms) (without slot ms)))) ≡ true
    by true true at holding is rest = absurd (differ (sym (eqb-true m.slot n is) ∙ eqb-true m.slot slot at))
    by true false at out is rest = rest is
    by false true at holding is rest =
        subst (λ b. begins_with n (slots (cond b (m ∷ filter (holds_ticket object) (without slot ms)) (filter (holds_ticket object) (without slot ms)))) ≡ true) (sym holding) is
    by false false at out is rest =
        subst (λ b. begins_with n (slots (cond b (m ∷ filter (holds_ticket object) (without slot ms)) (filter (holds_ticket object) (without slot ms)))) ≡ true) (sym out) (rest is)

-- one comes, behind all others
pub joined_first : (n object : ℕ) (new : Member) (ms : List Member) → has_turn n object ms ≡ true → has_turn n object (ms ++ new ∷ []) ≡ true
joined_first n object new [] is = absurd (true≢false (sym is))
joined_first n object new (m ∷ ms) is = by (holds_ticket object m) refl is (joined_first n object new ms)
  where
    by : (held : Bool) → holds_ticket object m ≡ held → begins_with n (slots (cond held (m ∷ filter (holds_ticket object) ms) (filter (holds_ticket object) ms))) ≡ true
        → (has_turn n object ms ≡ true → has_turn n object (ms ++ new ∷ []) ≡ true)
        → begins_with n (slots (cond held (m ∷ filter (holds_ticket object) (ms ++ new ∷ [])) (filter (holds_ticket object) (ms ++ new ∷ [])))) ≡ true
    by true holding is rest = is
    by false out is rest = rest is

-- ---- what is held

pub no_more_first : (object : ℕ) (objects : List ℕ) → is_in object objects ≡ false → is_in object (drop 1 objects) ≡ false
no_more_first object [] out = refl
no_more_first object (x ∷ objects) out = (or_parts (eqb x object) (is_in object objects) out).1

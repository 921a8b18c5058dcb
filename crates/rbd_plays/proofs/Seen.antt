-- A client that is counted is told by what is seen of it: its lowest free slot by its slots, and
-- the images that it was asked for by the states of all images.
use Rattle.std.proofs.Common.{◌≡◌, ◌<◌, ◌≤◌, ℕ, leb, Bool, true, false, List, length, Option, Some, None, is_some, refl, sym, ap, ◌∙◌, subst, le_antisymm}
use Rattle.std.proofs.lemmas.Bool.{leb-false, leb-true, true≢false}
use Rattle.std.proofs.lemmas.List.{ext_get_or}
use Rattle.std.proofs.lemmas.Option.{none-some}
use Rattle.rbd_client.specs.Client.{ClientView, blank_slot, slot_state}
use Rattle.rbd_client.specs.Feeding.{AreStatesAlike, IsClientAlike}
use Rattle.rbd_client.specs.declared.slot_state.SlotState.{SlotState}
use Rattle.rbd_lock.proofs.OneOrder.{one_in_order}
use Rattle.rbd_lock.specs.declared.lock_state.LockState.{LockState}
use Rattle.rbd_machine.specs.Plan.{Standing}
use Rattle.rbd_slots.specs.Lines.{lines_of}
use Rattle.rbd_slots.specs.Session.{IsAlikeIn, IsLowest, held_in}
use Rattle.rbd_slots.specs.declared.running.Occupant.{Occupant}
use Rattle.rbd_slots.specs.declared.running.Occupant.TheVariants as occupant
use Rattle.rbd_schedule.specs.Slots.{IsCounted}

-- ---- the states of slots

same_states : (old new : List SlotState) → length old ≡ 65 → length new ≡ 65 → ((slot : ℕ) → slot_state slot new ≡ slot_state slot old) → new ≡ old
same_states old new long also same = ext_get_or blank_slot new old (also ∙ sym long) (λ slot below. same slot)

module _ {R : Type 0} (stands : R → Standing) where
  -- ---- slots

  -- a slot that is free now was free
  free_from : (o n : Option (Occupant R)) → IsAlikeIn stands o n → n ≡ None → o ≡ None
  free_from (Some (occupant.Running p)) (Some (occupant.Running q)) same at = absurd (none-some (occupant.Running q) (sym at))
  free_from (Some (occupant.Running p)) (Some (occupant.Refused line x)) same at = sym same ∙ at
  free_from (Some (occupant.Running p)) None same at = sym same ∙ at
  free_from (Some (occupant.Refused line x)) n same at = sym same ∙ at
  free_from None n same at = refl

  -- and one that was free is
  free_then : (o n : Option (Occupant R)) → IsAlikeIn stands o n → o ≡ None → n ≡ None
  free_then o n same at = subst (λ x. IsAlikeIn stands x n) at same

  none_below : (m n : ℕ) (xs ys : List (Option (Occupant R))) → IsLowest m xs → IsLowest n ys → (held_in n ys ≡ None → held_in n xs ≡ None) → n < m → ⊥
  none_below m n xs ys one other free below = true≢false (sym (one.below n other.some below) ∙ ap is_some (free other.free))

  at_most : (m n : ℕ) → (n < m → ⊥) → m ≤ n
  at_most m n never = by (leb m n) refl
    where
      by : (b : Bool) → leb m n ≡ b → m ≤ n
      by true is = leb-true m n is
      by false is = absurd (never (leb-false m n is))

  one_lowest : (m n : ℕ) (xs ys : List (Option (Occupant R))) → IsLowest m xs → IsLowest n ys → ((slot : ℕ) → IsAlikeIn stands (held_in slot xs) (held_in slot ys)) → n ≡ m
  one_lowest m n xs ys one other alike =
      le_antisymm
      (at_most n m (none_below n m ys xs other one (free_then (held_in m xs) (held_in m ys) (alike m))))
      (at_most m n (none_below m n xs ys one other (free_from (held_in n xs) (held_in n ys) (alike n))))

  -- ---- a client

  -- it looks like the other
  pub record LooksLike (old new : ClientView R) : Type 0 where
    pub instance : new.session.instance ≡ old.session.instance
    pub home : new.session.home ≡ old.session.home
    pub held : (slot : ℕ) → IsAlikeIn stands (held_in slot old.session.slots) (held_in slot new.session.slots)
    pub lines : lines_of new.session.lines ≡ lines_of old.session.lines
    pub locks : AreStatesAlike old.locks new.locks
    pub states : (slot : ℕ) → slot_state slot new.slots ≡ slot_state slot old.slots
    pub release : new.release ≡ old.release
    pub heard : new.heard ≡ old.heard

  pub counted_and_alike : (old new : ClientView R) → IsCounted old → IsCounted new → LooksLike old new → IsClientAlike stands old new
  counted_and_alike old new counted also looks = record {
    session = record {
      instance = looks.instance;
      home = looks.home;
      lowest = one_lowest old.session.lowest new.session.lowest old.session.slots new.session.slots counted.lowest also.lowest looks.held;
      slots = looks.held;
      lines = looks.lines;
    };
    locks = looks.locks;
    asked =
        one_in_order new.locks.asked old.locks.asked also.asked counted.asked
        (λ s image. ap (λ (state : LockState). state.asked) (looks.locks s image));
    slots = same_states old.slots new.slots counted.states also.states looks.states;
    release = looks.release;
    heard = looks.heard;
  }

-- What holds of a client at first, and is kept by the calls that feed nothing.
use Rattle.std.proofs.Common.{◌≡◌, ◌≢◌, ◌⊎◌, inl, inr, ℕ, zero, suc, Bool, true, false, cond, [], length, replicate, Option, Some, None, refl, sym, ap, ◌∙◌, subst}
use Rattle.std.proofs.lemmas.Bool.{cases_eq}
use Rattle.std.proofs.lemmas.List.{length-replicate}
use Rattle.std.proofs.lemmas.Option.{none-some}
use Rattle.rbd_client.specs.declared.slot_state.SlotState.{SlotState}
use Rattle.rbd_client.specs.declared.slot_state.Way.TheVariants as way
use Rattle.rbd_client.specs.Client.{ClientView, blank_slot, slot_state}
use Rattle.rbd_client.specs.Sound.{IsOwned, IsSoundClient, IsTelling, IsWellOnWay}
use Rattle.rbd_client.proofs.Kept.{waits_kept, way_kept}
use Rattle.rbd_kinds.specs.declared.id.SiteId.{SiteId}
use Rattle.rbd_kinds.specs.declared.layout.Extent.{Extent}
use Rattle.rbd_kinds.specs.declared.notice.Notice.{Notice}
use Rattle.rbd_queue.specs.Line.{member_of}
use Rattle.rbd_lock.specs.declared.lock_state.LockState.{LockState}
use Rattle.rbd_lock.specs.Locks.{LocksView, IsSoundLocks, heard, lock_state_at}
use Rattle.rbd_kinds.specs.Images.{is_at}
use Rattle.rbd_lock.specs.States.{told_state}
use Rattle.rbd_lock.proofs.Lasting.{told_owned}
use Rattle.rbd_machine.specs.Plan.{Standing}
use Rattle.rbd_machine.specs.declared.seat.Seat.{Seat}
use Rattle.rbd_slots.specs.Lines.{LinesView, lines_of}
use Rattle.rbd_slots.specs.declared.running.Occupant.{Occupant}
use Rattle.rbd_slots.specs.Session.{SessionView, IsNewcomer, IsSoundSession, going_in, held_in, look_under_lock_in}

all_blank : (n slot : ℕ) → slot_state slot (replicate n blank_slot) ≡ blank_slot
all_blank zero zero = refl
all_blank zero (suc slot) = refl
all_blank (suc n) zero = refl
all_blank (suc n) (suc slot) = all_blank n slot

module _ {R : Type 0} (stands : R → Standing) where
  pub new_sound : (c : ClientView R) → IsSoundSession stands c.session → IsSoundLocks c.locks → ((site : SiteId) (image : ℕ) → lines_of c.session.lines site image ≡ [])
      → c.slots ≡ replicate 65 blank_slot → c.release ≡ None → IsSoundClient stands c
  new_sound c session counted lines slots release = record {
    session = session;
    locks = counted;
    slots = ap length slots ∙ length-replicate 65 blank_slot;
    free = λ slot none. ap (slot_state slot) slots ∙ all_blank 65 slot;
    ways = λ slot. subst (λ (s : SlotState). IsWellOnWay stands slot s.way c.session c.locks) (sym (ap (slot_state slot) slots ∙ all_blank 65 slot)) tt;
    telling = subst IsTelling (sym release) tt;
  }

  -- a slot is taken, or freed, and nothing else changes
  pub slot_set_sound : (slot : ℕ) (x : SlotState) (old new : ClientView R) → IsSoundClient stands old → IsSoundSession stands new.session
      → ((k : ℕ) → k ≢ slot → held_in k new.session.slots ≡ held_in k old.session.slots) → new.session.lines ≡ old.session.lines → new.locks ≡ old.locks → new.release ≡ old.release
      → length new.slots ≡ 65 → slot_state slot new.slots ≡ x → ((k : ℕ) → k ≢ slot → slot_state k new.slots ≡ slot_state k old.slots) → x.way ≡ way.Unbegun → (held_in slot new.session.slots ≡ None → x ≡ blank_slot)
      → IsSoundClient stands new
  slot_set_sound slot x old new sound session held lines locks release slots here there unbegun free = record {
    session = session;
    locks = subst IsSoundLocks (sym locks) sound.locks;
    slots = slots;
    free = free_at;
    ways = way_at;
    telling = subst IsTelling (sym release) sound.telling;
  }
    where
      free_at : (k : ℕ) → held_in k new.session.slots ≡ None → slot_state k new.slots ≡ blank_slot
      free_at k none = go (cases_eq k slot)
        where
          go : (k ≡ slot) ⊎ (k ≢ slot) → slot_state k new.slots ≡ blank_slot
          go (inl same) = ap (λ n. slot_state n new.slots) same ∙ here ∙ free (sym (ap (λ n. held_in n new.session.slots) same) ∙ none)
          go (inr differ) = there k differ ∙ sound.free k (sym (held k differ) ∙ none)

      way_at : (k : ℕ) → IsWellOnWay stands k (slot_state k new.slots).way new.session new.locks
      way_at k = go (cases_eq k slot)
        where
          go : (k ≡ slot) ⊎ (k ≢ slot) → IsWellOnWay stands k (slot_state k new.slots).way new.session new.locks
          go (inl same) = subst (λ w. IsWellOnWay stands k w new.session new.locks) (sym (ap (λ n. (slot_state n new.slots).way) same ∙ ap (λ (s : SlotState). s.way) here ∙ unbegun)) tt
          go (inr differ) =
              subst (λ (s : SlotState). IsWellOnWay stands k s.way new.session new.locks) (sym (there k differ))
              (way_kept stands k (slot_state k old.slots).way old.session new.session old.locks new.locks
              (waits_kept stands k slot differ old.session new.session (held k differ) (λ other apart site image. ap (λ (ls : LinesView). member_of other (lines_of ls site image)) lines)
              (λ p at.
              ap (λ ls. look_under_lock_in stands k ls (going_in k (held_in k new.session.slots) ls)) lines
              ∙ ap (λ h. look_under_lock_in stands k old.session.lines (going_in k h old.session.lines)) (held k differ) ∙ at))
              (λ p is. subst (IsOwned p.site p.image) (sym locks))
              (sound.ways k))

  -- what is counted of locks changes, and no lock is lost by it
  pub relocked_sound : (old new : ClientView R) → IsSoundClient stands old → IsSoundLocks new.locks → new.session ≡ old.session → new.slots ≡ old.slots → new.release ≡ old.release
      → ((site : SiteId) (image : ℕ) → IsOwned site image old.locks → IsOwned site image new.locks) → IsSoundClient stands new
  relocked_sound old new sound counted same slots release kept = record {
    session = subst (IsSoundSession stands) (sym same) sound.session;
    locks = counted;
    slots = ap length slots ∙ sound.slots;
    free = λ slot none. ap (slot_state slot) slots ∙ sound.free slot (ap (λ (s : SessionView R). held_in slot s.slots) (sym same) ∙ none);
    ways = λ slot. subst (λ xs. IsWellOnWay stands slot (slot_state slot xs).way new.session new.locks) (sym slots)
        (subst (λ s. IsWellOnWay stands slot (slot_state slot old.slots).way s new.locks) (sym same)
        (way_kept stands slot (slot_state slot old.slots).way old.session old.session old.locks new.locks (λ site image w. w) (λ p is. kept p.site p.image) (sound.ways slot)));
    telling = subst IsTelling (sym release) sound.telling;
  }

  pub heard_owned : (n : Notice) (old new : LocksView) → ((site : SiteId) (image : ℕ) → lock_state_at site image new ≡ heard n site image (lock_state_at site image old))
      → (site : SiteId) (image : ℕ) → IsOwned site image old → IsOwned site image new
  heard_owned n old new is site image owned = ap (λ (s : LockState). s.owned) (is site image) ∙ by (is_at n.site n.image site image)
    where
      by : (b : Bool) → (cond b (told_state n.kind (lock_state_at site image old)) (lock_state_at site image old)).owned ≡ true
      by true = told_owned n.kind (lock_state_at site image old) ∙ owned
      by false = owned

  -- a slot that a newcomer took is held
  pub newcomer_held : {W : Type 0} (stands_for : Seat → W → Standing → Type 0) (extent_for : W → Option Extent) (seat : Seat) (line : ℕ) (work : W) (o : Option (Occupant R))
      → IsNewcomer stands stands_for extent_for seat line work o → o ≡ None → ⊥
  newcomer_held stands_for extent_for seat line work None new is = elim new [ ]
  newcomer_held stands_for extent_for seat line work (Some x) new is = none-some x (sym is)

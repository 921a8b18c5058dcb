-- What holds of each client is kept, whatever one slot does.
use Rattle.std.proofs.Common.{◌≡◌, ◌≢◌, ◌⊎◌, inl, inr, ℕ, true, length, Option, Some, None, refl, sym, ap, ◌∙◌, subst}
use Rattle.std.proofs.lemmas.Bool.{cases_eq}
use Rattle.rbd_client.specs.declared.slot_state.SlotState.{SlotState}
use Rattle.rbd_client.specs.declared.slot_state.Way.{Way}
use Rattle.rbd_client.specs.declared.slot_state.Way.TheVariants as way
use Rattle.rbd_client.specs.Actor.{any_taken}
use Rattle.rbd_client.specs.Client.{ClientView, blank_slot, slot_state}
use Rattle.rbd_client.specs.Feeding.{comings_of, CountsAll, IsAtRest}
use Rattle.rbd_client.specs.Sound.{IsOwned, IsSoundClient, IsTelling, IsWellOnWay, WaitsForLook}
use Rattle.rbd_client.proofs.Owning.{keeps_owned, taken_at, taken_lasts}
use Rattle.rbd_commands.specs.declared.quiescing.Quiescing.{Quiescing}
use Rattle.rbd_kinds.specs.declared.id.SiteId.{SiteId}
use Rattle.rbd_kinds.specs.declared.machine.Fed.{Fed}
use Rattle.rbd_kinds.specs.declared.operation.Op.{Op}
use Rattle.rbd_kinds.specs.declared.image_at.ImageAt.{ImageAt}
use Rattle.rbd_lock.specs.Locks.{LocksView, IsSoundLocks}
use Rattle.rbd_machine.specs.Plan.{Standing}
use Rattle.rbd_slots.specs.Lines.{lines_of}
use Rattle.rbd_slots.specs.OnTrack.{LeavesOthers}
use Rattle.rbd_slots.specs.Session.{SessionView, IsSoundSession, held_in, look_under_lock_at, running_in}

module _ {R : Type 0} (stands : R → Standing) where
  -- the other slots stay as they were
  pub record LeavesSlots (slot : ℕ) (old new : ClientView R) : Type 0 where
    pub held : (k : ℕ) → k ≢ slot → held_in k new.session.slots ≡ held_in k old.session.slots
    pub states : (k : ℕ) → k ≢ slot → slot_state k new.slots ≡ slot_state k old.slots
    pub lines : LeavesOthers slot (lines_of old.session.lines) (lines_of new.session.lines)

  pub waits_kept : (k slot : ℕ) → k ≢ slot → (old new : SessionView R) → held_in k new.slots ≡ held_in k old.slots → LeavesOthers slot (lines_of old.lines) (lines_of new.lines)
      → ((p : ImageAt) → look_under_lock_at stands k old ≡ Some p → look_under_lock_at stands k new ≡ Some p)
      → (site : SiteId) (image : ℕ) → WaitsForLook stands k site image old → WaitsForLook stands k site image new
  waits_kept k slot differ old new held lines stays site image w = record {
    request = w.request;
    runs = ap running_in held ∙ w.runs;
    place = w.place;
    wants = w.wants;
    member = w.member;
    found = lines k differ site image ∙ w.found;
    waits = w.waits;
    at_look = stays (record { site = site; image = image }) w.at_look;
  }

  -- a way is kept where its request waits still, and the lock that it has taken counts as owned
  pub way_kept : (k : ℕ) (w : Way) (s t : SessionView R) (before after : LocksView)
      → ((site : SiteId) (image : ℕ) → WaitsForLook stands k site image s → WaitsForLook stands k site image t)
      → ((p : ImageAt) → w ≡ way.Taken p → IsOwned p.site p.image before → IsOwned p.site p.image after)
      → IsWellOnWay stands k w s before → IsWellOnWay stands k w t after
  way_kept k way.Unbegun s t before after waits owned well = tt
  way_kept k (way.On a) s t before after waits owned well = waits a.site a.image well
  way_kept k (way.Taken p) s t before after waits owned well = (waits p.site p.image well.0, owned p refl well.1)

  -- What one slot did: its operation was answered.
  pub sound_behind : (slot : ℕ) (site : SiteId) (o : Op) (f : Fed) (q : Quiescing) (look : Option ImageAt) (old new : ClientView R)
      → IsSoundClient stands old → IsSoundSession stands new.session → IsSoundLocks new.locks → LeavesSlots slot old new → length new.slots ≡ 65 → IsTelling new.release
      → CountsAll (comings_of q look site o f) old.locks new.locks → IsAtRest site o old
      → (held_in slot new.session.slots ≡ None → slot_state slot new.slots ≡ blank_slot)
      → IsWellOnWay stands slot (slot_state slot new.slots).way new.session new.locks
      → ((k : ℕ) → k ≢ slot → (p : ImageAt) → look_under_lock_at stands k old.session ≡ Some p → look_under_lock_at stands k new.session ≡ Some p)
      → IsSoundClient stands new
  sound_behind slot site o f q look old new sound session locks leaves slots telling counts rest free way_there looks = record {
    session = session;
    locks = locks;
    slots = slots;
    free = free_at;
    ways = way_at;
    telling = telling;
  }
    where
      kept : (there : SiteId) (image : ℕ) → any_taken there image old.slots ≡ true → IsOwned there image old.locks → IsOwned there image new.locks
      kept there image taken owned = keeps_owned q look site o f old.locks new.locks counts there image (taken_lasts old site o f there image rest taken) owned

      free_at : (k : ℕ) → held_in k new.session.slots ≡ None → slot_state k new.slots ≡ blank_slot
      free_at k none = go (cases_eq k slot)
        where
          go : (k ≡ slot) ⊎ (k ≢ slot) → slot_state k new.slots ≡ blank_slot
          go (inl same) = ap (λ n. slot_state n new.slots) same ∙ free (sym (ap (λ n. held_in n new.session.slots) same) ∙ none)
          go (inr differ) = leaves.states k differ ∙ sound.free k (sym (leaves.held k differ) ∙ none)

      way_at : (k : ℕ) → IsWellOnWay stands k (slot_state k new.slots).way new.session new.locks
      way_at k = go (cases_eq k slot)
        where
          go : (k ≡ slot) ⊎ (k ≢ slot) → IsWellOnWay stands k (slot_state k new.slots).way new.session new.locks
          go (inl same) = subst (λ n. IsWellOnWay stands n (slot_state n new.slots).way new.session new.locks) (sym same) way_there
          go (inr differ) =
              subst (λ (s : SlotState). IsWellOnWay stands k s.way new.session new.locks) (sym (leaves.states k differ))
              (way_kept k (slot_state k old.slots).way old.session new.session old.locks new.locks
              (waits_kept k slot differ old.session new.session (leaves.held k differ) leaves.lines (looks k differ))
              (λ p is. kept p.site p.image (taken_at k old.slots p is))
              (sound.ways k))

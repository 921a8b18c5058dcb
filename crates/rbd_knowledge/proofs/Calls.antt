-- The other calls of a client leave what it knows and counts true.
use Rattle.std.proofs.Common.{◌≡◌, ◌≢◌, ◌⊎◌, inl, inr, ℕ, [], ◌∷◌, sym, ap, ◌∙◌, subst, true≢false, None}
use Rattle.std.proofs.lemmas.Bool.{cases_eq}
use Rattle.rbd_client.specs.declared.slot_state.SlotState.{SlotState}
use Rattle.rbd_client.specs.declared.slot_state.Way.{Way}
use Rattle.rbd_client.specs.declared.slot_state.Way.TheVariants as way
use Rattle.rbd_client.specs.Client.{ClientView, newcomer, slot_state}
use Rattle.rbd_client.specs.Feeding.{AreStatesAlike}
use Rattle.rbd_client.specs.Sound.{IsSoundClient}
use Rattle.rbd_commands.specs.declared.quiescing.Quiescing.{Quiescing}
use Rattle.rbd_commands.specs.declared.quiescing.Quiescing.TheVariants as quiescing
use Rattle.rbd_knowledge.specs.Truth.{IsTrueOf, IsWayTrue}
use Rattle.rbd_kinds.specs.declared.id.Instance.{Instance}
use Rattle.rbd_kinds.specs.declared.id.SiteId.{SiteId}
use Rattle.rbd_kinds.specs.declared.notice.Notice.{Notice}
use Rattle.rbd_lock.specs.declared.lock_state.LockState.{LockState}
use Rattle.rbd_lock.specs.Comings.{ByNotice}
use Rattle.rbd_lock.specs.Locks.{heard, lock_state_at}
use Rattle.rbd_lock.specs.States.{blank_state as unknown}
use Rattle.rbd_lock.proofs.Lasting.{owned_is}
use Rattle.rbd_machine.specs.Knowledge.{Knowledge, nothing_known}
use Rattle.rbd_machine.specs.Plan.{Standing}
use Rattle.rbd_interference.proofs.Nothing.{nothing_is_beside, nothing_is_true}
use Rattle.rbd_slots.specs.Session.{held_in}
use Rattle.rbd_site.specs.Records.{Records}

no_way : (site : SiteId) (r : Records) (me : Instance) (w : Way) → w ≡ way.Unbegun → IsWayTrue site r me w
no_way site r me w is = subst (IsWayTrue site r me) (sym is) tt

module _ {R : Type 0} (site : SiteId) (r : Records) (me : Instance) where
  -- a client without requests, which counts no lock
  pub new_client_is_true : (stands : R → Standing) (c : ClientView R) → IsSoundClient stands c → ((slot : ℕ) → held_in slot c.session.slots ≡ None)
      → ((image : ℕ) → lock_state_at site image c.locks ≡ unknown) → IsTrueOf site r me (λ slot. nothing_known) c
  new_client_is_true stands c sound none locks = record {
    requests = λ slot. nothing_is_true site r me;
    beside = λ slot other differ. nothing_is_beside site r me me nothing_known;
    counted = λ slot image known. absurd (true≢false (sym known));
    ways = λ slot. no_way site r me (slot_state slot c.slots).way (ap (λ (s : SlotState). s.way) (sound.free slot (none slot)));
    locks = λ image owned. absurd (true≢false (sym owned ∙ ap (λ (s : LockState). s.owned) (locks image)));
  }

  module _ (knows : ℕ → Knowledge) (c d : ClientView R) (t : IsTrueOf site r me knows c) where
    -- who counts the same locks, and begins no way
    counts_the_same : ((slot : ℕ) → IsWayTrue site r me (slot_state slot d.slots).way) → ((image : ℕ) → (lock_state_at site image d.locks).owned ≡ (lock_state_at site image c.locks).owned) → IsTrueOf site r me knows d
    counts_the_same ways owned = record {
      requests = t.requests;
      beside = t.beside;
      counted = λ slot image known. owned image ∙ t.counted slot image known;
      ways = ways;
      locks = λ image is. t.locks image (sym (owned image) ∙ is);
    }

    pub submitted_is_true : (slot : ℕ) (q : Quiescing) → slot_state slot d.slots ≡ newcomer q → ((other : ℕ) → other ≢ slot → slot_state other d.slots ≡ slot_state other c.slots) → d.locks ≡ c.locks
        → IsTrueOf site r me knows d
    submitted_is_true slot q new others locks = counts_the_same (λ x. by x (cases_eq x slot)) (λ image. ap (λ l. (lock_state_at site image l).owned) locks)
      where
        by : (x : ℕ) → (x ≡ slot) ⊎ (x ≢ slot) → IsWayTrue site r me (slot_state x d.slots).way
        by x (inl same) = no_way site r me (slot_state x d.slots).way (ap (λ n. (slot_state n d.slots).way) same ∙ ap (λ (s : SlotState). s.way) new)
        by x (inr differ) = subst (λ (s : SlotState). IsWayTrue site r me s.way) (sym (others x differ)) (t.ways x)

    -- a request whose slot is free again
    pub freed_is_true : (stands : R → Standing) → IsSoundClient stands d → (slot : ℕ) → held_in slot d.session.slots ≡ None
        → ((other : ℕ) → other ≢ slot → slot_state other d.slots ≡ slot_state other c.slots) → d.locks ≡ c.locks → IsTrueOf site r me knows d
    freed_is_true stands sound slot free others locks = submitted_is_true slot quiescing.Leaves (sound.free slot free) others locks

    pub readied_is_true : d.slots ≡ c.slots → AreStatesAlike c.locks d.locks → IsTrueOf site r me knows d
    readied_is_true slots locks =
        counts_the_same (λ x. subst (λ xs. IsWayTrue site r me (slot_state x xs).way) (sym slots) (t.ways x))
        (λ image. ap (λ (s : LockState). s.owned) (locks site image))

    pub heard_is_true : (n : Notice) → d.slots ≡ c.slots → ((image : ℕ) → lock_state_at site image d.locks ≡ heard n site image (lock_state_at site image c.locks)) → IsTrueOf site r me knows d
    heard_is_true n slots locks =
        counts_the_same (λ x. subst (λ xs. IsWayTrue site r me (slot_state x xs).way) (sym slots) (t.ways x))
        (λ image. ap (λ (s : LockState). s.owned) (locks image) ∙ owned_is site image (ByNotice n ∷ []) (lock_state_at site image c.locks))

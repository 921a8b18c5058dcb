-- What an answer to a request leaves of a client.
use Rattle.std.proofs.Common.{◌≡◌, ℕ, ◌==◌, ◌&&◌, ◌||◌, cond, Bool, true, false, length, Option, Some, None, refl, sym, ap, ◌∙◌, subst, true≢false}
use Rattle.std.specs.Option.{is_some, option_map}
use Rattle.std.proofs.lemmas.Option.{none-some, same_Some}
use Rattle.rbd_client.specs.declared.actor.Actor.{Actor}
use Rattle.rbd_client.specs.declared.actor.Actor.TheVariants as actor
use Rattle.rbd_client.specs.declared.slot_state.SlotState.{SlotState}
use Rattle.rbd_client.specs.declared.slot_state.Way.{Way}
use Rattle.rbd_client.specs.declared.slot_state.Way.TheVariants as way
use Rattle.rbd_client.specs.Actor.{actor_at, actor_by, actor_on, due_release, release_actor}
use Rattle.rbd_client.specs.Client.{ClientView, slot_state}
use Rattle.rbd_client.specs.Feeding.{comings_of, state_behind, CountsAll, IsAtRest}
use Rattle.rbd_client.specs.Sound.{IsOwned, IsSoundClient, IsTelling, IsWellOnWay, WaitsForLook}
use Rattle.rbd_client.proofs.Kept.{sound_behind, LeavesSlots}
use Rattle.rbd_client.proofs.Owning.{ends}
use Rattle.rbd_kinds.specs.declared.answer.Answer.TheVariants as answer
use Rattle.rbd_machine.specs.declared.stage.Stage.{Stage}
use Rattle.rbd_kinds.specs.declared.answer.Answer.{Answer}
use Rattle.rbd_kinds.specs.declared.header_op.HeaderOp.TheVariants as header
use Rattle.rbd_kinds.specs.declared.id.SiteId.{SiteId}
use Rattle.rbd_kinds.specs.declared.machine.Fed.{Fed}
use Rattle.rbd_kinds.specs.declared.operation.Op.{Op}
use Rattle.rbd_kinds.specs.declared.operation.Op.TheVariants as op
use Rattle.rbd_kinds.specs.declared.reply.Reply.{Reply}
use Rattle.rbd_kinds.specs.OperationKind.{kind_of}
use Rattle.rbd_queue.specs.Line.{Member, member_of}
use Rattle.rbd_kinds.specs.declared.image_at.ImageAt.{ImageAt}
use Rattle.rbd_lock.specs.declared.lock_state.LockState.{LockState}
use Rattle.rbd_lock.specs.Locks.{LocksView, IsSoundLocks, lock_state_at}
use Rattle.rbd_machine.specs.Plan.{Plan, Ask, Await, Note, Return, Goto, Standing}
use Rattle.rbd_lock.specs.Acquire.{begun_way}
use Rattle.rbd_lock.specs.declared.release.Release.{Release}
use Rattle.rbd_slots.specs.declared.running.Occupant.{Occupant}
use Rattle.rbd_slots.specs.declared.running.Occupant.TheVariants as occupant
use Rattle.rbd_slots.specs.declared.running.Running.{Running}
use Rattle.rbd_slots.specs.Advance.{track_of, IsFedWell}
use Rattle.rbd_slots.specs.Lines.{lines_of}
use Rattle.rbd_slots.specs.Session.{SessionView, ComesToIn, IsAtLookUnderLock, IsFed, IsReadied, IsSoundSession, OfRunning, going_in, held_in, is_look_at, kind_asked, op_asked, op_at, of_going, look_under_lock_at, look_under_lock_in, look_under_lock_of, running_in}
use Rattle.rbd_slots.specs.Waits.{waits, waits_at}
use Rattle.rbd_slots.proofs.LooksUnderLock.{at_look_under_lock}
use Rattle.rbd_slots.proofs.LooksUnderLockStay.{stays_behind_feeding}

-- ---- who acts

-- the request, and nobody else
abbrev pub is_request : Actor → Bool
is_request actor.Request = true
is_request x = false

releases_nothing_else : (r : Option Release) (due : Option ImageAt) → is_request (release_actor r due) ≡ false
releases_nothing_else (Some r) due = refl
releases_nothing_else None (Some p) = refl
releases_nothing_else None None = refl

owned_where_it_acts : (s : LockState) (site : SiteId) (image : ℕ) → is_request (actor_by s site image) ≡ true → s.owned ≡ true
owned_where_it_acts s site image = go (s.quiesced || s.asked) s.owned
  where
    go : (held owned : Bool) → is_request (cond held actor.Nobody (cond owned actor.Request (actor.Way (begun_way site image s.watched)))) ≡ true → owned ≡ true
    go true owned is = absurd (true≢false (sym is))
    go false true is = refl
    go false false is = absurd (true≢false (sym is))

module _ {R : Type 0} (stands : R → Standing) where
  -- who acts at a slot acts by the way of the request in it
  pub acts_by_way : (slot : ℕ) (c : ClientView R) → actor_at stands slot c ≡ actor.Request
      → is_request (actor_on (slot_state slot c.slots).way (look_under_lock_at stands slot c.session) c.locks) ≡ true
  acts_by_way slot c acts = go (slot == 0) (ap is_request acts)
    where
      go : (b : Bool) → is_request (cond b (release_actor c.release (due_release c)) (actor_on (slot_state slot c.slots).way (look_under_lock_at stands slot c.session) c.locks)) ≡ true
          → is_request (actor_on (slot_state slot c.slots).way (look_under_lock_at stands slot c.session) c.locks) ≡ true
      go true is = absurd (true≢false (sym is ∙ releases_nothing_else c.release (due_release c)))
      go false is = is

  -- two images at whose look under the lock one request waits are one
  one_place : (slot : ℕ) (site : SiteId) (image : ℕ) (p : ImageAt) (s : SessionView R) → WaitsForLook stands slot site image s → IsAtLookUnderLock slot p s → record { site = site; image = image } ≡ p
  one_place slot site image p s w look =
      let same : w.request ≡ look.running = same_Some w.request look.running (sym w.runs ∙ look.runs) in
      same_Some (record { site = site; image = image }) p (sym w.place ∙ ap (λ (r : Running R). r.place) same ∙ look.place)

  -- A request at its look under the lock acts only where the lock counts as owned.
  pub request_owns : (slot : ℕ) (c : ClientView R) → IsSoundClient stands c → actor_at stands slot c ≡ actor.Request → (p : ImageAt) → look_under_lock_at stands slot c.session ≡ Some p
      → IsOwned p.site p.image c.locks
  request_owns slot c sound acts p at = go (slot_state slot c.slots).way (sound.ways slot) (subst (λ look. is_request (actor_on (slot_state slot c.slots).way look c.locks) ≡ true) at (acts_by_way slot c acts))
    where
      go : (w : Way) → IsWellOnWay stands slot w c.session c.locks → is_request (actor_on w (Some p) c.locks) ≡ true → IsOwned p.site p.image c.locks
      go way.Unbegun well is = owned_where_it_acts (lock_state_at p.site p.image c.locks) p.site p.image is
      go (way.On a) well is = absurd (true≢false (sym is))
      go (way.Taken q) well is =
          subst (λ (x : ImageAt). IsOwned x.site x.image c.locks) (one_place slot q.site q.image p c.session well.0 (at_look_under_lock stands c.session slot p at)) well.1

  -- ---- a request that waits for its look under the lock, and may go on, stands there

  pub stands_at_look : (slot : ℕ) (site : SiteId) (image : ℕ) (s : SessionView R) → WaitsForLook stands slot site image s → OfRunning (λ r. waits slot (track_of r s.lines) ≡ false) (held_in slot s.slots)
      → look_under_lock_at stands slot s ≡ Some (record { site = site; image = image })
  stands_at_look slot site image s w goes = by (held_in slot s.slots) w.runs goes
    where
      here : Option ImageAt
      here = Some (record { site = site; image = image })

      placed : look_under_lock_of slot (kind_asked (stands w.request.request).plan) w.request.place s.lines ≡ here
      placed =
          ap (λ p. look_under_lock_of slot (kind_asked (stands w.request.request).plan) p s.lines) w.place
          ∙ ap (λ b. cond (b && waits_at (option_map (λ (m : Member). m.stage) (member_of slot (lines_of s.lines site image)))) here None) w.wants
          ∙ ap (λ o. cond (waits_at (option_map (λ (m : Member). m.stage) o)) here None) w.found
          ∙ ap (λ (g : Stage). cond (waits_at (Some g)) here None) w.waits

      by : (o : Option (Occupant R)) → running_in o ≡ Some w.request → OfRunning (λ r. waits slot (track_of r s.lines) ≡ false) o → look_under_lock_in stands slot s.lines (going_in slot o s.lines) ≡ here
      by None is goes = absurd (none-some w.request is)
      by (Some (occupant.Refused line x)) is goes = absurd (none-some w.request is)
      by (Some (occupant.Running r)) is goes =
          ap (λ b. look_under_lock_in stands slot s.lines (cond b None (Some r))) goes
          ∙ ap (λ (q : Running R). look_under_lock_of slot (kind_asked (stands q.request).plan) q.place s.lines) (same_Some r w.request is)
          ∙ placed

  -- ---- the operation of a look under the lock ends no lock

  look_ends_none : (at site : SiteId) (o : Op) (a : Answer) (there : SiteId) (image : ℕ) → is_look_at at (Some (site, kind_of o)) ≡ true → ends site o a there image ≡ false
  look_ends_none at site (op.Header on header.LockDrop) a there image is = absurd (true≢false (sym is))
  look_ends_none at site (op.Header on header.Remove) answer.Done there image is = absurd (true≢false (sym is))
  look_ends_none at site (op.Header on o) a there image is = refl
  look_ends_none at site o a there image is = refl

  asked_kind : (plan : Plan) (site : SiteId) (o : Op) → op_asked plan ≡ Some (site, o) → kind_asked plan ≡ Some (site, kind_of o)
  asked_kind (Ask s why w next) site o is = ap (option_map (λ (x : SiteId × Op). (x.0, kind_of x.1))) is
  asked_kind (Await w next) site o is = absurd (none-some (site, o) is)
  asked_kind (Note s i e next) site o is = absurd (none-some (site, o) is)
  asked_kind (Return r) site o is = absurd (none-some (site, o) is)
  asked_kind (Goto l) site o is = absurd (none-some (site, o) is)

  pub look_ends_nothing : (slot : ℕ) (site : SiteId) (o : Op) (s : SessionView R) (p : ImageAt) → look_under_lock_at stands slot s ≡ Some p → op_at stands slot s ≡ Some (site, o)
      → (a : Answer) (there : SiteId) (image : ℕ) → ends site o a there image ≡ false
  look_ends_nothing slot site o s p at wanted a there image = by (going_in slot (held_in slot s.slots) s.lines) at wanted
    where
      placed : (k : Bool) (q : ImageAt) (kind : _) → cond (is_look_at q.site kind && k) (Some q) None ≡ Some p → is_look_at q.site kind ≡ true
      placed k q kind is = go (is_look_at q.site kind) is
        where
          go : (b : Bool) → cond (b && k) (Some q) None ≡ Some p → b ≡ true
          go true is = refl
          go false is = absurd (none-some p is)

      by : (g : Option (Running R)) → look_under_lock_in stands slot s.lines g ≡ Some p → of_going stands op_asked g ≡ Some (site, o) → ends site o a there image ≡ false
      by None at wanted = absurd (none-some p at)
      by (Some r) at wanted = go r.place at
        where
          go : (place : Option ImageAt) → look_under_lock_of slot (kind_asked (stands r.request).plan) place s.lines ≡ Some p → ends site o a there image ≡ false
          go None at = absurd (none-some p at)
          go (Some q) at =
              look_ends_none q.site site o a there image
              (sym (ap (is_look_at q.site) (asked_kind (stands r.request).plan site o wanted))
              ∙ placed (waits_at (option_map (λ (m : Member). m.stage) (member_of slot (lines_of s.lines q.site q.image)))) q (kind_asked (stands r.request).plan) at)

  -- ---- what is left

  fed_free : (slot : ℕ) (f : Fed) (result : Option Reply) (old new : SessionView R) → IsFed stands slot f result old new → held_in slot new.slots ≡ None → is_some result ≡ true
  fed_free slot f result old new is_fed none = by (held_in slot old.slots) is_fed
    where
      by : (o : Option (Occupant R)) → OfRunning (λ r. ComesToIn stands slot old.lines f result r (held_in slot new.slots) new.lines) o → is_some result ≡ true
      by None is = elim is [ ]
      by (Some (occupant.Refused line x)) is = elim is [ ]
      by (Some (occupant.Running r)) is = (subst (λ n. ComesToIn stands slot old.lines f result r n new.lines) none is).0

  module _ (is_ready : R → Answer → Type 0) where
    goes_on : (slot : ℕ) (f : Fed) (s : SessionView R) → IsReadied stands is_ready slot f s → OfRunning (λ r. waits slot (track_of r s.lines) ≡ false) (held_in slot s.slots)
    goes_on slot f s ready = by (held_in slot s.slots) ready
      where
        by : (o : Option (Occupant R)) → OfRunning (λ r. IsFedWell stands is_ready slot r s.lines f) o → OfRunning (λ r. waits slot (track_of r s.lines) ≡ false) o
        by None is = elim is [ ]
        by (Some (occupant.Refused line x)) is = elim is [ ]
        by (Some (occupant.Running r)) is = is.goes

    -- the way of a request that acts is over behind its answer, or was never begun
    way_over : (slot : ℕ) (f : Fed) (c : ClientView R) → IsSoundClient stands c → actor_at stands slot c ≡ actor.Request → IsReadied stands is_ready slot f c.session
        → (t : SessionView R) (locks : LocksView) (ended : Bool) → IsWellOnWay stands slot (state_behind ended (is_some (look_under_lock_at stands slot c.session)) (slot_state slot c.slots)).way t locks
    way_over slot f c sound acts ready t locks true = tt
    way_over slot f c sound acts ready t locks false = go (look_under_lock_at stands slot c.session) refl
      where
        unlooked : look_under_lock_at stands slot c.session ≡ None → (w : Way) → (slot_state slot c.slots).way ≡ w → IsWellOnWay stands slot w t locks
        unlooked none way.Unbegun is = tt
        unlooked none (way.On a) is =
            absurd (true≢false (sym (acts_by_way slot c acts) ∙ ap (λ w. is_request (actor_on w (look_under_lock_at stands slot c.session) c.locks)) is))
        unlooked none (way.Taken p) is =
            absurd (none-some (record { site = p.site; image = p.image }) (
            sym none ∙ stands_at_look slot p.site p.image c.session (subst (λ w. IsWellOnWay stands slot w c.session c.locks) is (sound.ways slot)).0 (goes_on slot f c.session ready)))

        go : (look : Option ImageAt) → look_under_lock_at stands slot c.session ≡ look → IsWellOnWay stands slot (cond (is_some look) (record { way = way.Unbegun; quiescing = (slot_state slot c.slots).quiescing }) (slot_state slot c.slots)).way t locks
        go (Some p) at = tt
        go None at = unlooked at (slot_state slot c.slots).way refl

    pub request_sound : (slot : ℕ) (site : SiteId) (o : Op) (f : Fed) (result : Option Reply) (old new : ClientView R)
        → IsSoundClient stands old → IsSoundSession stands new.session → IsSoundLocks new.locks → actor_at stands slot old ≡ actor.Request → IsReadied stands is_ready slot f old.session
        → op_at stands slot old.session ≡ Some (site, o)
        → IsFed stands slot f result old.session new.session → LeavesSlots stands slot old new → length new.slots ≡ 65 → new.release ≡ old.release
        → CountsAll (comings_of (slot_state slot old.slots).quiescing (look_under_lock_at stands slot old.session) site o f) old.locks new.locks → IsAtRest site o old
        → slot_state slot new.slots ≡ state_behind (is_some result) (is_some (look_under_lock_at stands slot old.session)) (slot_state slot old.slots)
        → IsSoundClient stands new
    request_sound slot site o f result old new sound session locks acts ready wanted is_fed leaves slots release counts rest state =
        sound_behind stands slot site o f (slot_state slot old.slots).quiescing (look_under_lock_at stands slot old.session) old new sound session locks leaves slots
        (subst IsTelling (sym release) sound.telling) counts rest
        (λ none. state ∙ ap (λ b. state_behind b (is_some (look_under_lock_at stands slot old.session)) (slot_state slot old.slots)) (fed_free slot f result old.session new.session is_fed none))
        (subst (λ (s : SlotState). IsWellOnWay stands slot s.way new.session new.locks) (sym state) (way_over slot f old sound acts ready new.session new.locks (is_some result)))
        (λ k differ p at. stays_behind_feeding stands old.session new.session k slot p sound.session differ (leaves.held k differ) at f result is_fed leaves.lines)

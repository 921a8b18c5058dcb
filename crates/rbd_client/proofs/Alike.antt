-- A client that was made ready for an answer is as it was.
use Rattle.std.proofs.Common.{◌≡◌, ℕ, ◌<◌, ◌==◌, ◌&&◌, not, cond, Bool, true, false, List, [], ◌∷◌, length, Option, Some, None, Result, Ok, Err, OnOk, refl, sym, ap, ◌∙◌, subst}
use Rattle.std.specs.List.{find}
use Rattle.std.specs.Option.{option_map}
use Rattle.std.proofs.lemmas.Option.{none-some, same_Some}
use Rattle.rbd_client.specs.declared.actor.Actor.{Actor}
use Rattle.rbd_client.specs.declared.actor.Actor.TheVariants as actor
use Rattle.rbd_client.specs.declared.slot_state.Way.{Way}
use Rattle.rbd_client.specs.declared.slot_state.Way.TheVariants as way
use Rattle.rbd_client.specs.Actor.{actor_at, actor_at_look, actor_by, actor_on, any_taken, due_release, may_release, release_actor}
use Rattle.rbd_client.specs.Client.{ClientView, slot_state}
use Rattle.rbd_client.specs.Feeding.{AreStatesAlike, CanGet, IsClientAlike, IsReadiedFor, IsReadyBy, StaysUnlessRequest}
use Rattle.rbd_client.specs.Sound.{IsOwned, IsSoundClient, IsTelling, IsWellOnWay, WaitsForLook}
use Rattle.rbd_kinds.specs.declared.answer.Answer.{Answer}
use Rattle.rbd_kinds.specs.declared.id.SiteId.{SiteId}
use Rattle.rbd_kinds.specs.declared.machine.Fed.{Fed}
use Rattle.rbd_kinds.specs.declared.operation_kind.OpKind.{OpKind}
use Rattle.rbd_queue.specs.Line.{Member, any_past, member_of}
use Rattle.rbd_kinds.specs.declared.image_at.ImageAt.{ImageAt}
use Rattle.rbd_lock.specs.declared.lock_state.LockState.{LockState}
use Rattle.rbd_lock.specs.Locks.{LocksView, IsSoundLocks, lock_state_at}
use Rattle.rbd_machine.specs.Plan.{Standing}
use Rattle.rbd_slots.specs.declared.running.Occupant.{Occupant}
use Rattle.rbd_slots.specs.declared.running.Occupant.TheVariants as occupant
use Rattle.rbd_slots.specs.declared.running.Running.{Running}
use Rattle.rbd_slots.specs.Advance.{track_of, IsSameStand}
use Rattle.rbd_slots.specs.Lines.{LinesView, lines_of}
use Rattle.rbd_slots.specs.Session.{SessionView, IsAlike, IsAlikeIn, IsReadied, IsSoundSession, going_in, held_in, is_look_at, kind_asked, look_under_lock_at, look_under_lock_in, look_under_lock_of, running_at, running_in}
use Rattle.rbd_slots.specs.Track.{Lines}
use Rattle.rbd_slots.specs.Waits.{waits, waits_at}
use Rattle.rbd_slots.proofs.Readied.{same_track}

look_by : (slot : ℕ) (wanted : Option (SiteId × OpKind)) (place : Option ImageAt) (old new : LinesView) → lines_of new ≡ lines_of old → look_under_lock_of slot wanted place new ≡ look_under_lock_of slot wanted place old
look_by slot wanted None old new lines = refl
look_by slot wanted (Some p) old new lines =
    ap (λ (ls : Lines). cond (is_look_at p.site wanted && waits_at (option_map (λ (m : Member). m.stage) (member_of slot (ls p.site p.image)))) (Some p) None) lines

module _ {R : Type 0} (stands : R → Standing) where
  -- ---- the request in a slot

  same_wants : (r q : Running R) → IsSameStand stands r q → kind_asked (stands q.request).plan ≡ kind_asked (stands r.request).plan
  same_wants r q same = ap (λ (s : Standing). kind_asked s.plan) same.same

  -- it runs as before
  pub record RunsAlike (slot : ℕ) (r : Running R) (new : SessionView R) : Type 0 where
    pub request : Running R
    pub runs : running_at slot new ≡ Some request
    pub same : IsSameStand stands r request

  pub runs_alike : (slot : ℕ) (r : Running R) (old new : SessionView R) → IsAlike stands old new → running_at slot old ≡ Some r → RunsAlike slot r new
  runs_alike slot r old new alike runs = go (held_in slot old.slots) (held_in slot new.slots) refl refl (alike.slots slot) runs
    where
      go : (o n : Option (Occupant R)) → held_in slot old.slots ≡ o → held_in slot new.slots ≡ n → IsAlikeIn stands o n → running_in o ≡ Some r → RunsAlike slot r new
      go (Some (occupant.Running p)) (Some (occupant.Running q)) was is same at =
          record { request = q; runs = ap running_in is; same = subst (λ x. IsSameStand stands x q) (same_Some p r at) same }
      go (Some (occupant.Running p)) (Some (occupant.Refused line x)) was is same at = absurd (none-some p (ap running_in same))
      go (Some (occupant.Running p)) None was is same at = absurd (none-some p (ap running_in same))
      go (Some (occupant.Refused line x)) n was is same at = absurd (none-some r at)
      go None n was is same at = absurd (none-some r at)

  pub free_alike : (slot : ℕ) (old new : SessionView R) → IsAlike stands old new → held_in slot new.slots ≡ None → held_in slot old.slots ≡ None
  free_alike slot old new alike none = go (held_in slot old.slots) (held_in slot new.slots) (alike.slots slot) none
    where
      go : (o n : Option (Occupant R)) → IsAlikeIn stands o n → n ≡ None → o ≡ None
      go (Some (occupant.Running p)) (Some (occupant.Running q)) same at = absurd (none-some (occupant.Running q) (sym at))
      go (Some (occupant.Running p)) (Some (occupant.Refused line x)) same at = sym same ∙ at
      go (Some (occupant.Running p)) None same at = sym same ∙ at
      go (Some (occupant.Refused line x)) n same at = sym same ∙ at
      go None n same at = sym same ∙ at

  look_running : (slot : ℕ) (r q : Running R) (old new : LinesView) → IsSameStand stands r q → lines_of new ≡ lines_of old
      → look_under_lock_in stands slot new (going_in slot (Some (occupant.Running q)) new) ≡ look_under_lock_in stands slot old (going_in slot (Some (occupant.Running r)) old)
  look_running slot r q old new same lines =
      ap (λ b. look_under_lock_in stands slot new (cond b None (Some q))) (ap (waits slot) (same_track stands r q old new same lines))
      ∙ by (waits slot (track_of r old))
    where
      at : look_under_lock_of slot (kind_asked (stands q.request).plan) q.place new ≡ look_under_lock_of slot (kind_asked (stands r.request).plan) r.place old
      at =
          ap (λ k. look_under_lock_of slot k q.place new) (same_wants r q same)
          ∙ ap (λ p. look_under_lock_of slot (kind_asked (stands r.request).plan) p new) same.place
          ∙ look_by slot (kind_asked (stands r.request).plan) r.place old new lines

      by : (b : Bool) → look_under_lock_in stands slot new (cond b None (Some q)) ≡ look_under_lock_in stands slot old (cond b None (Some r))
      by true = refl
      by false = at

  pub look_alike : (slot : ℕ) (old new : SessionView R) → IsAlike stands old new → look_under_lock_at stands slot new ≡ look_under_lock_at stands slot old
  look_alike slot old new alike = go (held_in slot old.slots) (held_in slot new.slots) (alike.slots slot)
    where
      none_of : (o : Option (Occupant R)) → running_in o ≡ None → (lines : LinesView) → look_under_lock_in stands slot lines (going_in slot o lines) ≡ None
      none_of None is lines = refl
      none_of (Some (occupant.Refused line x)) is lines = refl
      none_of (Some (occupant.Running r)) is lines = absurd (none-some r (sym is))

      go : (o n : Option (Occupant R)) → IsAlikeIn stands o n → look_under_lock_in stands slot new.lines (going_in slot n new.lines) ≡ look_under_lock_in stands slot old.lines (going_in slot o old.lines)
      go (Some (occupant.Running p)) (Some (occupant.Running q)) same = look_running slot p q old.lines new.lines same alike.lines
      go (Some (occupant.Running p)) (Some (occupant.Refused line x)) same = absurd (none-some p (ap running_in same))
      go (Some (occupant.Running p)) None same = absurd (none-some p (ap running_in same))
      go (Some (occupant.Refused line x)) n same = none_of n (ap running_in same) new.lines
      go None n same = none_of n (ap running_in same) new.lines

  -- ---- who acts

  at_look_alike : (look : Option ImageAt) (old new : LocksView) → AreStatesAlike old new → actor_at_look look new ≡ actor_at_look look old
  at_look_alike None old new alike = refl
  at_look_alike (Some p) old new alike = ap (λ s. actor_by s p.site p.image) (alike p.site p.image)

  on_alike : (w : Way) (look : Option ImageAt) (old new : LocksView) → AreStatesAlike old new → actor_on w look new ≡ actor_on w look old
  on_alike way.Unbegun look old new alike = at_look_alike look old new alike
  on_alike (way.On a) look old new alike = refl
  on_alike (way.Taken p) look old new alike = refl

  may_alike : (old new : ClientView R) → IsClientAlike stands old new → (p : ImageAt) → may_release new p ≡ may_release old p
  may_alike old new alike p =
      ap (λ (s : LockState). not s.quiesced && (not (any_past (lines_of new.session.lines p.site p.image)) && not (any_taken p.site p.image new.slots))) (alike.locks p.site p.image)
      ∙ ap (λ (ls : Lines). not (lock_state_at p.site p.image old.locks).quiesced && (not (any_past (ls p.site p.image)) && not (any_taken p.site p.image new.slots))) alike.session.lines
      ∙ ap (λ slots. not (lock_state_at p.site p.image old.locks).quiesced && (not (any_past (lines_of old.session.lines p.site p.image)) && not (any_taken p.site p.image slots))) alike.slots

  find_by : (f g : ImageAt → Bool) (ps : List ImageAt) → ((p : ImageAt) → f p ≡ g p) → find f ps ≡ find g ps
  find_by f g [] same = refl
  find_by f g (p ∷ ps) same = ap (λ b. cond b (Some p) (find f ps)) (same p) ∙ ap (λ rest. cond (g p) (Some p) rest) (find_by f g ps same)

  due_alike : (old new : ClientView R) → IsClientAlike stands old new → due_release new ≡ due_release old
  due_alike old new alike = ap (find (may_release new)) alike.asked ∙ find_by (may_release new) (may_release old) old.locks.asked (may_alike old new alike)

  pub actor_alike : (slot : ℕ) (old new : ClientView R) → IsClientAlike stands old new → actor_at stands slot new ≡ actor_at stands slot old
  actor_alike slot old new alike = by (slot == 0)
    where
      by : (b : Bool) → cond b (release_actor new.release (due_release new)) (actor_on (slot_state slot new.slots).way (look_under_lock_at stands slot new.session) new.locks)
          ≡ cond b (release_actor old.release (due_release old)) (actor_on (slot_state slot old.slots).way (look_under_lock_at stands slot old.session) old.locks)
      by true = ap (λ r. release_actor r (due_release new)) alike.release ∙ ap (release_actor old.release) (due_alike old new alike)
      by false =
          ap (λ slots. actor_on (slot_state slot slots).way (look_under_lock_at stands slot new.session) new.locks) alike.slots
          ∙ ap (λ look. actor_on (slot_state slot old.slots).way look new.locks) (look_alike slot old.session new.session alike.session)
          ∙ on_alike (slot_state slot old.slots).way (look_under_lock_at stands slot old.session) old.locks new.locks alike.locks

  -- ---- what holds of it

  owned_alike : (site : SiteId) (image : ℕ) (old new : LocksView) → AreStatesAlike old new → IsOwned site image old → IsOwned site image new
  owned_alike site image old new alike owned = ap (λ (s : LockState). s.owned) (alike site image) ∙ owned

  waits_alike : (slot : ℕ) (site : SiteId) (image : ℕ) (old new : SessionView R) → IsAlike stands old new → WaitsForLook stands slot site image old → WaitsForLook stands slot site image new
  waits_alike slot site image old new alike w =
      let q = runs_alike slot w.request old new alike w.runs in
      record {
        request = q.request;
        runs = q.runs;
        place = q.same.place ∙ w.place;
        wants = ap (is_look_at site) (same_wants w.request q.request q.same) ∙ w.wants;
        member = w.member;
        found = ap (λ (ls : Lines). member_of slot (ls site image)) alike.lines ∙ w.found;
        waits = w.waits;
        at_look = look_alike slot old new alike ∙ w.at_look;
      }

  pub sound_alike : (old new : ClientView R) → IsSoundClient stands old → IsSoundSession stands new.session → IsSoundLocks new.locks → IsClientAlike stands old new → IsSoundClient stands new
  sound_alike old new sound session locks alike = record {
    session = session;
    locks = locks;
    slots = ap length alike.slots ∙ sound.slots;
    free = λ slot none. ap (slot_state slot) alike.slots ∙ sound.free slot (free_alike slot old.session new.session alike.session none);
    ways = λ slot. subst (λ slots. IsWellOnWay stands slot (slot_state slot slots).way new.session new.locks) (sym alike.slots) (way_there slot (slot_state slot old.slots).way (sound.ways slot));
    telling = subst IsTelling (sym alike.release) sound.telling;
  }
    where
      way_there : (slot : ℕ) (w : Way) → IsWellOnWay stands slot w old.session old.locks → IsWellOnWay stands slot w new.session new.locks
      way_there slot way.Unbegun well = tt
      way_there slot (way.On a) well = waits_alike slot a.site a.image old.session new.session alike.session well
      way_there slot (way.Taken p) well = (waits_alike slot p.site p.image old.session new.session alike.session well.0, owned_alike p.site p.image old.locks new.locks alike.locks well.1)

  -- ---- ready

  module _ (is_ready : R → Answer → Type 0) where
    -- a request that acts is ready where its session is
    pub ready_then : {E : Type 0} (slot : ℕ) (f : Fed) (old new : ClientView R) → IsClientAlike stands old new → actor_at stands slot old ≡ actor.Request → 0 < new.locks.room
        → (result : Result (Unit {0}) E) → OnOk result (IsReadied stands is_ready slot f new.session) → OnOk result (IsReadiedFor stands is_ready slot f new)
    ready_then slot f old new alike acts room (Ok x) ready =
        record { ready = subst (IsReadyBy stands is_ready slot new.session f) (sym (actor_alike slot old new alike ∙ acts)) ready; room = room }
    ready_then slot f old new alike acts room (Err e) ready = tt

    -- nobody else needs anything of a session
    pub ready_without : (slot : ℕ) (f : Fed) (old new : ClientView R) → IsClientAlike stands old new → 0 < new.locks.room → (who : Actor) → actor_at stands slot old ≡ who → (who ≡ actor.Request → ⊥)
        → CanGet stands slot old.session f who → IsReadiedFor stands is_ready slot f new
    ready_without slot f old new alike room who acts other can =
        record { ready = subst (IsReadyBy stands is_ready slot new.session f) (sym (actor_alike slot old new alike ∙ acts)) (go who other can); room = room }
      where
        go : (who : Actor) → (who ≡ actor.Request → ⊥) → CanGet stands slot old.session f who → IsReadyBy stands is_ready slot new.session f who
        go actor.Nobody other can = can
        go actor.Request other can = absurd (other refl)
        go (actor.Way a) other can = can
        go (actor.Release r) other can = can

pub stays_where_same : {R : Type 0} (who : Actor) (old new : SessionView R) → new ≡ old → StaysUnlessRequest who old new
stays_where_same actor.Nobody old new same = same
stays_where_same actor.Request old new same = tt
stays_where_same (actor.Way a) old new same = same
stays_where_same (actor.Release r) old new same = same

-- Two clients that stand alike, fed the same: nobody can tell one from the other behind it.
use Rattle.std.proofs.Common.{◌≡◌, ℕ, List, Option, Some, None, is_some, refl, sym, ap, ◌∙◌, subst}
use Rattle.std.specs.Prelude.{IsSome}
use Rattle.std.proofs.lemmas.Bool.{true≢false}
use Rattle.rbd_client.proofs.Alike.{look_alike, runs_alike}
use Rattle.rbd_client.specs.Client.{ClientView, slot_state}
use Rattle.rbd_client.specs.Feeding.{AreStatesAlike, CountsAll, GoesItsWay, IsClientAlike, IsFedBy, ReleaseIsFed, RequestIsFed, WayIsFed, comings_of, state_behind, state_on_way}
use Rattle.rbd_client.specs.declared.actor.Actor.{Actor}
use Rattle.rbd_client.specs.declared.actor.Actor.TheVariants as actor
use Rattle.rbd_client.specs.declared.slot_state.SlotState.{SlotState}
use Rattle.rbd_client.specs.declared.slot_state.Way.{Way}
use Rattle.rbd_commands.specs.declared.quiescing.Quiescing.TheVariants as quiescing
use Rattle.rbd_kinds.specs.declared.id.SiteId.{SiteId}
use Rattle.rbd_kinds.specs.declared.image_at.ImageAt.{ImageAt}
use Rattle.rbd_kinds.specs.declared.machine.Fed.{Fed}
use Rattle.rbd_kinds.specs.declared.operation.Op.{Op}
use Rattle.rbd_kinds.specs.declared.reply.Reply.{Reply}
use Rattle.rbd_lock.specs.Comings.{Coming, after_all}
use Rattle.rbd_lock.specs.Locks.{lock_state_at}
use Rattle.rbd_machine.specs.Plan.{Standing}
use Rattle.rbd_lock.specs.declared.acquire.Acquire.{Acquire}
use Rattle.rbd_lock.specs.declared.release.Release.{Release}
use Rattle.rbd_slots.proofs.Readied.{same_track}
use Rattle.rbd_slots.specs.Lines.{lines_of}
use Rattle.rbd_slots.specs.Session.{IsAlikeIn, SessionView, held_in, look_under_lock_at, running_at}
use Rattle.rbd_slots.specs.Track.{Track, ended_by}
use Rattle.rbd_slots.specs.declared.running.Running.{Running}
use Rattle.rbd_world.proofs.FedAlike.{fed_alike}
use Rattle.rbd_plays.proofs.Slots.{fed_once}
use Rattle.rbd_plays.proofs.Stages.{one_way}

-- who is on the way to a lock runs
abbrev pub RunsOnWay : {R : Type 0} → (slot : ℕ) → ClientView R → Actor → Type 0
RunsOnWay slot c who = (a : Acquire) → who ≡ actor.Way a → IsSome (running_at slot c.session)

module _ {R : Type 0} (stands : R → Standing) (slot : ℕ) where
  -- what becomes of a slot, and of the client's house, looks the same
  pub record EndsAlike (x y : ClientView R) : Type 0 where
    pub held : IsAlikeIn stands (held_in slot x.session.slots) (held_in slot y.session.slots)
    pub lines : lines_of y.session.lines ≡ lines_of x.session.lines
    pub locks : AreStatesAlike x.locks y.locks
    pub state : slot_state slot y.slots ≡ slot_state slot x.slots
    pub release : y.release ≡ x.release

module _ {R : Type 0} (stands : R → Standing) (slot : ℕ) (c d x y : ClientView R) (alike : IsClientAlike stands c d) where
  -- ---- what both have in common

  counted : (comings also : List Coming) → also ≡ comings → CountsAll comings c.locks x.locks → CountsAll also d.locks y.locks → AreStatesAlike x.locks y.locks
  counted comings also same counts other = λ s image.
      other s image ∙ ap (λ (cs : List Coming). after_all cs s image (lock_state_at s image d.locks)) same ∙ ap (after_all comings s image) (alike.locks s image) ∙ sym (counts s image)

  -- where both sessions stay, they are alike
  held_still : x.session ≡ c.session → y.session ≡ d.session → IsAlikeIn stands (held_in slot x.session.slots) (held_in slot y.session.slots)
  held_still same other =
      subst (λ (s : SessionView R). IsAlikeIn stands (held_in slot s.slots) (held_in slot y.session.slots)) (sym same)
      (subst (λ (s : SessionView R). IsAlikeIn stands (held_in slot c.session.slots) (held_in slot s.slots)) (sym other) (alike.session.slots slot))

  lines_still : x.session ≡ c.session → y.session ≡ d.session → lines_of y.session.lines ≡ lines_of x.session.lines
  lines_still same other = ap (λ (s : SessionView R). lines_of s.lines) other ∙ alike.session.lines ∙ sym (ap (λ (s : SessionView R). lines_of s.lines) same)

  module _ (site : SiteId) (o : Op) (f : Fed) (result : Option Reply) where
    -- ---- a request

    same_look : look_under_lock_at stands slot d.session ≡ look_under_lock_at stands slot c.session
    same_look = look_alike stands slot c.session d.session alike.session

    same_comings : comings_of (slot_state slot d.slots).quiescing (look_under_lock_at stands slot d.session) site o f ≡ comings_of (slot_state slot c.slots).quiescing (look_under_lock_at stands slot c.session) site o f
    same_comings =
        ap (λ (ss : List SlotState). comings_of (slot_state slot ss).quiescing (look_under_lock_at stands slot d.session) site o f) alike.slots
        ∙ ap (λ (l : Option ImageAt). comings_of (slot_state slot c.slots).quiescing l site o f) same_look

    requests_alike : RequestIsFed stands slot site o f result c x → RequestIsFed stands slot site o f result d y → EndsAlike stands slot x y
    requests_alike is also =
        let both = fed_once stands slot f result c.session x.session y.session is.fed (fed_alike stands slot f result c.session d.session y.session alike.session also.fed) in
        record {
          held = both.0;
          lines = both.1;
          locks = counted _ _ same_comings is.counts also.counts;
          state =
              also.state
              ∙ ap (λ (l : Option ImageAt). state_behind (is_some result) (is_some l) (slot_state slot d.slots)) same_look
              ∙ ap (λ (ss : List SlotState). state_behind (is_some result) (is_some (look_under_lock_at stands slot c.session)) (slot_state slot ss)) alike.slots
              ∙ sym is.state;
          release = also.release ∙ alike.release ∙ sym is.release;
        }

    -- ---- a way

    ended_lines : (r : Running R) → running_at slot c.session ≡ Some r → (last : Reply) → GoesItsWay slot (Some last) c.session x.session → GoesItsWay slot (Some last) d.session y.session
        → lines_of y.session.lines ≡ lines_of x.session.lines
    ended_lines r runs last goes also =
        let other = runs_alike stands slot r c.session d.session alike.session runs in
        also.left other.request other.runs
        ∙ ap (λ (t : Track). (ended_by slot t).lines) (same_track stands r other.request c.session.lines d.session.lines other.same alike.session.lines)
        ∙ sym (goes.left r runs)

    ended_held : (r : Running R) → running_at slot c.session ≡ Some r → (last : Reply) → GoesItsWay slot (Some last) c.session x.session → GoesItsWay slot (Some last) d.session y.session
        → IsAlikeIn stands (held_in slot x.session.slots) (held_in slot y.session.slots)
    ended_held r runs last goes also =
        let other = runs_alike stands slot r c.session d.session alike.session runs in
        subst (λ o. IsAlikeIn stands o (held_in slot y.session.slots)) (sym (goes.free (ap is_some runs))) (also.free (ap is_some other.runs))

    ways_held : (r : Running R) → running_at slot c.session ≡ Some r → (ended : Option Reply) → GoesItsWay slot ended c.session x.session → GoesItsWay slot ended d.session y.session
        → IsAlikeIn stands (held_in slot x.session.slots) (held_in slot y.session.slots) × (lines_of y.session.lines ≡ lines_of x.session.lines)
    ways_held r runs None goes also = (held_still goes also, lines_still goes also)
    ways_held r runs (Some last) goes also = (ended_held r runs last goes also, ended_lines r runs last goes also)

    ways_alike : (a : Acquire) (r : Running R) → running_at slot c.session ≡ Some r → WayIsFed a slot site o f result c x → WayIsFed a slot site o f result d y → EndsAlike stands slot x y
    ways_alike a r runs is also =
        let both = ways_held r runs result is.session also.session in
        record {
          held = both.0;
          lines = both.1;
          locks = counted (comings_of quiescing.Leaves None site o f) (comings_of quiescing.Leaves None site o f) refl is.counts also.counts;
          state =
              also.state
              ∙ ap (λ (w : Way). state_on_way (is_some result) w (slot_state slot d.slots)) (one_way a f result (slot_state slot x.slots).way (slot_state slot y.slots).way is.comes also.comes)
              ∙ ap (λ (ss : List SlotState). state_on_way (is_some result) (slot_state slot x.slots).way (slot_state slot ss)) alike.slots
              ∙ sym is.state;
          release = also.release ∙ alike.release ∙ sym is.release;
        }

    -- ---- a release

    releases_alike : (r : Release) → ReleaseIsFed r site o f result c x → ReleaseIsFed r site o f result d y → EndsAlike stands slot x y
    releases_alike r is also = record {
      held = held_still is.session also.session;
      lines = lines_still is.session also.session;
      locks = counted (comings_of quiescing.Leaves None site o f) (comings_of quiescing.Leaves None site o f) refl is.counts also.counts;
      state = ap (slot_state slot) (also.slots ∙ alike.slots ∙ sym is.slots);
      release = also.release ∙ sym is.release;
    }

    -- ---- who acts

    way_of_runner : (a : Acquire) (held : Option (Running R)) → running_at slot c.session ≡ held → IsSome held → WayIsFed a slot site o f result c x → WayIsFed a slot site o f result d y
        → EndsAlike stands slot x y
    way_of_runner a (Some r) runs some is also = ways_alike a r runs is also
    way_of_runner a None runs some is also = absurd (true≢false (sym some))

    pub acts_alike : (who : Actor) → RunsOnWay slot c who → IsFedBy stands slot site o f result c x who → IsFedBy stands slot site o f result d y who → EndsAlike stands slot x y
    acts_alike actor.Nobody runs is also = absurd is
    acts_alike actor.Request runs is also = requests_alike is also
    acts_alike (actor.Way a) runs is also = way_of_runner a (running_at slot c.session) refl (runs a refl) is also
    acts_alike (actor.Release r) runs is also = releases_alike r is also

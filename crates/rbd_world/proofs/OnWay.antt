-- A poll that has an operation done on a request's way to the lock of its image keeps a world
-- sound.
use Rattle.std.proofs.Common.{◌≡◌, ◌≢◌, inl, inr, ℕ, ◌==◌, ◌||◌, Bool, true, false, cond, [], ◌∷◌, ◌++◌, Option, Some, None, IsSome, refl, sym, ap, ◌∙◌, subst}
use Rattle.std.proofs.lemmas.Bool.{true≢false, eq-eqb, eqb-true}
use Rattle.std.proofs.lemmas.List.{append-nil}
use Rattle.std.proofs.lemmas.Option.{none-some, same_Some}
use Rattle.rbd_client.specs.declared.actor.Actor.TheVariants as actor
use Rattle.rbd_client.specs.Actor.{actor_at, op_by, op_wanted}
use Rattle.rbd_client.specs.Client.{ClientView, slot_state}
use Rattle.rbd_client.specs.Feeding.{GoesItsWay, IsFedBy, WayComesTo, WayIsFed}
use Rattle.rbd_client.specs.Sound.{WaitsForLook}
use Rattle.rbd_client.proofs.OnWay.{way_waits}
use Rattle.rbd_kinds.specs.declared.answer.Answer.{Answer}
use Rattle.rbd_kinds.specs.declared.id.Instance.{Instance}
use Rattle.rbd_kinds.specs.declared.id.SiteId.{SiteId}
use Rattle.rbd_kinds.specs.declared.machine.Fed.TheVariants as fed
use Rattle.rbd_kinds.specs.declared.reply.Reply.{Reply}
use Rattle.rbd_kinds.specs.declared.reply.Reply.TheVariants as reply
use Rattle.rbd_knowledge.specs.ClientsKnowing.{knows_fed, plan_in_slot}
use Rattle.rbd_knowledge.specs.Knowing.{unless_ended}
use Rattle.rbd_machine.specs.Plan.{Return, Standing}
use Rattle.rbd_machine.specs.Refused.{IsGiven}
use Rattle.rbd_lock.specs.Acquire.{op_of, rest_of_acquire}
use Rattle.rbd_lock.specs.declared.acquire.Acquire.{Acquire}
use Rattle.rbd_slots.specs.declared.running.Occupant.TheVariants as occupant
use Rattle.rbd_slots.specs.declared.running.Running.{Running}
use Rattle.rbd_slots.specs.Session.{SessionView, held_in, is_look_at, kind_asked, running_at, running_in, script_line}
use Rattle.rbd_site.specs.Step.{answer_to}
use Rattle.rbd_world.specs.declared.event.Event.TheVariants as event
use Rattle.rbd_world.specs.Order.{AreWritesInOrder}
use Rattle.rbd_world.specs.Run.{Asked, OnWay, Happening, Did, Operation, asked_by, ends, step_of, steps_of, way_of}
use Rattle.rbd_world.specs.Seats.{seat_at}
use Rattle.rbd_world.specs.Sound.{IsRightlyDone, IsDue, IsHeldRightly, IsInSlot, IsLedTo, IsLiving, IsOpen, IsSoundWorld, IsUnderWay, KeepsToItsWay, StandsAtLook, has_ended, held_of, known_in, HasLearned, HasLearnedIf, TakesAlone, place_of_request}
use Rattle.rbd_world.specs.Step.{Does, DoesAtSites, Goes, IsSoundIf, operation_at, reply_on_way}
use Rattle.rbd_world.specs.Ways.{AgreesWithWay, IsWayThere}
use Rattle.rbd_world.specs.World.{WorldView, client_in, records_in, session_of_client, site_in}
use Rattle.rbd_world.proofs.Acting.{all_know, beside_now, beside_of_others, can, done_so, knows_now, sending_now, standing, truth_now, truth_of_others, whole, new_now, others_know, others_read, reads_now}
use Rattle.rbd_world.proofs.Carried.{IsCarried}
use Rattle.rbd_world.proofs.Changed.{GoesOnAs, apart_of, client_is, has_become, line_apart, living_of}
use Rattle.rbd_world.proofs.GoesOn.{goes_carries}
use Rattle.rbd_world.proofs.OrderedWorld.{given_up_order, no_turn, still_in_order}
use Rattle.rbd_world.proofs.Owes.{plain_owes, way_plain}
use Rattle.rbd_world.proofs.Quiet.{IsQuiet, quiet_did, underway_still, learned_still}
use Rattle.rbd_world.proofs.RefusedOnWay.{refused_on_way}
use Rattle.rbd_world.proofs.Slots.{in_this_slot, not_open, open_back, other_slots}
use Rattle.rbd_world.proofs.Closing.{gone_beside, let_go_runs, line_whose, takes_own}
use Rattle.rbd_world.proofs.StaysFirst.{stands_still}
use Rattle.rbd_world.proofs.Watching.{counts_fed, others_end_none, takes_behind_watch, way_ends_none, way_watched}
use Rattle.rbd_world.proofs.Ways.{asks_next, way_acts, way_goes_on, way_refused}
use Rattle.rbd_world.specs.Closes.{StandsFirst, StandsFirstIf, has_let_go}
use Rattle.rbd_slots.specs.Lines.{lines_of}
use Rattle.rbd_slots.specs.Track.{Lines}
use Rattle.rbd_slots.specs.Advance.{track_of}
use Rattle.rbd_slots.proofs.LooksUnderLockStay.{ended_may}
use Rattle.rbd_queue.specs.Line.{may_pass}
use Rattle.rbd_lock.specs.Steps.{lock_take}

module _ {R : Type 0} (stands : R → Standing) (old new : WorldView R) (w : IsSoundWorld stands old) (session slot : ℕ) (c : ClientView R) (there : client_in session old.lives ≡ Some c)
    (r : Running R) (holds : held_in slot c.session.slots ≡ Some (occupant.Running r)) (a : Acquire) (acts : actor_at stands slot c ≡ actor.Way a) where
  abbrev me : Instance
  me = c.session.instance

  abbrev home : SiteId
  home = w.told.homes session

  abbrev told : Answer
  told = answer_to (records_in a.site old.sites) me (op_of a)

  abbrev result : Option Reply
  result = reply_on_way a told

  abbrev operation : Operation
  operation = operation_at (site_in a.site old.sites) me (OnWay r.line) a.site (op_of a)

  abbrev does_it : Happening
  does_it = Did operation result

  wanted : op_wanted stands slot c ≡ Some (a.site, op_of a)
  wanted = ap (op_by stands slot c.session) acts

  living : IsLiving stands home session w.told.run (known_in w.knows session) c
  living = w.clients session c there

  runs : running_at slot c.session ≡ Some r
  runs = ap running_in holds

  way : IsUnderWay stands (seat_at w.told.homes session) me w.told.run r
  way = subst (IsHeldRightly stands (seat_at w.told.homes session) me w.told.run) holds (living.held slot)

  keeps : KeepsToItsWay stands w.told.run slot c.session.lines (slot_state slot c.slots).way (Some r)
  keeps = subst (KeepsToItsWay stands w.told.run slot c.session.lines (slot_state slot c.slots).way) runs (living.ways slot)

  -- its way stands where it acts
  stands_there : IsWayThere a.site a.image (way_of r.line w.told.run) (rest_of_acquire a (Return reply.Done))
  stands_there =
      way_acts stands slot c living.sound r runs (way_of r.line w.told.run)
      keeps.1 a acts

  -- where it takes the lock, no open line of the instance let go of it
  gone_beside_it : (image line : ℕ) → op_of a ≡ lock_take image → (begun : IsOpen line w.told.run) → begun.asked.who ≡ me → has_let_go a.site image (steps_of line w.told.run) ≡ true → ⊥
  gone_beside_it image line takes begun mine gone = by (client_in found.session old.lives) refl found.is
    where
      found : IsInSlot line old.lives
      found = w.slots line begun

      in_it : (q : ClientView R) → client_in found.session old.lives ≡ Some q → script_line (held_in found.slot q.session.slots) ≡ Some line → ⊥
      in_it q runs is =
          let theirs = line_whose stands (seat_at w.told.homes found.session) q.session.instance w.told.run line (held_in found.slot q.session.slots) is ((w.clients found.session q runs).held found.slot) begun.asked begun.is in
          let same : found.session ≡ session = sym (w.clients found.session q runs).whose ∙ ap (λ (i : Instance). i.session) (sym theirs ∙ mine) ∙ living.whose in
          let one : q ≡ c = same_Some q c (sym runs ∙ ap (λ m. client_in m old.lives) same ∙ there) in
          let go =
          let_go_runs stands (seat_at w.told.homes session) me w.told.run a.site image line (held_in found.slot c.session.slots) (ap (λ (v : ClientView R). script_line (held_in found.slot v.session.slots)) (sym one) ∙ is)
          (living.held found.slot) gone in
          gone_beside stands c living.sound (seat_at w.told.homes session) me w.told.run living.held living.first found.slot slot a.site image go.request go.is
          (ap (λ l. has_let_go a.site image (steps_of l w.told.run)) go.same ∙ gone)
          (subst (λ i. WaitsForLook stands slot a.site i c.session) (takes_own a.stage a.image image takes) (way_waits stands slot c a living.sound acts))

      by : (o : Option (ClientView R)) → client_in found.session old.lives ≡ o → script_line (held_of found.slot (session_of_client o)) ≡ Some line → ⊥
      by None none is = none-some line is
      by (Some q) runs is = in_it q runs is

  pub takes_alone : TakesAlone me a.site (op_of a) w.told.run
  takes_alone image takes line begun mine = by (has_let_go a.site image (steps_of line w.told.run)) refl
    where
      by : (b : Bool) → has_let_go a.site image (steps_of line w.told.run) ≡ b → b ≡ false
      by false is = refl
      by true gone = absurd (gone_beside_it image line takes begun mine gone)

  -- its line is the instance's
  is_mine : (asked : Asked) → asked_by r.line w.told.run ≡ Some asked → asked.who ≡ me
  is_mine asked is = ap (λ (x : Asked). x.who) (same_Some asked way.begun.asked (sym is ∙ way.begun.is)) ∙ way.mine

  module _ (d : ClientView R) (became : Goes stands slot operation result c d) (goes_on : GoesOnAs old new session c d) (at_sites : DoesAtSites does_it old.sites new.sites)
      (sound : (m : ℕ) → IsSoundIf stands (client_in m new.lives)) where
    is_fed : WayIsFed a slot a.site (op_of a) (fed.Answer told) result c d
    is_fed = subst (IsFedBy stands slot a.site (op_of a) (fed.Answer told) result c d) acts became.fed

    quiet : (x other : ℕ) → x ≢ slot → script_line (held_in x c.session.slots) ≡ Some other → IsQuiet other does_it
    quiet x other differ is =
        quiet_did other operation result
        (line_apart old new session c d goes_on slot became.slots w.apart r.line (ap script_line holds) session x other (inr differ) (ap (λ o. script_line (held_of x (session_of_client o))) there ∙ is))

    quiet_others : (m : ℕ) (q : ClientView R) → m ≢ session → client_in m old.lives ≡ Some q → (x other : ℕ) → script_line (held_in x q.session.slots) ≡ Some other → IsQuiet other does_it
    quiet_others m q differ at x other is =
        quiet_did other operation result
        (line_apart old new session c d goes_on slot became.slots w.apart r.line (ap script_line holds) m x other (inl differ) (ap (λ o. script_line (held_of x (session_of_client o))) at ∙ is))

    sound_then : IsSoundIf stands (Some d)
    sound_then = subst (IsSoundIf stands) (client_is old new session c d goes_on) (sound session)

    can_give : IsGiven (op_of a) told
    can_give = can stands old new w session slot c there a.site (op_of a) wanted (OnWay r.line) result d became at_sites sound_then

    -- ---- its line goes on, or is refused

    -- it stands at its look under the lock
    at_look : StandsAtLook w.told.homes r.line a.site w.told.run
    at_look = record {
      begun = way.begun;
      plan = (stands r.request).plan;
      led =
          subst (λ i. IsLedTo (seat_at w.told.homes i) way.begun.asked.command (steps_of r.line w.told.run) (stands r.request).plan) (sym (ap (λ (i : Instance). i.session) way.mine ∙ living.whose))
          (record { start = way.start; plan = way.plan; feds = way.feds; walk = way.walk; given = way.given; standalone = way.standalone });
      wants = subst (λ (q : Running R). is_look_at a.site (kind_asked (stands q.request).plan) ≡ true) (same_Some waiting.request r (sym waiting.runs ∙ runs)) waiting.wants;
    }
      where
        waiting : WaitsForLook stands slot a.site a.image c.session
        waiting = way_waits stands slot c a living.sound acts

    done_there : IsRightlyDone operation w.told.run
    done_there = done_so stands old new w session slot c there a.site (op_of a) wanted (OnWay r.line) result d became at_sites sound_then tt (λ asked is. sym (is_mine asked is))
        (asks_next a (way_of r.line w.told.run) stands_there, takes_behind_watch a me w.told.run (way_watched stands slot c me w.told.run living.watches a acts), takes_alone)

    due : IsDue w.told.homes does_it w.told.run
    due = by result refl
      where
        by : (x : Option Reply) → result ≡ x → IsDue w.told.homes (Did operation x) w.told.run
        by None is = (done_there, at_look)
        by (Some reply) is = (
          done_there,
          refused_on_way stands w.told.homes session slot w.told.run me living.whose c.session r runs way a (way_waits stands slot c a living.sound acts) operation refl can_give.can reply is
              (way_refused a (way_of r.line w.told.run) stands_there told reply (subst (λ x. WayComesTo a (fed.Answer told) x (slot_state slot d.slots).way) is is_fed.comes).1),
        )

    -- ---- what its slot holds

    still_held : (x : Option Reply) → result ≡ x → GoesItsWay slot x c.session d.session → IsHeldRightly stands (seat_at w.told.homes session) me (does_it ∷ w.told.run) (held_in slot d.session.slots)
    still_held (Some reply) is gives_up = subst (IsHeldRightly stands (seat_at w.told.homes session) me (does_it ∷ w.told.run)) (sym (gives_up.free (subst IsSome (sym runs) refl))) tt
    still_held None is same =
        subst (IsHeldRightly stands (seat_at w.told.homes session) me (does_it ∷ w.told.run)) (sym (ap (λ (s : SessionView R). held_in slot s.slots) same ∙ holds))
        (underway_still stands (seat_at w.told.homes session) me does_it w.told.run r
        (record { asked = way.begun.asked; is = way.begun.is; unended = ap (λ x. ends r.line (Did operation x) || has_ended r.line w.told.run) is ∙ way.begun.unended })
        (append-nil (steps_of r.line w.told.run)) way refl)

    -- and its way goes on with it
    steps_now : way_of r.line (does_it ∷ w.told.run) ≡ way_of r.line w.told.run ++ step_of operation ∷ []
    steps_now = ap (λ b. way_of r.line w.told.run ++ cond b (step_of operation ∷ []) []) (eq-eqb r.line r.line refl)

    still_on_way : (x : Option Reply) → result ≡ x → GoesItsWay slot x c.session d.session → KeepsToItsWay stands (does_it ∷ w.told.run) slot d.session.lines (slot_state slot d.slots).way (running_at slot d.session)
    still_on_way (Some reply) is gives_up =
        subst (λ o. KeepsToItsWay stands (does_it ∷ w.told.run) slot d.session.lines (slot_state slot d.slots).way (running_in o)) (sym (gives_up.free (subst IsSome (sym runs) refl))) tt
    still_on_way None is same =
        subst (λ (v : SessionView R). KeepsToItsWay stands (does_it ∷ w.told.run) slot v.lines (slot_state slot d.slots).way (running_at slot v)) (sym same)
        (subst (KeepsToItsWay stands (does_it ∷ w.told.run) slot c.session.lines (slot_state slot d.slots).way) (sym runs) (
          keeps.0,
          subst (AgreesWithWay (stands r.request) (place_of_request slot c.session.lines r) (slot_state slot d.slots).way) (sym steps_now)
              (way_goes_on a (way_of r.line w.told.run) stands_there told (stands r.request) (place_of_request slot c.session.lines r) (slot_state slot d.slots).way
              (subst (λ x. WayComesTo a (fed.Answer told) x (slot_state slot d.slots).way) is is_fed.comes)),
        ))

    line_stays : (x : Option Reply) → GoesItsWay slot x c.session d.session → x ≡ None → script_line (held_in slot d.session.slots) ≡ Some r.line
    line_stays None same none = ap (λ (s : SessionView R). script_line (held_in slot s.slots)) same ∙ ap script_line holds
    line_stays (Some reply) gives_up none = absurd (none-some reply (sym none))

    line_was : (x : Option Reply) → GoesItsWay slot x c.session d.session → (line : ℕ) → script_line (held_in slot d.session.slots) ≡ Some line → script_line (held_in slot c.session.slots) ≡ Some line
    line_was None same line is = ap (λ (s : SessionView R). script_line (held_in slot s.slots)) (sym same) ∙ is
    line_was (Some reply) gives_up line is = absurd (none-some line (sym (ap script_line (gives_up.free (subst IsSome (sym runs) refl))) ∙ is))

    still_learned : (x : Option Reply) → result ≡ x → GoesItsWay slot x c.session d.session
        → HasLearnedIf stands (does_it ∷ w.told.run) (running_at slot d.session) (knows_now stands old new w session slot c there a.site (op_of a) wanted (OnWay r.line) result d became at_sites sound_then slot)
    still_learned (Some reply) is gives_up = subst (λ o. HasLearnedIf stands (does_it ∷ w.told.run) (running_in o) (knows_now stands old new w session slot c there a.site (op_of a) wanted (OnWay r.line) result d became at_sites sound_then slot)) (sym (gives_up.free (subst IsSome (sym runs) refl))) tt
    still_learned None is same =
        subst (λ o. HasLearnedIf stands (does_it ∷ w.told.run) o (knows_now stands old new w session slot c there a.site (op_of a) wanted (OnWay r.line) result d became at_sites sound_then slot)) (sym (ap (λ (s : SessionView R). running_at slot s) same ∙ runs))
        (subst (HasLearned stands (does_it ∷ w.told.run) r) (sym knows_still)
        (learned_still stands (seat_at w.told.homes session) me does_it w.told.run r (known_in w.knows session slot)
        (record { asked = has.begun.asked; is = has.begun.is; unended = ap (λ x. ends r.line (Did operation x) || has_ended r.line w.told.run) is ∙ has.begun.unended })
        (append-nil (steps_of r.line w.told.run)) has refl))
      where
        has : HasLearned stands w.told.run r (known_in w.knows session slot)
        has = subst (λ x. HasLearnedIf stands w.told.run x (known_in w.knows session slot)) runs (living.learned slot)

        knows_still : knows_now stands old new w session slot c there a.site (op_of a) wanted (OnWay r.line) result d became at_sites sound_then slot ≡ known_in w.knows session slot
        knows_still =
            ap (λ m. knows_fed (known_in w.knows session) slot result (plan_in_slot stands (running_at slot c.session)) (fed.Answer told) m slot) acts
            ∙ ap (λ b. cond b (unless_ended result (known_in w.knows session slot)) (known_in w.knows session slot)) (eq-eqb slot slot refl) ∙ ap (λ x. unless_ended x (known_in w.knows session slot)) is

    -- who let go of a lock stands where it stood
    first_still : (x : Option Reply) → result ≡ x → GoesItsWay slot x c.session d.session → StandsFirstIf (does_it ∷ w.told.run) slot d.session.lines (running_at slot d.session)
    first_still (Some reply) is gives_up = subst (λ o. StandsFirstIf (does_it ∷ w.told.run) slot d.session.lines (running_in o)) (sym (gives_up.free (subst IsSome (sym runs) refl))) tt
    first_still None is same =
        subst (λ (v : SessionView R). StandsFirstIf (does_it ∷ w.told.run) slot v.lines (running_at slot v)) (sym same)
        (subst (StandsFirstIf (does_it ∷ w.told.run) slot c.session.lines) (sym runs)
        (λ s image gone. (subst (StandsFirstIf w.told.run slot c.session.lines) runs (living.first slot)) s image (ap (has_let_go s image) (sym (append-nil (steps_of r.line w.told.run))) ∙ gone)))

    stays_first : (x : Option Reply) → GoesItsWay slot x c.session d.session → (y : ℕ) → y ≢ slot → (s : SiteId) (image : ℕ) → StandsFirst y (lines_of c.session.lines s image) → StandsFirst y (lines_of d.session.lines s image)
    stays_first None same y apart s image first = subst (λ (v : SessionView R). StandsFirst y (lines_of v.lines s image)) (sym same) first
    stays_first (Some reply) gives_up y apart s image first =
        stands_still y (lines_of c.session.lines s image) (lines_of d.session.lines s image) (became.others y apart s image)
        (λ may. ap (λ (ls : Lines). may_pass y (ls s image)) (gives_up.left r runs) ∙ ended_may y slot (λ same. apart (sym same)) (track_of r c.session.lines) s image may) first

    living_then : IsLiving stands home session (does_it ∷ w.told.run) (knows_now stands old new w session slot c there a.site (op_of a) wanted (OnWay r.line) result d became at_sites sound_then) d
    living_then =
        living_of stands home session does_it w.told.run (λ m l. refl) (known_in w.knows session)
        (knows_now stands old new w session slot c there a.site (op_of a) wanted (OnWay r.line) result d became at_sites sound_then) slot c d living became.slots became.states became.client quiet
        sound_then (all_know stands old new w session slot c there a.site (op_of a) wanted (OnWay r.line) result d became at_sites sound_then) (still_held result refl is_fed.session) (still_on_way result refl is_fed.session)
        (others_know stands old new w session slot c there a.site (op_of a) wanted (OnWay r.line) result d became at_sites sound_then)
        (still_learned result refl is_fed.session) (is_fed.release ∙ living.releases)
        (counts_fed stands slot c me w.told.run living.watches operation result refl d became.states (λ x b on. way_ends_none a me a.site me told b.site b.image) wanted became.fed)
        (first_still result refl is_fed.session) (λ x apart s image. stays_first result is_fed.session x apart s image) became.others

    -- its line stays in its slot, unless it has its reply
    slots_then : (l : ℕ) → IsOpen l (does_it ∷ w.told.run) → (b : Bool) → (r.line == l) ≡ b → IsInSlot l new.lives
    slots_then l now true own =
        in_this_slot old new session c d goes_on slot became.slots l (line_stays result is_fed.session (unreplied result refl) ∙ ap Some (eqb-true r.line l own))
      where
        unreplied : (x : Option Reply) → result ≡ x → result ≡ None
        unreplied None is = is
        unreplied (Some reply) is = absurd (not_open l does_it w.told.run (ap (λ x. ends l (Did operation x)) is ∙ ap (λ b. b || false) own) now)
    slots_then l now false other =
        other_slots old new session c d goes_on slot became.slots l
        (λ is. true≢false (sym (eq-eqb r.line l (same_Some r.line l (sym (ap script_line holds) ∙ is))) ∙ other))
        (w.slots l (open_back l does_it w.told.run (quiet_did l operation result other) now))

    order : (x : Option Reply) → GoesItsWay slot x c.session d.session → AreWritesInOrder stands home d.session.instance (does_it ∷ w.told.run) d.session
    order None same = still_in_order stands old new w does_it due session c d there same (λ line before. refl) (λ other writer. refl)
    order (Some reply) gives_up =
        subst (λ i. AreWritesInOrder stands home i (does_it ∷ w.told.run) d.session) (sym became.client.instance)
        (given_up_order stands home me (does_it ∷ w.told.run) slot c.session d.session r runs gives_up became.slots
        (still_in_order stands old new w does_it due session c c there refl (λ line before. refl) (λ other writer. refl)))

    way_carries : IsCarried stands old new w does_it
    way_carries =
        goes_carries stands old new w does_it session c d goes_on there became.client.instance (λ m l. refl) (λ m x o. refl)
        (knows_now stands old new w session slot c there a.site (op_of a) wanted (OnWay r.line) result d became at_sites sound_then)
        (beside_now stands old new w session slot c there a.site (op_of a) wanted (OnWay r.line) result d became at_sites sound_then)
        (beside_of_others stands old new w session slot c there a.site (op_of a) wanted (OnWay r.line) result d became at_sites sound_then)
        (standing stands old new w session slot c there a.site (op_of a) wanted (OnWay r.line) result d became at_sites sound_then) due
        (whole stands old new w session slot c there a.site (op_of a) wanted (OnWay r.line) result d became at_sites sound_then)
        living_then quiet_others (apart_of old new session c d goes_on slot became.slots w.apart (line_was result is_fed.session))
        (λ l now. slots_then l now (r.line == l) refl)
        (truth_now stands old new w session slot c there a.site (op_of a) wanted (OnWay r.line) result d became at_sites sound_then)
        (truth_of_others stands old new w session slot c there a.site (op_of a) wanted (OnWay r.line) result d became at_sites sound_then)
        (sending_now stands old new w session slot c there a.site (op_of a) wanted (OnWay r.line) result d became at_sites sound_then)
        (λ calm. plain_owes operation result w.told.run (λ line. refl) (way_plain a)) (no_turn operation result w.told.run (λ line. refl)) (λ m q apart is other writer. refl) (order result is_fed.session)
        (new_now stands old new w session slot c there a.site (op_of a) wanted (OnWay r.line) result d became at_sites sound_then)
        (reads_now stands old new w session slot c there a.site (op_of a) wanted (OnWay r.line) result d became at_sites sound_then)
        (λ g strange. others_read stands old new w session slot c there a.site (op_of a) wanted (OnWay r.line) result d became at_sites sound_then g (strange slot)) (λ m q apart is.
        (refl, λ s image. others_end_none q.session.instance operation result s image (λ same. apart (sym (w.clients m q is).whose ∙ ap (λ (i : Instance). i.session) (sym same) ∙ living.whose))))

  pub way_keeps : Does stands (event.Poll session slot) does_it old new → DoesAtSites does_it old.sites new.sites → ((m : ℕ) → IsSoundIf stands (client_in m new.lives)) → IsCarried stands old new w does_it
  way_keeps does at_sites sound =
      let become = has_become stands (event.Poll session slot) does_it old new session c there (λ m. refl) (λ at o n is. is) (λ l. refl) (λ l. refl) does in
      way_carries become.after become.becomes become.goes at_sites sound

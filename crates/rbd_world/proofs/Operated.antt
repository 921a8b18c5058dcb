-- A poll that has an operation of a request itself done keeps a world sound.
use Rattle.std.proofs.Common.{◌≡◌, ◌≢◌, inl, inr, ℕ, ◌==◌, ◌||◌, Bool, cond, true, false, List, [], ◌∷◌, ◌++◌, is_some, Option, Some, None, refl, sym, ap, ◌∙◌, subst}
use Rattle.std.proofs.lemmas.Bool.{true≢false, eq-eqb, eqb-true, ne_eqb}
use Rattle.std.proofs.lemmas.List.{append-nil}
use Rattle.std.proofs.lemmas.Option.{same_Some}
use Rattle.rbd_client.specs.declared.actor.Actor.TheVariants as actor
use Rattle.rbd_client.specs.Actor.{actor_at, op_by, op_wanted}
use Rattle.rbd_client.specs.declared.slot_state.SlotState.{SlotState}
use Rattle.rbd_client.specs.Client.{ClientView, slot_state}
use Rattle.rbd_client.specs.Feeding.{IsFedBy, RequestIsFed, state_behind}
use Rattle.rbd_kinds.specs.declared.answer.Answer.{Answer}
use Rattle.rbd_kinds.specs.declared.id.Instance.{Instance}
use Rattle.rbd_kinds.specs.declared.id.SiteId.{SiteId}
use Rattle.rbd_kinds.specs.declared.machine.Fed.TheVariants as fed
use Rattle.rbd_kinds.specs.declared.operation.Op.{Op}
use Rattle.rbd_kinds.specs.declared.reply.Reply.{Reply}
use Rattle.rbd_knowledge.specs.ClientsKnowing.{known_to, knows_fed, plan_in_slot}
use Rattle.rbd_knowledge.specs.Knowing.{known_behind, unless_ended}
use Rattle.rbd_machine.specs.Answers.{CanBeFed}
use Rattle.rbd_machine.specs.Path.{Answered, IsWalk, at_operation}
use Rattle.rbd_machine.specs.Plan.{Plan, Ask, Standing, plan_after}
use Rattle.rbd_machine.specs.Refused.{IsGiven}
use Rattle.rbd_machine.specs.Standalone.{TellsStandalone}
use Rattle.rbd_machine.specs.declared.reason.Reason.{Reason}
use Rattle.rbd_slots.specs.declared.running.Occupant.{Occupant}
use Rattle.rbd_slots.specs.declared.running.Occupant.TheVariants as occupant
use Rattle.rbd_slots.specs.declared.running.Running.{Running}
use Rattle.rbd_machine.specs.Course.{PlaceInLine}
use Rattle.rbd_slots.specs.Advance.{AdvancesTo, GoesFurther, fed_by, track_of}
use Rattle.rbd_slots.specs.Track.{Track, answered_by, course_of, run as run_on}
use Rattle.rbd_slots.specs.Session.{ComesToIn, OfRunning, going_in, held_in, of_going, op_asked, look_under_lock_at, running_at, running_in, script_line}
use Rattle.rbd_slots.specs.Waits.{waits}
use Rattle.rbd_slots.proofs.LooksUnderLockStay.{feeding_may}
use Rattle.rbd_site.specs.declared.done.DoneOp.TheVariants as done
use Rattle.rbd_site.specs.Step.{answer_to}
use Rattle.rbd_stands.specs.Effect.{effect_of}
use Rattle.rbd_world.specs.declared.event.Event.TheVariants as event
use Rattle.rbd_world.specs.Order.{AreWritesInOrder, IsWriterOf}
use Rattle.rbd_world.specs.Run.{Asked, Itself, Happening, Did, Operation, asked_by, replies_to, step_of, steps_in, steps_of, way_of}
use Rattle.rbd_world.specs.Seats.{seat_at}
use Rattle.rbd_world.specs.Sound.{IsDue, IsHeldRightly, IsInSlot, IsLiving, IsOpen, IsSoundWorld, IsUnderWay, KeepsToItsWay, held_of, known_in, HasLearned, HasLearnedIf, Recalls, place_of_request}
use Rattle.rbd_world.specs.Step.{Does, DoesAtSites, Goes, IsSoundIf, next_number, operation_at, reply_at}
use Rattle.rbd_world.specs.Ways.{AgreesWithWay, LooksAtItsOwn}
use Rattle.rbd_world.specs.World.{WorldView, client_in, records_in, session_of_client, site_in}
use Rattle.rbd_world.proofs.Acting.{alone, all_know, beside_now, beside_of_others, can, done_so, knows_now, permits, sending_now, standing, truth_now, truth_of_others, whole, new_now, others_know, others_read, reads_now}
use Rattle.rbd_world.proofs.Answered.{answer_due, answer_held, answer_line, went_on, answer_learned}
use Rattle.rbd_world.proofs.Carried.{IsCarried}
use Rattle.rbd_world.proofs.Changed.{GoesOnAs, apart_of, client_is, has_become, line_apart, living_of}
use Rattle.rbd_world.proofs.GoesOn.{goes_carries}
use Rattle.rbd_world.proofs.InOrder.{came, came_further, line_stays}
use Rattle.rbd_world.proofs.Ordered.{did_order, in_turn}
use Rattle.rbd_world.proofs.OrderedWorld.{running_line}
use Rattle.rbd_world.proofs.Owes.{own_owes}
use Rattle.rbd_world.proofs.Quiet.{IsQuiet, quiet_did}
use Rattle.rbd_world.proofs.Slots.{in_this_slot, not_open, open_back, other_slots}
use Rattle.rbd_world.proofs.Closing.{first_behind, ways_spared}
use Rattle.rbd_world.proofs.StaysFirst.{drops_first, stands_still}
use Rattle.rbd_world.proofs.Unowned.{lets_go_image, lets_go_there}
use Rattle.rbd_world.proofs.Watching.{counts_fed, ends_own_is, others_end_none}
use Rattle.rbd_world.proofs.Ways.{goes_on_itself, own_behind, way_is_over}
use Rattle.rbd_world.specs.Closes.{StandsFirst, StandsFirstIf, has_let_go, lets_lock_go}
use Rattle.rbd_slots.specs.Lines.{lines_of}
use Rattle.rbd_client.specs.declared.slot_state.Way.TheVariants as way_of_slot
use Rattle.rbd_lock.specs.declared.acquire.Acquire.{Acquire}
use Rattle.rbd_lock.specs.Steps.{lock_drop}
use Rattle.rbd_machine.specs.Permits.{Permits}
use Rattle.rbd_kinds.proofs.Images.{same_site_is}
use Rattle.rbd_world.specs.Watched.{unwatches_by}

module _ {R : Type 0} (stands : R → Standing) (old new : WorldView R) (w : IsSoundWorld stands old) (session slot : ℕ) (c : ClientView R) (there : client_in session old.lives ≡ Some c)
    (r : Running R) (holds : held_in slot c.session.slots ≡ Some (occupant.Running r)) (acts : actor_at stands slot c ≡ actor.Request) (goes : waits slot (track_of r c.session.lines) ≡ false)
    (s : SiteId) (why : Reason) (o : Op) (next : Answer → Plan) (asks : (stands r.request).plan ≡ Ask s why o next) where
  abbrev me : Instance
  me = c.session.instance

  abbrev home : SiteId
  home = w.told.homes session

  abbrev a : Answer
  a = answer_to (records_in s old.sites) me o

  abbrev result : Option Reply
  result = reply_at (at_operation (stands r.request).labels (next a))

  abbrev operation : Operation
  operation = operation_at (site_in s old.sites) me (Itself r.line) s o

  abbrev does_it : Happening
  does_it = Did operation result

  wanted : op_wanted stands slot c ≡ Some (s, o)
  wanted =
      ap (op_by stands slot c.session) acts ∙ ap (λ h. of_going stands op_asked (going_in slot h c.session.lines)) holds
      ∙ ap (λ b. of_going stands op_asked (cond b None (Some r))) goes ∙ ap op_asked asks

  living : IsLiving stands home session w.told.run (known_in w.knows session) c
  living = w.clients session c there

  runs : running_at slot c.session ≡ Some r
  runs = ap running_in holds

  way : IsUnderWay stands (seat_at w.told.homes session) me w.told.run r
  way = subst (IsHeldRightly stands (seat_at w.told.homes session) me w.told.run) holds (living.held slot)

  -- its way goes with its slot's state
  keeps : KeepsToItsWay stands w.told.run slot c.session.lines (slot_state slot c.slots).way (Some r)
  keeps = subst (KeepsToItsWay stands w.told.run slot c.session.lines (slot_state slot c.slots).way) runs (living.ways slot)

  -- its line is the instance's
  is_mine : (asked : Asked) → asked_by r.line w.told.run ≡ Some asked → asked.who ≡ me
  is_mine asked is = ap (λ (x : Asked). x.who) (same_Some asked way.begun.asked (sym is ∙ way.begun.is)) ∙ way.mine

  -- what it knows its command learned
  has : HasLearned stands w.told.run r (known_in w.knows session slot)
  has = subst (λ x. HasLearnedIf stands w.told.run x (known_in w.knows session slot)) runs (living.learned slot)

  recalls : Recalls r.line s o (known_to (known_in w.knows session slot) (actor_at stands slot c)) w.told.run
  recalls = record {
    begun = has.begun;
    seat = has.seat;
    start = has.start;
    plan = has.plan;
    feds = has.feds;
    why = why;
    next = next;
    walk = subst (IsWalk has.start.labels has.start.plan has.feds (steps_of r.line w.told.run)) asks has.walk;
    known = ap (known_to (known_in w.knows session slot)) acts ∙ has.known;
  }

  module _ (d : ClientView R) (became : Goes stands slot operation result c d) (goes_on : GoesOnAs old new session c d) (at_sites : DoesAtSites does_it old.sites new.sites)
      (sound : (m : ℕ) → IsSoundIf stands (client_in m new.lives)) where
    is_fed : RequestIsFed stands slot s o (fed.Answer a) result c d
    is_fed = subst (IsFedBy stands slot s o (fed.Answer a) result c d) acts became.fed

    comes : ComesToIn stands slot c.session.lines (fed.Answer a) result r (held_in slot d.session.slots) d.session.lines
    comes = subst (OfRunning (λ q. ComesToIn stands slot c.session.lines (fed.Answer a) result q (held_in slot d.session.slots) d.session.lines)) holds is_fed.fed

    quiet : (x other : ℕ) → x ≢ slot → script_line (held_in x c.session.slots) ≡ Some other → IsQuiet other does_it
    quiet x other differ is =
        quiet_did other operation result
        (ap (λ b. b || false) (line_apart old new session c d goes_on slot became.slots w.apart r.line (ap script_line holds) session x other (inr differ) (ap (λ o. script_line (held_of x (session_of_client o))) there ∙ is)))

    quiet_others : (m : ℕ) (q : ClientView R) → m ≢ session → client_in m old.lives ≡ Some q → (x other : ℕ) → script_line (held_in x q.session.slots) ≡ Some other → IsQuiet other does_it
    quiet_others m q differ at x other is =
        quiet_did other operation result
        (ap (λ b. b || false) (line_apart old new session c d goes_on slot became.slots w.apart r.line (ap script_line holds) m x other (inl differ) (ap (λ o. script_line (held_of x (session_of_client o))) at ∙ is)))

    sound_then : IsSoundIf stands (Some d)
    sound_then = subst (IsSoundIf stands) (client_is old new session c d goes_on) (sound session)

    can_give : IsGiven o a
    can_give = can stands old new w session slot c there s o wanted (Itself r.line) result d became at_sites sound_then

    tells_alone : TellsStandalone a
    tells_alone = alone stands old new w session slot c there s o wanted (Itself r.line) result d became at_sites sound_then

    due : IsDue w.told.homes does_it w.told.run
    due =
        answer_due stands w.told.homes session slot w.told.run me living.whose r way s why o next asks a can_give tells_alone (next_number (site_in s old.sites)) (effect_of (records_in s old.sites) (done.Op o) a)
        (done_so stands old new w session slot c there s o wanted (Itself r.line) result d became at_sites sound_then recalls (λ asked is. sym (is_mine asked is))
        (way_is_over stands slot c living.sound r runs (way_of r.line w.told.run) keeps.1 acts))

    -- its way isn't begun, or over, and it is past its look under the lock then
    still_over : (n : Option (Occupant R)) → ComesToIn stands slot c.session.lines (fed.Answer a) result r n d.session.lines
        → KeepsToItsWay stands (does_it ∷ w.told.run) slot d.session.lines (slot_state slot d.slots).way (running_in n)
    still_over None behind = tt
    still_over (Some (occupant.Refused line refusal)) behind = absurd behind
    still_over (Some (occupant.Running q)) behind =
        subst (λ (st : Standing). LooksAtItsOwn (place_of_request slot d.session.lines q) st.plan × AgreesWithWay st (place_of_request slot d.session.lines q) (slot_state slot d.slots).way (way_of q.line w.told.run ++ []))
        (sym on.request)
        (subst (λ place. LooksAtItsOwn place left.plan × AgreesWithWay left place (slot_state slot d.slots).way (way_of q.line w.told.run ++ [])) (sym (ap (λ (t : Track). (course_of slot t).place) on.track)) (
          own_behind stands slot c living.sound r runs (seat_at w.told.homes session) me w.told.run way a fed_so s why o next asks keeps.0,
          subst (λ (xs : List Answered). AgreesWithWay left place_then (slot_state slot d.slots).way xs) (sym (append-nil (way_of r.line w.told.run)) ∙ ap (λ l. way_of l w.told.run ++ []) (sym on.line))
              (subst (λ (s : SlotState). AgreesWithWay left place_then s.way (way_of r.line w.told.run))
              (sym (is_fed.state ∙ ap (λ x. state_behind (is_some x) (is_some (look_under_lock_at stands slot c.session)) (slot_state slot c.slots)) behind.0))
              (goes_on_itself stands slot c living.sound r runs (seat_at w.told.homes session) me w.told.run way a fed_so (way_of r.line w.told.run) keeps.0 keeps.1 acts
              (subst (OfRunning (λ q. waits slot (track_of q c.session.lines) ≡ false)) (sym holds) goes) s why o next asks on.asks)),
        ))
      where
        left : Standing
        left = record { labels = (stands r.request).labels; plan = at_operation (stands r.request).labels (next a) }

        after : Track
        after = run_on slot (next a) (answered_by slot r.extent (track_of r c.session.lines) s o a)

        place_then : Option PlaceInLine
        place_then = (course_of slot after).place

        fed_so : CanBeFed (stands r.request).plan (fed.Answer a)
        fed_so = subst (λ p. CanBeFed p (fed.Answer a)) (sym asks) can_give.can

        on : GoesFurther stands slot left after result r q d.session.lines
        on =
            came_further stands slot (stands r.request).labels (at_operation (stands r.request).labels (next a)) after result r q d.session.lines behind.0
            (subst
            (λ p. AdvancesTo stands slot (stands r.request).labels (at_operation (stands r.request).labels (plan_after p (fed.Answer a)))
            (run_on slot (plan_after p (fed.Answer a)) (fed_by slot r.extent (track_of r c.session.lines) p (fed.Answer a))) result r q d.session.lines) asks behind.1)

    -- it knows then what it was taught
    knows_behind : result ≡ None → knows_now stands old new w session slot c there s o wanted (Itself r.line) result d became at_sites sound_then slot
        ≡ known_behind (known_in w.knows session slot) (Ask s why o next) (fed.Answer a)
    knows_behind none =
        ap (λ m. knows_fed (known_in w.knows session) slot result (plan_in_slot stands (running_at slot c.session)) (fed.Answer a) m slot) acts
        ∙ ap (λ b. cond b (unless_ended result (known_behind (known_in w.knows session slot) (plan_in_slot stands (running_at slot c.session)) (fed.Answer a))) (known_in w.knows session slot)) (eq-eqb slot slot refl)
        ∙ ap (λ x. unless_ended x (known_behind (known_in w.knows session slot) (plan_in_slot stands (running_at slot c.session)) (fed.Answer a))) none
        ∙ ap (λ p. known_behind (known_in w.knows session slot) p (fed.Answer a)) (ap (plan_in_slot stands) runs ∙ asks)

    learned_then : (n : Option (Occupant R)) → ComesToIn stands slot c.session.lines (fed.Answer a) result r n d.session.lines
        → HasLearnedIf stands (does_it ∷ w.told.run) (running_in n) (knows_now stands old new w session slot c there s o wanted (Itself r.line) result d became at_sites sound_then slot)
    learned_then None behind = tt
    learned_then (Some (occupant.Refused line refusal)) behind = absurd behind
    learned_then (Some (occupant.Running q)) behind =
        subst (HasLearned stands (does_it ∷ w.told.run) q) (sym (knows_behind behind.0))
        (subst (λ x. HasLearned stands (Did operation x ∷ w.told.run) q (known_behind (known_in w.knows session slot) (Ask s why o next) (fed.Answer a))) (sym behind.0)
        (answer_learned stands w.told.homes session slot w.told.run me living.whose r way s why o next asks a can_give tells_alone (next_number (site_in s old.sites)) (effect_of (records_in s old.sites) (done.Op o) a)
        (known_in w.knows session slot) has c.session.lines d.session.lines q
        (subst (λ x. ComesToIn stands slot c.session.lines (fed.Answer a) x r (Some (occupant.Running q)) d.session.lines) behind.0 behind)))

    -- where it ends a watch, nobody is on its way to that lock
    spares : (x : ℕ) (b : Acquire) → (slot_state x c.slots).way ≡ way_of_slot.On b → unwatches_by me b.site b.image does_it ≡ false
    spares x b on = by (unwatches_by me b.site b.image does_it) refl
      where
        by : (t : Bool) → unwatches_by me b.site b.image does_it ≡ t → t ≡ false
        by false is = refl
        by true is =
            let own = ends_own_is me s me o a b.site b.image is in
            absurd
            (ways_spared stands c living.sound (seat_at w.told.homes session) me w.told.run living.held living.first slot x s b.image b (wanted ∙ ap (λ q. Some (s, q)) own.is) on (sym own.here) refl)

    -- who drops a lock stands first in the image's line
    drops : (t : SiteId) (i : ℕ) → lets_lock_go s o a t i ≡ true → StandsFirst slot (lines_of c.session.lines t i)
    drops t i lets =
        let here : t ≡ s = same_site_is t s (lets_go_there s o a t i lets) in
        let is : o ≡ lock_drop i = lets_go_image s o a i (subst (λ u. lets_lock_go s o a u i ≡ true) here lets) in
        subst (λ u. StandsFirst slot (lines_of c.session.lines u i)) (sym here)
        (drops_first stands c living.sound (known_in w.knows session) living.know slot s i (sym (ap (op_by stands slot c.session) acts) ∙ wanted ∙ ap (λ q. Some (s, q)) is)
        (subst (λ q. Permits (known_in w.knows session slot) s q) is (subst (λ m. Permits (known_to (known_in w.knows session slot) m) s o) acts (permits stands old new w session slot c there s o wanted))))

    first_then : (n : Option (Occupant R)) → ComesToIn stands slot c.session.lines (fed.Answer a) result r n d.session.lines → StandsFirstIf (does_it ∷ w.told.run) slot d.session.lines (running_in n)
    first_then None behind = tt
    first_then (Some (occupant.Refused line refusal)) behind = absurd behind
    first_then (Some (occupant.Running q)) behind =
        let on = went_on stands slot (stands r.request).labels _ _ result r q d.session.lines behind.0 behind.1 in
        subst (λ l. (t : SiteId) (i : ℕ) → has_let_go t i (steps_of l (does_it ∷ w.told.run)) ≡ true → StandsFirst slot (lines_of d.session.lines t i)) (sym on.line)
        (λ t i gone.
        first_behind stands (seat_at w.told.homes session) me w.told.run slot r way s why o next asks a c.session.lines d.session.lines result q behind drops (subst (StandsFirstIf w.told.run slot c.session.lines) runs (living.first slot)) t i
        (ap (λ b. has_let_go t i (steps_of r.line w.told.run ++ cond b (step_of operation ∷ []) [])) (sym (eq-eqb r.line r.line refl)) ∙ gone))

    stays_first : (x : ℕ) → x ≢ slot → (t : SiteId) (i : ℕ) → StandsFirst x (lines_of c.session.lines t i) → StandsFirst x (lines_of d.session.lines t i)
    stays_first x apart t i first =
        stands_still x (lines_of c.session.lines t i) (lines_of d.session.lines t i) (became.others x apart t i)
        (feeding_may x slot (λ same. apart (sym same)) stands t i c.session.lines d.session.lines (fed.Answer a) result r (held_in slot d.session.slots) comes) first

    living_then : IsLiving stands home session (does_it ∷ w.told.run) (knows_now stands old new w session slot c there s o wanted (Itself r.line) result d became at_sites sound_then) d
    living_then =
        living_of stands home session does_it w.told.run (λ m l. refl) (known_in w.knows session)
        (knows_now stands old new w session slot c there s o wanted (Itself r.line) result d became at_sites sound_then) slot c d living became.slots became.states became.client quiet
        sound_then (all_know stands old new w session slot c there s o wanted (Itself r.line) result d became at_sites sound_then)
        (answer_held stands w.told.homes session slot w.told.run me living.whose r way s why o next asks a can_give tells_alone (next_number (site_in s old.sites)) (effect_of (records_in s old.sites) (done.Op o) a)
        result c.session.lines d.session.lines (held_in slot d.session.slots) comes)
        (still_over (held_in slot d.session.slots) comes)
        (others_know stands old new w session slot c there s o wanted (Itself r.line) result d became at_sites sound_then)
        (learned_then (held_in slot d.session.slots) comes) (is_fed.release ∙ living.releases)
        (counts_fed stands slot c me w.told.run living.watches operation result refl d became.states spares wanted became.fed)
        (first_then (held_in slot d.session.slots) comes) stays_first became.others

    -- its line stays in its slot, unless it has its reply
    slots_then : (l : ℕ) → IsOpen l (does_it ∷ w.told.run) → (b : Bool) → (r.line == l) ≡ b → IsInSlot l new.lives
    slots_then l now true own =
        in_this_slot old new session c d goes_on slot became.slots l
        (line_stays stands slot c.session.lines (fed.Answer a) result r (held_in slot d.session.slots) d.session.lines comes (unreplied result refl) ∙ ap Some (eqb-true r.line l own))
      where
        unreplied : (x : Option Reply) → result ≡ x → result ≡ None
        unreplied None is = is
        unreplied (Some reply) is = absurd (not_open l does_it w.told.run (ap (λ x. replies_to l (Did operation x) || false) is ∙ ap (λ b. (b || false) || false) own) now)
    slots_then l now false other =
        other_slots old new session c d goes_on slot became.slots l
        (λ is. true≢false (sym (eq-eqb r.line l (same_Some r.line l (sym (ap script_line holds) ∙ is))) ∙ other))
        (w.slots l (open_back l does_it w.told.run (quiet_did l operation result (ap (λ b. b || false) other)) now))

    lines_apart : (x : ℕ) (q : Running R) → x ≢ slot → running_at x c.session ≡ Some q → (r.line == q.line) ≡ false
    lines_apart x q differ is =
        line_apart old new session c d goes_on slot became.slots w.apart r.line (ap script_line holds) session x q.line (inr differ)
        (ap (λ v. script_line (held_of x (session_of_client v))) there ∙ running_line stands (held_in x c.session.slots) q is)

    -- no other instance's write has a step
    foreign : (m : ℕ) (q : ClientView R) → m ≢ session → client_in m old.lives ≡ Some q → (other : ℕ) → IsWriterOf q.session.instance other (does_it ∷ w.told.run) → steps_in other does_it ≡ []
    foreign m q differ at other writer =
        ap (λ b. cond b (step_of operation ∷ []) [])
        (ne_eqb r.line other
        (λ same. differ
        (sym (w.clients m q at).whose ∙ ap (λ (i : Instance). i.session) (sym writer.mine ∙ is_mine writer.asked (ap (λ l. asked_by l w.told.run) same ∙ writer.is)) ∙ living.whose)))

    order : AreWritesInOrder stands home d.session.instance (does_it ∷ w.told.run) d.session
    order =
        subst (λ i. AreWritesInOrder stands home i (does_it ∷ w.told.run) d.session) (sym became.client.instance)
        (did_order stands w.told.homes home me slot w.told.run c.session d.session r runs living.sound.session goes s why o next asks a result (next_number (site_in s old.sites))
        (effect_of (records_in s old.sites) (done.Op o) a) w.told.order (w.in_order session c there) became.others became.slots lines_apart due w.told.right
        (came stands slot c.session d.session r s why o next a result asks (held_in slot d.session.slots) refl comes))

    did_carries : IsCarried stands old new w does_it
    did_carries =
        goes_carries stands old new w does_it session c d goes_on there became.client.instance (λ m l. refl) (λ m x o. refl)
        (knows_now stands old new w session slot c there s o wanted (Itself r.line) result d became at_sites sound_then)
        (beside_now stands old new w session slot c there s o wanted (Itself r.line) result d became at_sites sound_then)
        (beside_of_others stands old new w session slot c there s o wanted (Itself r.line) result d became at_sites sound_then)
        (standing stands old new w session slot c there s o wanted (Itself r.line) result d became at_sites sound_then) due
        (whole stands old new w session slot c there s o wanted (Itself r.line) result d became at_sites sound_then)
        living_then quiet_others
        (apart_of old new session c d goes_on slot became.slots w.apart
        (λ line is. ap script_line holds ∙ ap Some
        (answer_line stands w.told.homes session slot w.told.run me living.whose r way s why o next asks a can_give tells_alone (next_number (site_in s old.sites)) (effect_of (records_in s old.sites) (done.Op o) a)
        result c.session.lines d.session.lines (held_in slot d.session.slots) comes line is)))
        (λ l now. slots_then l now (r.line == l) refl)
        (truth_now stands old new w session slot c there s o wanted (Itself r.line) result d became at_sites sound_then)
        (truth_of_others stands old new w session slot c there s o wanted (Itself r.line) result d became at_sites sound_then)
        (sending_now stands old new w session slot c there s o wanted (Itself r.line) result d became at_sites sound_then)
        (λ calm. own_owes stands old w calm.1 session slot c there r holds s why o next asks result can_give)
        (in_turn stands w.told.homes home me slot w.told.run c.session d.session r runs living.sound.session goes s why o next asks a result (next_number (site_in s old.sites))
        (effect_of (records_in s old.sites) (done.Op o) a) w.told.order (w.in_order session c there) is_mine)
        foreign order (new_now stands old new w session slot c there s o wanted (Itself r.line) result d became at_sites sound_then)
        (reads_now stands old new w session slot c there s o wanted (Itself r.line) result d became at_sites sound_then)
        (λ g strange. others_read stands old new w session slot c there s o wanted (Itself r.line) result d became at_sites sound_then g (strange slot))
        (λ m q apart is.
        (refl, λ t image. others_end_none q.session.instance operation result t image (λ same. apart (sym (w.clients m q is).whose ∙ ap (λ (i : Instance). i.session) (sym same) ∙ living.whose))))

  pub did_keeps : Does stands (event.Poll session slot) does_it old new → DoesAtSites does_it old.sites new.sites → ((m : ℕ) → IsSoundIf stands (client_in m new.lives)) → IsCarried stands old new w does_it
  did_keeps does at_sites sound =
      let become = has_become stands (event.Poll session slot) does_it old new session c there (λ m. refl) (λ at o n is. is) (λ l. refl) (λ l. refl) does in
      did_carries become.after become.becomes become.goes at_sites sound

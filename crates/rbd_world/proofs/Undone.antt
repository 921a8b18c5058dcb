-- A step that is refused memory leaves a sound world sound.
use Rattle.std.proofs.Common.{◌≡◌, ◌≤◌, ◌<◌, ℕ, List, length, is_some, Option, Some, None, refl, sym, ap, ◌∙◌, subst}
use Rattle.std.proofs.lemmas.Option.{none-some, same_Some}
use Rattle.rbd_client.specs.declared.slot_state.Way.{Way}
use Rattle.rbd_client.specs.Client.{ClientView, slot_state}
use Rattle.rbd_client.specs.Feeding.{IsClientAlike}
use Rattle.rbd_client.specs.Sound.{IsSoundClient}
use Rattle.rbd_interference.specs.Exact.{IsExactBut, IsOwed}
use Rattle.rbd_knowledge.specs.Truth.{IsTrueOf}
use Rattle.rbd_knowledge.proofs.Calls.{readied_is_true}
use Rattle.rbd_kinds.specs.declared.id.Instance.{Instance}
use Rattle.rbd_kinds.specs.declared.id.SiteId.{SiteId}
use Rattle.rbd_knowledge.specs.Calm.{IsCalmRequest}
use Rattle.rbd_knowledge.proofs.Behind.{alike_know}
use Rattle.rbd_lock.specs.declared.lock_state.LockState.{LockState}
use Rattle.rbd_machine.specs.Knowledge.{Knowledge}
use Rattle.rbd_machine.specs.Path.{IsWalk}
use Rattle.rbd_machine.specs.Plan.{Standing}
use Rattle.rbd_machine.specs.Refused.{AreGiven}
use Rattle.rbd_interference.specs.Beside.{AreBeside}
use Rattle.rbd_interference.specs.Truth.{AreMapped, AreRanked, AreStandalone}
use Rattle.rbd_slots.specs.declared.running.Occupant.{Occupant}
use Rattle.rbd_slots.specs.declared.running.Occupant.TheVariants as occupant
use Rattle.rbd_slots.specs.declared.running.Running.{Running}
use Rattle.rbd_slots.specs.Advance.{IsSameStand}
use Rattle.rbd_slots.specs.Session.{IsAlikeIn, held_in, running_at, running_in, script_line}
use Rattle.rbd_site.specs.InForm.{AreInForm}
use Rattle.rbd_world.specs.declared.sites.Sites.{Sites}
use Rattle.rbd_world.specs.LetGo.{release_of}
use Rattle.rbd_world.specs.Owing.{HasNoHindrance, owed_in}
use Rattle.rbd_world.specs.Owning.{CountsItsLocks, owns_in}
use Rattle.rbd_world.specs.Run.{Happening, AreCalls, asked_by, log_of, records_after, steps_of, way_of}
use Rattle.rbd_machine.specs.Standalone.{TellAllStandalone}
use Rattle.rbd_machine.specs.declared.seat.Seat.{Seat}
use Rattle.rbd_world.specs.Seats.{seat_of_home}
use Rattle.rbd_world.specs.Sound.{HasLearnedIf, AreLivesOf, AreStrangers, Holder, InSlot, Sending, IsHeldRightly, IsLiving, IsRunning, IsSoundWorld, IsUnderWay, KeepsToItsWay, MayStillCome, has_ended, held_of, known_in, line_at, place_of_request}
use Rattle.rbd_world.specs.Step.{AreLivesAlike, IsAlikeOf, IsClientAlikeIf, IsSoundIf, IsUndone}
use Rattle.rbd_world.specs.Watched.{CountsItsWatches}
use Rattle.rbd_world.specs.Ways.{AgreesWithWay, LooksAtItsOwn}
use Rattle.rbd_world.specs.World.{LateView, LivesView, WorldView, client_in, late_at, late_of, lives_in, records_in, running_of, sent_in, session_of_client, site_in}
use Rattle.rbd_world.proofs.OrderedWorld.{alike_order_if}
use Rattle.rbd_world.proofs.Slots.{same_slots}
use Rattle.rbd_world.proofs.Watching.{counts_alike}
use Rattle.rbd_world.specs.Closes.{StandsFirst, StandsFirstIf, has_let_go}
use Rattle.rbd_slots.specs.Lines.{LinesView, lines_of}
use Rattle.rbd_queue.specs.Line.{member_of}
use Rattle.rbd_slots.specs.Track.{Lines, line_in, place_in}

module _ {R : Type 0} (stands : R → Standing) where
  -- ---- a slot

  alike_line : (o p : Option (Occupant R)) → IsAlikeIn stands o p → script_line p ≡ script_line o
  alike_line (Some (occupant.Running r)) (Some (occupant.Running q)) alike = ap Some alike.line
  alike_line (Some (occupant.Running r)) (Some (occupant.Refused line refusal)) alike = ap script_line alike
  alike_line (Some (occupant.Running r)) None alike = ap script_line alike
  alike_line (Some (occupant.Refused line refusal)) p alike = ap script_line alike
  alike_line None p alike = ap script_line alike

  module _ (seat : Seat) (who : Instance) (run : List Happening) where
    -- its request is under way as it was, whatever it is ready for
    same_way : (r q : Running R) → IsSameStand stands r q → IsUnderWay stands seat who run r → IsUnderWay stands seat who run q
    same_way r q same way = record {
      begun = record {
        asked = way.begun.asked;
        is = subst (λ line. asked_by line run ≡ Some way.begun.asked) (sym same.line) way.begun.is;
        unended = ap (λ line. has_ended line run) same.line ∙ way.begun.unended;
      };
      mine = way.mine;
      start = way.start;
      plan = way.plan;
      labels = ap (λ (s : Standing). s.labels) same.same ∙ way.labels;
      feds = way.feds;
      walk =
          subst (λ line. IsWalk way.start.labels way.start.plan way.feds (steps_of line run) (stands q.request).plan) (sym same.line)
          (subst (λ (s : Standing). IsWalk way.start.labels way.start.plan way.feds (steps_of r.line run) s.plan) (sym same.same) way.walk);
      given = subst (λ line. AreGiven (steps_of line run)) (sym same.line) way.given;
      standalone = subst (λ line. TellAllStandalone (steps_of line run)) (sym same.line) way.standalone;
      calm = λ looks. let calm = way.calm looks in (subst IsCalmRequest (sym same.same) calm.0, same.place ∙ calm.1);
    }

    alike_held : (o p : Option (Occupant R)) → IsAlikeIn stands o p → IsHeldRightly stands seat who run o → IsHeldRightly stands seat who run p
    alike_held (Some (occupant.Running r)) (Some (occupant.Running q)) alike held = same_way r q alike held
    alike_held (Some (occupant.Running r)) (Some (occupant.Refused line refusal)) alike held = subst (IsHeldRightly stands seat who run) (sym alike) held
    alike_held (Some (occupant.Running r)) None alike held = subst (IsHeldRightly stands seat who run) (sym alike) held
    alike_held (Some (occupant.Refused line refusal)) p alike held = subst (IsHeldRightly stands seat who run) (sym alike) held
    alike_held None p alike held = subst (IsHeldRightly stands seat who run) (sym alike) held

  -- and its way stands where it did
  alike_ways : (run : List Happening) (slot : ℕ) (old new : LinesView) → lines_of new ≡ lines_of old → (w : Way) (o p : Option (Occupant R)) → IsAlikeIn stands o p
      → KeepsToItsWay stands run slot old w (running_in o) → KeepsToItsWay stands run slot new w (running_in p)
  alike_ways run slot old new lines w (Some (occupant.Running r)) (Some (occupant.Running q)) alike keeps =
      subst (λ (s : Standing). LooksAtItsOwn (place_of_request slot new q) s.plan × AgreesWithWay s (place_of_request slot new q) w (way_of q.line run)) (sym alike.same)
      (subst (λ line. LooksAtItsOwn (place_of_request slot new q) (stands r.request).plan × AgreesWithWay (stands r.request) (place_of_request slot new q) w (way_of line run)) (sym alike.line)
      (subst (λ place. LooksAtItsOwn place (stands r.request).plan × AgreesWithWay (stands r.request) place w (way_of r.line run)) (sym place_is) keeps))
    where
      place_is : place_of_request slot new q ≡ place_of_request slot old r
      place_is =
          ap (λ p. place_in p (member_of slot (line_in p (lines_of new)))) alike.place ∙ ap (λ (ls : Lines). place_in r.place (member_of slot (line_in r.place ls))) lines
  alike_ways run slot old new lines w (Some (occupant.Running r)) (Some (occupant.Refused line refusal)) alike keeps = tt
  alike_ways run slot old new lines w (Some (occupant.Running r)) None alike keeps = tt
  alike_ways run slot old new lines w (Some (occupant.Refused line refusal)) p alike keeps = subst (λ x. KeepsToItsWay stands run slot new w (running_in x)) (sym alike) tt
  alike_ways run slot old new lines w None p alike keeps = subst (λ x. KeepsToItsWay stands run slot new w (running_in x)) (sym alike) tt

  alike_learned : (run : List Happening) (k : Knowledge) (o p : Option (Occupant R)) → IsAlikeIn stands o p → HasLearnedIf stands run (running_in o) k → HasLearnedIf stands run (running_in p) k
  alike_learned run k (Some (occupant.Running r)) (Some (occupant.Running q)) same has = record {
    begun = record {
      asked = has.begun.asked;
      is = subst (λ line. asked_by line run ≡ Some has.begun.asked) (sym same.line) has.begun.is;
      unended = ap (λ line. has_ended line run) same.line ∙ has.begun.unended;
    };
    seat = has.seat;
    start = has.start;
    plan = has.plan;
    labels = ap (λ (s : Standing). s.labels) same.same ∙ has.labels;
    feds = has.feds;
    walk =
        subst (λ line. IsWalk has.start.labels has.start.plan has.feds (steps_of line run) (stands q.request).plan) (sym same.line)
        (subst (λ (s : Standing). IsWalk has.start.labels has.start.plan has.feds (steps_of r.line run) s.plan) (sym same.same) has.walk);
    known = has.known;
  }
  alike_learned run k (Some (occupant.Running r)) (Some (occupant.Refused line refusal)) alike has = tt
  alike_learned run k (Some (occupant.Running r)) None alike has = tt
  alike_learned run k (Some (occupant.Refused line refusal)) p alike has = subst (λ x. HasLearnedIf stands run (running_in x) k) (sym alike) has
  alike_learned run k None p alike has = subst (λ x. HasLearnedIf stands run (running_in x) k) (sym alike) has

  alike_first : (run : List Happening) (slot : ℕ) (old new : LinesView) → lines_of new ≡ lines_of old → (o p : Option (Occupant R)) → IsAlikeIn stands o p
      → StandsFirstIf run slot old (running_in o) → StandsFirstIf run slot new (running_in p)
  alike_first run slot old new lines (Some (occupant.Running r)) (Some (occupant.Running q)) same first =
      λ s image gone. subst (λ (ls : Lines). StandsFirst slot (ls s image)) (sym lines) (first s image (ap (λ line. has_let_go s image (steps_of line run)) (sym same.line) ∙ gone))
  alike_first run slot old new lines (Some (occupant.Running r)) (Some (occupant.Refused line refusal)) alike first = tt
  alike_first run slot old new lines (Some (occupant.Running r)) None alike first = tt
  alike_first run slot old new lines (Some (occupant.Refused line refusal)) p alike first = subst (λ x. StandsFirstIf run slot new (running_in x)) (sym alike) tt
  alike_first run slot old new lines None p alike first = subst (λ x. StandsFirstIf run slot new (running_in x)) (sym alike) tt

  -- ---- a client

  alike_client : (home : SiteId) (session : ℕ) (run : List Happening) (knows : ℕ → Knowledge) (c d : ClientView R) → IsClientAlike stands c d → IsSoundClient stands d
      → IsLiving stands home session run knows c → IsLiving stands home session run knows d
  alike_client home session run knows c d alike sound living = record {
    whose = ap (λ (i : Instance). i.session) alike.session.instance ∙ living.whose;
    runs = subst (λ i. IsRunning i run) (sym alike.session.instance) living.runs;
    at_home = alike.session.home ∙ living.at_home;
    sound = sound;
    know = alike_know stands c.session d.session knows alike.session living.know;
    held = λ slot.
        subst (λ i. IsHeldRightly stands (seat_of_home session home) i run (held_in slot d.session.slots)) (sym alike.session.instance)
        (alike_held (seat_of_home session home) c.session.instance run (held_in slot c.session.slots) (held_in slot d.session.slots) (alike.session.slots slot) (living.held slot));
    ways = λ slot.
        subst (λ ss. KeepsToItsWay stands run slot d.session.lines (slot_state slot ss).way (running_at slot d.session)) (sym alike.slots)
        (alike_ways run slot c.session.lines d.session.lines alike.session.lines (slot_state slot c.slots).way (held_in slot c.session.slots) (held_in slot d.session.slots) (alike.session.slots slot) (living.ways slot));
    learned = λ slot. alike_learned run (knows slot) (held_in slot c.session.slots) (held_in slot d.session.slots) (alike.session.slots slot) (living.learned slot);
    releases = alike.release ∙ living.releases ∙ ap (λ i. release_of i run) (sym alike.session.instance);
    watches =
        subst (λ i. CountsItsWatches i run d) (sym alike.session.instance)
        (counts_alike c.session.instance run c d (λ s image. ap (λ (l : LockState). l.watched) (alike.locks s image)) alike.slots living.watches);
    first = λ slot. alike_first run slot c.session.lines d.session.lines alike.session.lines (held_in slot c.session.slots) (held_in slot d.session.slots) (alike.session.slots slot) (living.first slot);
  }

  -- of one that is there, or of none
  alike_if : (P : ClientView R → Type 0) (o n : Option (ClientView R)) → IsClientAlikeIf stands o n → IsSoundIf stands n
      → ((c d : ClientView R) → o ≡ Some c → IsClientAlike stands c d → IsSoundClient stands d → P d) → (d : ClientView R) → n ≡ Some d → P d
  alike_if P None n alike sound goes d is = absurd (none-some d (sym alike ∙ is))
  alike_if P (Some c) None alike sound goes d is = absurd alike
  alike_if P (Some c) (Some e) alike sound goes d is = subst P (same_Some e d is) (goes c e refl alike sound)

  same_none : (o n : Option (ClientView R)) → IsClientAlikeIf stands o n → n ≡ None → o ≡ None
  same_none None n alike none = refl
  same_none (Some c) None alike none = absurd alike
  same_none (Some c) (Some d) alike none = absurd (none-some d (sym none))

  same_line : (slot : ℕ) (o n : Option (ClientView R)) → IsClientAlikeIf stands o n → script_line (held_of slot (session_of_client n)) ≡ script_line (held_of slot (session_of_client o))
  same_line slot None n alike = ap (λ c. script_line (held_of slot (session_of_client c))) alike
  same_line slot (Some c) None alike = absurd alike
  same_line slot (Some c) (Some d) alike = alike_line (held_in slot c.session.slots) (held_in slot d.session.slots) (alike.session.slots slot)

  same_runs : (o n : Option (ClientView R)) → IsClientAlikeIf stands o n → is_some n ≡ is_some o
  same_runs None n alike = ap is_some alike
  same_runs (Some c) None alike = absurd alike
  same_runs (Some c) (Some d) alike = refl

  -- ---- a session's lives

  clients_alike : (o n : Option (LivesView R)) → IsAlikeOf stands o n → IsClientAlikeIf stands (running_of o) (running_of n)
  clients_alike None n alike = ap running_of alike
  clients_alike (Some l) None alike = absurd alike
  clients_alike (Some l) (Some m) alike = alike.running

  same_late : (o n : Option (LivesView R)) → IsAlikeOf stands o n → late_of n ≡ late_of o
  same_late None n alike = ap late_of alike
  same_late (Some l) None alike = absurd alike
  same_late (Some l) (Some m) alike = alike.late

  alike_lives : (run : List Happening) (home : SiteId) (session : ℕ) (l m : LivesView R) → AreLivesAlike stands l m → AreLivesOf run home session l → AreLivesOf run home session m
  alike_lives run home session l m alike lives = record {
    home_is = alike.home ∙ lives.home_is;
    whose = ap (λ (i : Instance). i.session) alike.latest ∙ lives.whose;
    life =
        lives.life ∙ ap (λ b. record { number = l.latest.life; runs = b }) (sym (same_runs l.running m.running alike.running))
        ∙ ap (λ (i : Instance). record { number = i.life; runs = is_some m.running }) (sym alike.latest);
    latest = λ d runs. latest l.running m.running refl alike.running d runs;
    most = λ v late. subst (λ (i : Instance). v.instance.life ≤ i.life) (sym alike.latest) (lives.most v (sym alike.late ∙ late));
    older = λ v late d runs. older v (sym alike.late ∙ late) l.running m.running refl alike.running d runs;
  }
    where
      latest : (o n : Option (ClientView R)) → l.running ≡ o → IsClientAlikeIf stands o n → (d : ClientView R) → n ≡ Some d → d.session.instance ≡ m.latest
      latest None n was same d is = absurd (none-some d (sym same ∙ is))
      latest (Some c) None was same d is = absurd same
      latest (Some c) (Some e) was same d is =
          ap (λ (v : ClientView R). v.session.instance) (sym (same_Some e d is)) ∙ same.session.instance ∙ lives.latest c was ∙ sym alike.latest

      older : (v : LateView) → l.late ≡ Some v → (o n : Option (ClientView R)) → l.running ≡ o → IsClientAlikeIf stands o n → (d : ClientView R) → n ≡ Some d → v.instance.life < m.latest.life
      older v late None n was same d is = absurd (none-some d (sym same ∙ is))
      older v late (Some c) None was same d is = absurd same
      older v late (Some c) (Some e) was same d is = subst (λ (i : Instance). v.instance.life < i.life) (sym alike.latest) (lives.older v late c was)

  lives_if : (run : List Happening) (home : SiteId) (session : ℕ) (o n : Option (LivesView R)) → IsAlikeOf stands o n → ((l : LivesView R) → o ≡ Some l → AreLivesOf run home session l)
      → (m : LivesView R) → n ≡ Some m → AreLivesOf run home session m
  lives_if run home session None n alike old m is = absurd (none-some m (sym alike ∙ is))
  lives_if run home session (Some l) None alike old m is = absurd alike
  lives_if run home session (Some l) (Some k) alike old m is = subst (AreLivesOf run home session) (same_Some k m is) (alike_lives run home session l k alike (old l refl))

  -- ---- the world

  pub undone_is_sound : (old new : WorldView R) → IsSoundWorld stands old → IsUndone stands old new → ((session : ℕ) → IsSoundIf stands (client_in session new.lives)) → IsSoundWorld stands new
  undone_is_sound old new w undone sound = record {
    told = record {
      run = w.told.run;
      homes = w.told.homes;
      calls = subst (λ calls. AreCalls calls w.told.run) (sym undone.calls) w.told.calls;
      history = undone.history ∙ w.told.history;
      ids = subst (λ (sites : Sites). (s : SiteId) → (site_in s sites).id ≡ s) (sym undone.sites) w.told.ids;
      logs = subst (λ (sites : Sites). (s : SiteId) → (site_in s sites).log ≡ log_of s w.told.run) (sym undone.sites) w.told.logs;
      records = subst (λ (sites : Sites). (s : SiteId) → records_in s sites ≡ records_after s w.told.run) (sym undone.sites) w.told.records;
      mail = ap (λ (sites : Sites). sites.mail) undone.sites ∙ w.told.mail;
      right = w.told.right;
      exact = subst (λ (sites : Sites). HasNoHindrance w.told.run → (s : SiteId) → IsExactBut (IsOwed (owed_in w.told.run) s) (records_in s sites)) (sym undone.sites) w.told.exact;
      lives = λ session. lives_if w.told.run (w.told.homes session) session (lives_in session old.lives) (lives_in session new.lives) (undone.lives session) (w.told.lives session);
      order = w.told.order;
    };
    who = w.who;
    knows = w.knows;
    form = subst (λ (sites : Sites). (s : SiteId) → AreInForm (records_in s sites) (length (site_in s sites).log)) (sym undone.sites) w.form;
    standalone = subst (λ (sites : Sites). (s : SiteId) → AreStandalone (records_in s sites)) (sym undone.sites) w.standalone;
    mapped = subst (λ (sites : Sites). (s : SiteId) → AreMapped (records_in s sites)) (sym undone.sites) w.mapped;
    ranked = subst (λ (sites : Sites). (s : SiteId) → AreRanked (records_in s sites)) (sym undone.sites) w.ranked;
    clients = λ session.
        alike_if (IsLiving stands (w.told.homes session) session w.told.run (known_in w.knows session)) (client_in session old.lives) (client_in session new.lives) (same session) (sound session)
        (λ c d was alike is_sound. alike_client (w.told.homes session) session w.told.run (known_in w.knows session) c d alike is_sound (w.clients session c was));
    new = w.new;
    reads = w.reads;
    in_slots = λ session slot.
        alike_if (λ d. w.who (InSlot session slot) ≡ d.session.instance) (client_in session old.lives) (client_in session new.lives) (same session) (sound session)
        (λ c d was alike is_sound. w.in_slots session slot c was ∙ sym alike.session.instance);
    nobody = λ session none. w.nobody session (same_none (client_in session old.lives) (client_in session new.lives) (same session) none);
    apart = λ line session slot other there is also. w.apart line session slot other there (sym (line_was session slot) ∙ is) (sym (line_was other there) ∙ also);
    slots = λ line begun. same_slots old.lives new.lives line_was line (w.slots line begun);
    truth = λ session d is s.
        alike_if (λ d. IsTrueOf s (records_in s new.sites) d.session.instance (known_in w.knows session) d) (client_in session old.lives) (client_in session new.lives) (same session) (sound session)
        (λ c d was alike is_sound.
        subst (λ i. IsTrueOf s (records_in s new.sites) i (known_in w.knows session) d) (sym alike.session.instance)
        (subst (λ (sites : Sites). IsTrueOf s (records_in s sites) c.session.instance (known_in w.knows session) d) (sym undone.sites)
        (readied_is_true s (records_in s old.sites) c.session.instance (known_in w.knows session) c d (w.truth session c was s) alike.slots alike.locks)))
        d is;
    owns = λ session d is.
        alike_if (λ d. CountsItsLocks d.session.instance w.told.run d) (client_in session old.lives) (client_in session new.lives) (same session) (sound session)
        (λ c d was alike is_sound s image.
        ap (λ (l : LockState). l.owned) (alike.locks s image) ∙ w.owns session c was s image ∙ ap (λ i. owns_in i s image w.told.run) (sym alike.session.instance))
        d is;
    late = λ session slot. late_was session slot ∙ w.late session slot;
    sending = λ session slot x is.
        subst (λ (sites : Sites). (w.who (Sending session slot) ≡ x.instance) × MayStillCome session (λ s. records_in s sites) x (w.knows (Sending session slot))) (sym undone.sites)
        (w.sending session slot x (sym (late_was session slot) ∙ is));
    was_left = λ session slot x is. w.was_left session slot x (sym (late_was session slot) ∙ is);
    unsent = λ session slot none. w.unsent session slot (sym (late_was session slot) ∙ none);
    drops = λ session slot there x differ is. w.drops session slot there x differ (sym (late_was session slot) ∙ is);
    beside =
        subst (λ (sites : Sites). (h g : Holder) → AreStrangers h g → (s : SiteId) → AreBeside s (records_in s sites) (w.who h) (w.who g) (w.knows h) (w.knows g)) (sym undone.sites) w.beside;
    in_order = λ session. alike_order_if stands (w.told.homes session) w.told.run (client_in session old.lives) (client_in session new.lives) (same session) (w.in_order session);
  }
    where
      same : (session : ℕ) → IsClientAlikeIf stands (client_in session old.lives) (client_in session new.lives)
      same session = clients_alike (lives_in session old.lives) (lives_in session new.lives) (undone.lives session)

      line_was : (session slot : ℕ) → line_at session slot new.lives ≡ line_at session slot old.lives
      line_was session slot = same_line slot (client_in session old.lives) (client_in session new.lives) (same session)

      late_was : (session slot : ℕ) → late_at session slot new.lives ≡ late_at session slot old.lives
      late_was session slot = ap (sent_in slot) (same_late (lives_in session old.lives) (lives_in session new.lives) (undone.lives session))

-- In a world in which nobody is hindered no way to a lock is idle: where nothing goes on, none is
-- left.
use Rattle.std.proofs.Common.{◌≡◌, ◌⊎◌, inl, inr, ℕ, ◌==◌, ◌||◌, cond, not, Bool, true, false, Option, Some, None, refl, sym, ap, ◌∙◌, subst}
use Rattle.std.proofs.lemmas.Bool.{eqb-true, true≢false}
use Rattle.std.proofs.lemmas.Option.{none-some, same_Some}
use Rattle.rbd_client.specs.declared.actor.Actor.{Actor}
use Rattle.rbd_client.specs.declared.actor.Actor.TheVariants as actor
use Rattle.rbd_client.specs.declared.slot_state.Way.{Way}
use Rattle.rbd_client.specs.declared.slot_state.Way.TheVariants as way
use Rattle.rbd_client.specs.Actor.{actor_at, actor_by, actor_on, due_release, is_acquiring, release_actor}
use Rattle.rbd_client.specs.Client.{ClientView, slot_state}
use Rattle.rbd_kinds.specs.Images.{is_at}
use Rattle.rbd_kinds.specs.declared.id.SiteId.{SiteId}
use Rattle.rbd_kinds.specs.declared.image_at.ImageAt.{ImageAt}
use Rattle.rbd_kinds.specs.declared.notice.Notice.{Notice}
use Rattle.rbd_kinds.specs.declared.notice.NoticeKind.{NoticeKind}
use Rattle.rbd_kinds.specs.declared.notice.NoticeKind.TheVariants as notice
use Rattle.rbd_lock.specs.declared.lock_state.LockState.{LockState}
use Rattle.rbd_lock.specs.Locks.{LocksView, heard, lock_state_at}
use Rattle.rbd_lock.specs.States.{told_state}
use Rattle.rbd_machine.specs.Label.{Label}
use Rattle.rbd_machine.specs.Plan.{Ask, Await, Goto, Note, Plan, Return, Standing}
use Rattle.rbd_lock.specs.Acquire.{begun_way, op_of}
use Rattle.rbd_lock.specs.declared.acquire.Acquire.{Acquire}
use Rattle.rbd_slots.specs.Advance.{track_of}
use Rattle.rbd_slots.specs.Session.{SessionView, held_in, look_under_lock_at, running_at, running_in}
use Rattle.rbd_slots.specs.Waits.{waits}
use Rattle.rbd_slots.specs.declared.running.Occupant.{Occupant}
use Rattle.rbd_slots.specs.declared.running.Occupant.TheVariants as occupant
use Rattle.rbd_slots.specs.declared.running.Running.{Running}
use Rattle.rbd_site.specs.Step.{answer_to}
use Rattle.rbd_world.specs.declared.event.Event.TheVariants as event
use Rattle.rbd_world.specs.declared.event.Outcome.{Outcome}
use Rattle.rbd_world.specs.Run.{Happening, Nothing, Waited, outcome_of}
use Rattle.rbd_world.specs.Step.{Hears, IsWorldStep, RunsOn, done_by, goes_on_by, gone_by, polled, polled_in, releases}
use Rattle.rbd_world.specs.World.{WorldView, client_in, records_in}
use Rattle.rbd_schedule.specs.Schedule.{goes_on}
use Rattle.rbd_schedule.proofs.Clients.{client_then}
use Rattle.rbd_schedule.proofs.Idle.{Asked, HearsOf, IsIdleStep, Told, delivery_leaves}
use Rattle.rbd_plays.proofs.Acting.{ways_are_early}
use Rattle.rbd_plays.proofs.Stepping.{nobody_else, step_keeps}
use Rattle.rbd_plays.proofs.Tame.{running_held}
use Rattle.rbd_plays.proofs.Unhindered.{IsUnhindered}
use Rattle.rbd_plays.proofs.Ways.{early_goes_on}

-- no way to a lock acts at the slot of a request
abbrev pub ActsItself : {R : Type 0} → (stands : R → Standing) → (slot : ℕ) → ClientView R → Type 0
ActsItself {R} stands slot c = (r : Running R) → running_at slot c.session ≡ Some r → is_acquiring (actor_at stands slot c) ≡ false

module _ {R : Type 0} (stands : R → Standing) (changer : ℕ) where
  module _ (w : WorldView R) (is : IsUnhindered stands changer w) (session slot : ℕ) (c : ClientView R) (there : client_in session w.lives ≡ Some c) where
    -- a way goes on
    way_goes_on : (r : Running R) → running_at slot c.session ≡ Some r → (a : Acquire) → actor_at stands slot c ≡ actor.Way a → goes_on (outcome_of (gone_by w.sites c.session.instance r.line a)) ≡ true
    way_goes_on r runs a acts =
        let early = ways_are_early stands (session == changer) c (is.tame session c there) slot r a runs acts in
        ap not (early_goes_on a.stage a.image (answer_to (records_in a.site w.sites) c.session.instance (op_of a)) early.1 (nobody_else stands changer w is session c there (eqb-true session changer early.0) a.site a.stage a.image))

    -- so nothing happened by a poll after which nothing went on
    abbrev IsStillBy : Happening → Type 0
    IsStillBy h = (h ≡ Nothing) ⊎ (h ≡ Waited)

    still_plan : (line : ℕ) (labels : Label → Plan) (plan : Plan) → goes_on (outcome_of (done_by w.sites c.session.instance line labels plan)) ≡ false → IsStillBy (done_by w.sites c.session.instance line labels plan)
    still_plan line labels (Ask s why o next) still = absurd (true≢false still)
    still_plan line labels (Await wait next) still = inl refl
    still_plan line labels (Note s image e next) still = inl refl
    still_plan line labels (Return reply) still = inl refl
    still_plan line labels (Goto label) still = inl refl

    still_going : (r : Running R) → running_at slot c.session ≡ Some r → (who : Actor) → actor_at stands slot c ≡ who → goes_on (outcome_of (goes_on_by stands w.sites c slot r who)) ≡ false
        → IsStillBy (goes_on_by stands w.sites c slot r who)
    still_going r runs actor.Nobody acts still = inr refl
    still_going r runs actor.Request acts still = by (waits slot (track_of r c.session.lines)) still
      where
        by : (b : Bool) → let h = cond b Waited (done_by w.sites c.session.instance r.line (stands r.request).labels (stands r.request).plan) in goes_on (outcome_of h) ≡ false → IsStillBy h
        by true still = inr refl
        by false still = still_plan r.line (stands r.request).labels (stands r.request).plan still
    still_going r runs (actor.Way a) acts still = absurd (true≢false (sym (way_goes_on r runs a acts) ∙ still))
    still_going r runs (actor.Release x) acts still = inr refl

    still_house : (who : Actor) → goes_on (outcome_of (releases w.sites c.session.instance who)) ≡ false → IsStillBy (releases w.sites c.session.instance who)
    still_house actor.Nobody still = inr refl
    still_house actor.Request still = inr refl
    still_house (actor.Way a) still = inr refl
    still_house (actor.Release x) still = absurd (true≢false still)

    still_held : (o : Option (Occupant R)) → held_in slot c.session.slots ≡ o → goes_on (outcome_of (polled_in stands w.sites c slot o)) ≡ false → IsStillBy (polled_in stands w.sites c slot o)
    still_held None held still = by (slot == 0) still
      where
        by : (b : Bool) → let h = cond b (releases w.sites c.session.instance (actor_at stands slot c)) Nothing in goes_on (outcome_of h) ≡ false → IsStillBy h
        by true still = still_house (actor_at stands slot c) still
        by false still = inl refl
    still_held (Some (occupant.Refused line refusal)) held still = absurd (true≢false still)
    still_held (Some (occupant.Running r)) held still = still_going r (ap running_in held) (actor_at stands slot c) refl still

    -- and no way acts there
    no_way : (who : Actor) (r : Running R) → running_at slot c.session ≡ Some r → actor_at stands slot c ≡ who → goes_on (outcome_of (goes_on_by stands w.sites c slot r who)) ≡ false → is_acquiring who ≡ false
    no_way actor.Nobody r runs acts still = refl
    no_way actor.Request r runs acts still = refl
    no_way (actor.Way a) r runs acts still = absurd (true≢false (sym (way_goes_on r runs a acts) ∙ still))
    no_way (actor.Release x) r runs acts still = refl

    acts_itself : goes_on (outcome_of (polled stands w.sites slot (Some c))) ≡ false → ActsItself stands slot c
    acts_itself still r runs =
        no_way (actor_at stands slot c) r runs refl
        (subst (λ o. goes_on (outcome_of (polled_in stands w.sites c slot o)) ≡ false) (running_held (held_in slot c.session.slots) r runs) still)

  -- ---- a poll

  pub polls_act : (session slot : ℕ) (a b : WorldView R) (result : Outcome) → IsWorldStep stands (event.Poll session slot) a result b → goes_on result ≡ false → IsUnhindered stands changer a
      → (c : ClientView R) → client_in session a.lives ≡ Some c → ActsItself stands slot c
  polls_act session slot a b result step none is c there =
      acts_itself a is session slot c there (ap (λ o. goes_on (outcome_of (polled stands a.sites slot o))) (sym there) ∙ sym (ap goes_on step.0) ∙ none)

  still_then : (session slot : ℕ) (h : Happening) (home : SiteId) (old new : Option (ClientView R)) → (h ≡ Nothing) ⊎ (h ≡ Waited) → RunsOn stands (event.Poll session slot) h home old new → new ≡ old
  still_then session slot h home old new (inl is) runs = by old new (subst (λ x. RunsOn stands (event.Poll session slot) x home old new) is runs)
    where
      by : (old new : Option (ClientView R)) → RunsOn stands (event.Poll session slot) Nothing home old new → new ≡ old
      by None new runs = runs
      by (Some c) None runs = absurd runs
      by (Some c) (Some d) runs = ap Some runs
  still_then session slot h home old new (inr is) runs = by old new (subst (λ x. RunsOn stands (event.Poll session slot) x home old new) is runs)
    where
      by : (old new : Option (ClientView R)) → RunsOn stands (event.Poll session slot) Waited home old new → new ≡ old
      by None new runs = runs
      by (Some c) None runs = absurd runs
      by (Some c) (Some d) runs = ap Some runs

  -- by which all clients stay
  still_polled : (session slot : ℕ) (a b : WorldView R) (result : Outcome) → IsWorldStep stands (event.Poll session slot) a result b → goes_on result ≡ false → IsUnhindered stands changer a
      → (n : ℕ) → client_in n b.lives ≡ client_in n a.lives
  still_polled session slot a b result step none is n = by (client_in session a.lives) refl
    where
      of : (h : Happening) → polled stands a.sites slot (client_in session a.lives) ≡ h → (h ≡ Nothing) ⊎ (h ≡ Waited) → client_in n b.lives ≡ client_in n a.lives
      of h at still = go (client_then stands (event.Poll session slot) (polled stands a.sites slot (client_in session a.lives)) a b step.1 n)
        where
          go : (client_in n b.lives ≡ client_in n a.lives) ⊎ ((home : SiteId) × RunsOn stands (event.Poll session slot) (polled stands a.sites slot (client_in session a.lives)) home (client_in n a.lives) (client_in n b.lives))
              → client_in n b.lives ≡ client_in n a.lives
          go (inl same) = same
          go (inr (home, runs)) =
              still_then session slot h home (client_in n a.lives) (client_in n b.lives) still (subst (λ x. RunsOn stands (event.Poll session slot) x home (client_in n a.lives) (client_in n b.lives)) at runs)

      by : (o : Option (ClientView R)) → client_in session a.lives ≡ o → client_in n b.lives ≡ client_in n a.lives
      by None at = of Nothing (ap (polled stands a.sites slot) at) (inl refl)
      by (Some c) at =
          of (polled_in stands a.sites c slot (held_in slot c.session.slots)) (ap (polled stands a.sites slot) at)
          (still_held a is session slot c at (held_in slot c.session.slots) refl
          (sym (ap (λ o. goes_on (outcome_of (polled stands a.sites slot o))) at) ∙ sym (ap goes_on step.0) ∙ none))

  -- ---- a notice

  asked_acts : (w : Acquire) (quiesced owned asked : Bool) → is_acquiring (cond (quiesced || asked) actor.Nobody (cond owned actor.Request (actor.Way w))) ≡ false
      → is_acquiring (cond (quiesced || cond owned true asked) actor.Nobody (cond owned actor.Request (actor.Way w))) ≡ false
  asked_acts w true owned asked none = refl
  asked_acts w false true asked none = refl
  asked_acts w false false asked none = none

  told_acts : (p : ImageAt) (kind : NoticeKind) (here : Bool) (s : LockState) → is_acquiring (actor_by s p.site p.image) ≡ false → is_acquiring (actor_by (cond here (told_state kind s) s) p.site p.image) ≡ false
  told_acts p kind false s none = none
  told_acts p notice.RequestLock true s none = asked_acts (begun_way p.site p.image s.watched) s.quiesced s.owned s.asked none
  told_acts p _ true s none = none

  hears_on : (n : Notice) (w : Way) (look : Option ImageAt) (old new : LocksView) → ((s : SiteId) (image : ℕ) → lock_state_at s image new ≡ heard n s image (lock_state_at s image old))
      → is_acquiring (actor_on w look old) ≡ false → is_acquiring (actor_on w look new) ≡ false
  hears_on n (way.On a) look old new locks none = none
  hears_on n (way.Taken p) look old new locks none = none
  hears_on n way.Unbegun None old new locks none = none
  hears_on n way.Unbegun (Some p) old new locks none =
      subst (λ s. is_acquiring (actor_by s p.site p.image) ≡ false) (sym (locks p.site p.image)) (told_acts p n.kind (is_at n.site n.image p.site p.image) (lock_state_at p.site p.image old) none)

  hears_acts : (slot : ℕ) (n : Notice) (a b : ClientView R) → (slot == 0) ≡ false → Hears stands n a b → ActsItself stands slot a → ActsItself stands slot b
  hears_acts slot n a b some hears acts r runs =
      now ∙ hears_on n (slot_state slot a.slots).way (look_under_lock_at stands slot a.session) a.locks b.locks hears.locks (sym (ap is_acquiring (at_slot a)) ∙ acts r (sym (ap (running_at slot) hears.session) ∙ runs))
    where
      at_slot : (c : ClientView R) → actor_at stands slot c ≡ actor_on (slot_state slot c.slots).way (look_under_lock_at stands slot c.session) c.locks
      at_slot c = ap (λ x. cond x (release_actor c.release (due_release c)) (actor_on (slot_state slot c.slots).way (look_under_lock_at stands slot c.session) c.locks)) some

      now : is_acquiring (actor_at stands slot b) ≡ is_acquiring (actor_on (slot_state slot a.slots).way (look_under_lock_at stands slot a.session) b.locks)
      now = ap is_acquiring (at_slot b)
          ∙ ap (λ slots. is_acquiring (actor_on (slot_state slot slots).way (look_under_lock_at stands slot b.session) b.locks)) hears.slots
          ∙ ap (λ (s : SessionView R). is_acquiring (actor_on (slot_state slot a.slots).way (look_under_lock_at stands slot s) b.locks)) hears.session

  heard_acts : (slot : ℕ) (old new : Option (ClientView R)) → (slot == 0) ≡ false → HearsOf stands old new → ((c : ClientView R) → old ≡ Some c → ActsItself stands slot c) → (c : ClientView R) → new ≡ Some c → ActsItself stands slot c
  heard_acts slot None new some hears acts c is = absurd (none-some c (sym hears ∙ is))
  heard_acts slot (Some a) None some hears acts c is = absurd hears
  heard_acts slot (Some a) (Some b) some (inl same) acts c is = subst (ActsItself stands slot) (sym same ∙ same_Some b c is) (acts a refl)
  heard_acts slot (Some a) (Some b) some (inr (n, hears)) acts c is = subst (ActsItself stands slot) (same_Some b c is) (hears_acts slot n a b some hears (acts a refl))

  -- ---- what an idle round plays

  pub idle_keeps : (a b : WorldView R) → IsIdleStep stands a b → IsUnhindered stands changer a → IsUnhindered stands changer b
  idle_keeps a b (Told number result step) is = step_keeps stands changer (event.Deliver number) result a b tt step is
  idle_keeps a b (Asked session slot result none step) is = step_keeps stands changer (event.Poll session slot) result a b tt step is

  pub idle_acts : (session slot : ℕ) → (slot == 0) ≡ false → (a b : WorldView R) → IsIdleStep stands a b → IsUnhindered stands changer a
      → ((c : ClientView R) → client_in session a.lives ≡ Some c → ActsItself stands slot c) → (c : ClientView R) → client_in session b.lives ≡ Some c → ActsItself stands slot c
  idle_acts session slot some a b (Told number result step) is acts c there = heard_acts slot (client_in session a.lives) (client_in session b.lives) some (delivery_leaves stands number a b result step session) acts c there
  idle_acts session slot some a b (Asked s at result none step) is acts c there = acts c (sym (still_polled s at a b result step none is session) ∙ there)

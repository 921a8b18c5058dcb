-- Events of an idle round: a notice that is delivered, and a poll by which nothing goes on.
use Rattle.std.proofs.Common.{◌≡◌, ◌≢◌, ℕ, ◌==◌, ◌||◌, ◌⊎◌, inl, inr, cond, Bool, true, false, List, is_some, Option, Some, None, refl, sym, ap, ◌∙◌, subst}
use Rattle.std.proofs.lemmas.Bool.{cases_eq, eqb-true, false≢true, true≢false, not-false}
use Rattle.std.proofs.lemmas.Option.{none-some, same_Some}
use Rattle.rbd_client.specs.declared.actor.Actor.{Actor}
use Rattle.rbd_client.specs.declared.actor.Actor.TheVariants as actor
use Rattle.rbd_client.specs.declared.slot_state.SlotState.{SlotState}
use Rattle.rbd_client.specs.declared.slot_state.Way.{Way}
use Rattle.rbd_client.specs.declared.slot_state.Way.TheVariants as way
use Rattle.rbd_client.specs.Actor.{actor_at, actor_by, actor_on, due_release, release_actor}
use Rattle.rbd_client.specs.Client.{ClientView, slot_state}
use Rattle.rbd_client.specs.Feeding.{AreStatesAlike, IsFedBy, WayComesTo}
use Rattle.rbd_kinds.specs.OperationKind.{kind_of}
use Rattle.rbd_kinds.specs.declared.answer.Answer.{Answer}
use Rattle.rbd_kinds.specs.declared.answer.Answer.TheVariants as answer
use Rattle.rbd_kinds.specs.declared.id.SiteId.{SiteId}
use Rattle.rbd_kinds.specs.declared.image_at.ImageAt.{ImageAt}
use Rattle.rbd_kinds.specs.declared.machine.Fed.{Fed}
use Rattle.rbd_kinds.specs.declared.machine.Fed.TheVariants as fed
use Rattle.rbd_kinds.specs.declared.notice.Notice.{Notice}
use Rattle.rbd_kinds.specs.declared.notice.NoticeKind.{NoticeKind}
use Rattle.rbd_kinds.specs.declared.notice.NoticeKind.TheVariants as notice
use Rattle.rbd_kinds.specs.Images.{is_at}
use Rattle.rbd_kinds.specs.Instances.{same_instance}
use Rattle.rbd_lock.specs.declared.lock_state.LockState.{LockState}
use Rattle.rbd_lock.specs.Comings.{ByAnswer, after_one}
use Rattle.rbd_lock.specs.Locks.{LocksView, heard, lock_state_at}
use Rattle.rbd_lock.specs.States.{told_state}
use Rattle.rbd_machine.specs.Label.{Label}
use Rattle.rbd_machine.specs.Plan.{Plan, Ask, Await, Note, Return, Goto, IsAsking, Standing}
use Rattle.rbd_lock.specs.Acquire.{asking, begun_way, fencing, op_at_stage, op_of}
use Rattle.rbd_lock.specs.Steps.{is_instance_among}
use Rattle.rbd_lock.specs.Waiting.{asks_again}
use Rattle.rbd_lock.specs.declared.acquire.Acquire.{Acquire}
use Rattle.rbd_lock.specs.declared.acquire.Stage.{Stage}
use Rattle.rbd_lock.specs.declared.acquire.Stage.TheVariants as stage
use Rattle.rbd_slots.specs.Advance.{track_of}
use Rattle.rbd_slots.specs.Lines.{LinesView}
use Rattle.rbd_slots.specs.Session.{IsSoundSession, SessionView, free_slot, held_in, look_under_lock_at, running_in}
use Rattle.rbd_slots.specs.Waits.{waits}
use Rattle.rbd_slots.specs.declared.running.Occupant.{Occupant}
use Rattle.rbd_slots.specs.declared.running.Occupant.TheVariants as occupant
use Rattle.rbd_slots.specs.declared.running.Running.{Running}
use Rattle.rbd_site.specs.Step.{answer_to}
use Rattle.rbd_watch.specs.Posting.{notice_numbered}
use Rattle.rbd_world.specs.declared.event.Event.TheVariants as event
use Rattle.rbd_world.specs.declared.event.Outcome.{Outcome}
use Rattle.rbd_world.specs.declared.sites.Sites.{Sites}
use Rattle.rbd_world.specs.Run.{OnWay, Happening, Nothing, Waited, Did, Heard, outcome_of}
use Rattle.rbd_world.specs.Step.{Becomes, BecomesOf, Goes, Hears, IsWorldStep, RunsOn, delivered, done_by, gone_by, goes_on_by, heard_by, operation_at, polled, polled_in, releases, reply_at, reply_on_way}
use Rattle.rbd_world.specs.World.{LivesView, WorldView, client_in, free_in, records_in, running_of, session_in, session_of_client, site_in}
use Rattle.rbd_schedule.specs.declared.given.Given.{Given}
use Rattle.rbd_schedule.specs.Playing.{lets_start}
use Rattle.rbd_schedule.specs.Schedule.{goes_on}
use Rattle.rbd_schedule.specs.Starts.{IsQuiet}
use Rattle.rbd_schedule.proofs.Begins.{event_begins}
use Rattle.rbd_schedule.proofs.Clients.{client_then}
use Rattle.rbd_schedule.proofs.Quiet.{begun_then, open_then, quiet_along, still_open}

-- ---- a slot in which nothing goes on

-- who acts there is nobody, or a way to a lock; or the request waits in its line
abbrev pub Stays : {R : Type 0} → (slot : ℕ) → LinesView → Running R → Actor → Type 0
Stays slot lines r actor.Request = waits slot (track_of r lines) ≡ true
Stays slot lines r who = Unit {0}

abbrev pub StaysIn : {R : Type 0} → (slot : ℕ) → LinesView → Actor → Option (Occupant R) → Type 0
StaysIn slot lines who None = Unit {0}
StaysIn slot lines who (Some (occupant.Refused line refusal)) = ⊥
StaysIn slot lines who (Some (occupant.Running r)) = Stays slot lines r who

abbrev pub IsStill : {R : Type 0} → (stands : R → Standing) → (slot : ℕ) → ClientView R → Type 0
IsStill stands slot c = StaysIn slot c.session.lines (actor_at stands slot c) (held_in slot c.session.slots)

-- ---- a step that asks again

-- it gives no reply
again_open : (at : Stage) (site : SiteId) (image : ℕ) (told : Answer) → asks_again (kind_of (op_at_stage at image)) told ≡ true → reply_on_way (record { site = site; image = image; stage = at }) told ≡ None
again_open stage.Watching site image told is = absurd (false≢true is)
again_open stage.Taking site image (answer.Held owner) is = refl
again_open stage.Taking site image _ is = absurd (false≢true is)
again_open (stage.Looking owner) site image (answer.Instances watchers) is = by (is_instance_among watchers owner)
  where
    by : (b : Bool) → reply_at (cond b (asking site image) (fencing site image owner)) ≡ None
    by true = refl
    by false = refl
again_open (stage.Looking owner) site image _ is = absurd (false≢true is)
again_open stage.Asking site image answer.Done is = refl
again_open stage.Asking site image _ is = absurd (false≢true is)
again_open (stage.Fencing owner) site image told is = absurd (false≢true is)
again_open (stage.Breaking owner) site image told is = absurd (false≢true is)

-- the session counts its locks as before
same_there : (b : Bool) (s : LockState) → cond b s s ≡ s
same_there true s = refl
same_there false s = refl

again_counts : (at : Stage) (site : SiteId) (image : ℕ) (told : Answer) → asks_again (kind_of (op_at_stage at image)) told ≡ true
    → (there : SiteId) (on : ℕ) (s : LockState) → after_one (ByAnswer site (op_at_stage at image) told) there on s ≡ s
again_counts stage.Watching site image told is there on s = absurd (false≢true is)
again_counts stage.Taking site image (answer.Held owner) is there on s = same_there (is_at site image there on) s
again_counts stage.Taking site image _ is there on s = absurd (false≢true is)
again_counts (stage.Looking owner) site image told is there on s = same_there (is_at site image there on) s
again_counts stage.Asking site image told is there on s = same_there (is_at site image there on) s
again_counts (stage.Fencing owner) site image told is there on s = absurd (false≢true is)
again_counts (stage.Breaking owner) site image told is there on s = absurd (false≢true is)

-- nor was the lock taken by it
not_taken : (at : Stage) (image : ℕ) (told : Answer) → asks_again (kind_of (op_at_stage at image)) told ≡ true → at ≡ stage.Taking → told ≡ answer.Done → ⊥
not_taken at image told is taking done =
    false≢true (sym (ap (λ a. asks_again (kind_of (op_at_stage stage.Taking image)) a) done) ∙ sym (ap (λ x. asks_again (kind_of (op_at_stage x image)) told) taking) ∙ is)

-- ---- a poll by which nothing goes on

-- Where the way of a slot's request asks again, and that is all.
pub record AsksAgain {R : Type 0} (stands : R → Standing) (sites : Sites) (c : ClientView R) (slot : ℕ) (h : Happening) : Type 0 where
  pub on : Acquire
  pub acts : actor_at stands slot c ≡ actor.Way on
  pub line : ℕ
  pub is : h ≡ Did (operation_at (site_in on.site sites) c.session.instance (OnWay line) on.site (op_of on)) None
  pub again : asks_again (kind_of (op_of on)) (answer_to (records_in on.site sites) c.session.instance (op_of on)) ≡ true

abbrev pub IsIdleBy : {R : Type 0} → (stands : R → Standing) → Sites → ClientView R → (slot : ℕ) → Happening → Type 0
IsIdleBy stands sites c slot h = (h ≡ Nothing) ⊎ ((h ≡ Waited) ⊎ AsksAgain stands sites c slot h)

module _ {R : Type 0} (stands : R → Standing) where
  idle_plan : (sites : Sites) (c : ClientView R) (slot line : ℕ) (labels : Label → Plan) (plan : Plan) → goes_on (outcome_of (done_by sites c.session.instance line labels plan)) ≡ false
      → IsIdleBy stands sites c slot (done_by sites c.session.instance line labels plan)
  idle_plan sites c slot line labels (Ask s why o next) still = absurd (true≢false still)
  idle_plan sites c slot line labels (Await wait next) still = inl refl
  idle_plan sites c slot line labels (Note s image e next) still = inl refl
  idle_plan sites c slot line labels (Return reply) still = inl refl
  idle_plan sites c slot line labels (Goto label) still = inl refl

  idle_way : (sites : Sites) (c : ClientView R) (slot line : ℕ) (a : Acquire) → actor_at stands slot c ≡ actor.Way a → goes_on (outcome_of (gone_by sites c.session.instance line a)) ≡ false
      → AsksAgain stands sites c slot (gone_by sites c.session.instance line a)
  idle_way sites c slot line a acts still =
      let again = not-false (asks_again (kind_of (op_of a)) (answer_to (records_in a.site sites) c.session.instance (op_of a))) still in
      record {
        on = a;
        acts = acts;
        line = line;
        is = ap (Did (operation_at (site_in a.site sites) c.session.instance (OnWay line) a.site (op_of a)))
            (again_open a.stage a.site a.image (answer_to (records_in a.site sites) c.session.instance (op_of a)) again);
        again = again;
      }

  idle_going : (sites : Sites) (c : ClientView R) (slot : ℕ) (r : Running R) (who : Actor) → actor_at stands slot c ≡ who → goes_on (outcome_of (goes_on_by stands sites c slot r who)) ≡ false
      → IsIdleBy stands sites c slot (goes_on_by stands sites c slot r who)
  idle_going sites c slot r actor.Nobody acts still = inr (inl refl)
  idle_going sites c slot r actor.Request acts still = by (waits slot (track_of r c.session.lines)) still
    where
      by : (b : Bool) → let h = cond b Waited (done_by sites c.session.instance r.line (stands r.request).labels (stands r.request).plan) in goes_on (outcome_of h) ≡ false → IsIdleBy stands sites c slot h
      by true still = inr (inl refl)
      by false still = idle_plan sites c slot r.line (stands r.request).labels (stands r.request).plan still
  idle_going sites c slot r (actor.Way a) acts still = inr (inr (idle_way sites c slot r.line a acts still))
  idle_going sites c slot r (actor.Release x) acts still = inr (inl refl)

  idle_house : (sites : Sites) (c : ClientView R) (slot : ℕ) (who : Actor) → goes_on (outcome_of (releases sites c.session.instance who)) ≡ false → IsIdleBy stands sites c slot (releases sites c.session.instance who)
  idle_house sites c slot actor.Nobody still = inr (inl refl)
  idle_house sites c slot actor.Request still = inr (inl refl)
  idle_house sites c slot (actor.Way a) still = inr (inl refl)
  idle_house sites c slot (actor.Release r) still = absurd (true≢false still)

  pub idle_held : (sites : Sites) (c : ClientView R) (slot : ℕ) (o : Option (Occupant R)) → goes_on (outcome_of (polled_in stands sites c slot o)) ≡ false → IsIdleBy stands sites c slot (polled_in stands sites c slot o)
  idle_held sites c slot None still = by (slot == 0) still
    where
      by : (b : Bool) → let h = cond b (releases sites c.session.instance (actor_at stands slot c)) Nothing in goes_on (outcome_of h) ≡ false → IsIdleBy stands sites c slot h
      by true still = idle_house sites c slot (actor_at stands slot c) still
      by false still = inl refl
  idle_held sites c slot (Some (occupant.Refused line refusal)) still = absurd (true≢false still)
  idle_held sites c slot (Some (occupant.Running r)) still = idle_going sites c slot r (actor_at stands slot c) refl still

  -- so it is still before the poll
  going_still : (sites : Sites) (c : ClientView R) (slot : ℕ) (r : Running R) (who : Actor) → IsAsking (stands r.request).plan → goes_on (outcome_of (goes_on_by stands sites c slot r who)) ≡ false → Stays slot c.session.lines r who
  going_still sites c slot r actor.Request asks still = by (waits slot (track_of r c.session.lines)) still
    where
      plan : (p : Plan) → IsAsking p → goes_on (outcome_of (done_by sites c.session.instance r.line (stands r.request).labels p)) ≡ false → ⊥
      plan (Ask s why o next) asks still = true≢false still
      plan (Await wait next) asks still = asks
      plan (Note s image e next) asks still = asks
      plan (Return reply) asks still = asks
      plan (Goto label) asks still = asks

      by : (b : Bool) → goes_on (outcome_of (cond b Waited (done_by sites c.session.instance r.line (stands r.request).labels (stands r.request).plan))) ≡ false → b ≡ true
      by true still = refl
      by false still = absurd (plan (stands r.request).plan asks still)
  going_still sites c slot r actor.Nobody asks still = tt
  going_still sites c slot r (actor.Way a) asks still = tt
  going_still sites c slot r (actor.Release x) asks still = tt

  pub still_before : (sites : Sites) (c : ClientView R) (slot : ℕ) → IsSoundSession stands c.session → goes_on (outcome_of (polled stands sites slot (Some c))) ≡ false → IsStill stands slot c
  still_before sites c slot sound still = by (held_in slot c.session.slots) refl still
    where
      by : (o : Option (Occupant R)) → held_in slot c.session.slots ≡ o → goes_on (outcome_of (polled_in stands sites c slot o)) ≡ false → StaysIn slot c.session.lines (actor_at stands slot c) o
      by None held still = tt
      by (Some (occupant.Refused line refusal)) held still = absurd (true≢false still)
      by (Some (occupant.Running r)) held still = going_still sites c slot r (actor_at stands slot c) (sound.asks slot r (ap running_in held)) still

  -- ---- what becomes of a client by it

  -- Its requests, what it counts of its locks, and its other slots are as before; and who acts
  -- there is who did, or a way.
  pub record IsIdlePoll (slot : ℕ) (old new : ClientView R) : Type 0 where
    pub session : new.session ≡ old.session
    pub locks : AreStatesAlike old.locks new.locks
    pub states : (other : ℕ) → other ≢ slot → slot_state other new.slots ≡ slot_state other old.slots
    pub acts : (slot == 0) ≡ false → (actor_at stands slot new ≡ actor_at stands slot old) ⊎ ((a : Acquire) × (actor_at stands slot new ≡ actor.Way a))

  same_poll : (slot : ℕ) (a b : ClientView R) → b ≡ a → IsIdlePoll slot a b
  same_poll slot a b same = record {
    session = ap (λ (c : ClientView R). c.session) same;
    locks = λ site image. ap (λ (c : ClientView R). lock_state_at site image c.locks) same;
    states = λ other is. ap (λ (c : ClientView R). slot_state other c.slots) same;
    acts = λ some. inl (ap (actor_at stands slot) same);
  }

  pub acts_on : (slot : ℕ) (c : ClientView R) (a : Acquire) → (slot == 0) ≡ false → (slot_state slot c.slots).way ≡ way.On a → actor_at stands slot c ≡ actor.Way a
  acts_on slot c a some on =
      ap (λ b. cond b (release_actor c.release (due_release c)) (actor_on (slot_state slot c.slots).way (look_under_lock_at stands slot c.session) c.locks)) some
      ∙ ap (λ w. actor_on w (look_under_lock_at stands slot c.session) c.locks) on

  way_poll : (slot : ℕ) (x : Acquire) (told : Answer) (a b : ClientView R) → asks_again (kind_of (op_of x)) told ≡ true → IsFedBy stands slot x.site (op_of x) (fed.Answer told) None a b (actor.Way x)
      → ((other : ℕ) → other ≢ slot → slot_state other b.slots ≡ slot_state other a.slots) → IsIdlePoll slot a b
  way_poll slot x reply a b again goes states = record {
    session = goes.session;
    locks = λ site image. goes.counts site image ∙ again_counts x.stage x.site x.image reply again site image (lock_state_at site image a.locks);
    states = states;
    acts = λ some. inr (by (slot_state slot b.slots).way refl goes.comes some);
  }
    where
      by : (w : Way) → (slot_state slot b.slots).way ≡ w → WayComesTo x (fed.Answer reply) None w → (slot == 0) ≡ false → (y : Acquire) × (actor_at stands slot b ≡ actor.Way y)
      by (way.On y) on comes some = (y, acts_on slot b y some on)
      by (way.Taken p) on comes some = absurd (not_taken x.stage x.image reply again comes.asked (answer_is comes.done))
        where
          answer_is : ◌≡◌ {A = Fed} (fed.Answer reply) (fed.Answer answer.Done) → reply ≡ answer.Done
          answer_is is = cc
      by way.Unbegun on comes some = absurd comes

  pub idle_becomes : (session slot : ℕ) (sites : Sites) (a b : ClientView R) (h : Happening) → IsIdleBy stands sites a slot h → Becomes stands (event.Poll session slot) h a b → IsIdlePoll slot a b
  idle_becomes session slot sites a b h (inl is) becomes = same_poll slot a b (subst (λ x. Becomes stands (event.Poll session slot) x a b) is becomes)
  idle_becomes session slot sites a b h (inr (inl is)) becomes = same_poll slot a b (subst (λ x. Becomes stands (event.Poll session slot) x a b) is becomes)
  idle_becomes session slot sites a b h (inr (inr asks)) becomes =
      let on = asks.on in
      let goes : Goes stands slot (operation_at (site_in on.site sites) a.session.instance (OnWay asks.line) on.site (op_of on)) None a b
      = subst (λ x. Becomes stands (event.Poll session slot) x a b) asks.is becomes in
      way_poll slot on (answer_to (records_in on.site sites) a.session.instance (op_of on)) a b asks.again
      (subst (IsFedBy stands slot on.site (op_of on) (fed.Answer (answer_to (records_in on.site sites) a.session.instance (op_of on))) None a b) asks.acts goes.fed) goes.states

  abbrev pub IsIdlePollOf : (slot : ℕ) → (old new : Option (ClientView R)) → Type 0
  IsIdlePollOf slot None new = new ≡ None
  IsIdlePollOf slot (Some a) None = ⊥
  IsIdlePollOf slot (Some a) (Some b) = IsIdlePoll slot a b

  idle_of : (session slot : ℕ) (sites : Sites) (h : Happening) (old new : Option (ClientView R)) → ((c : ClientView R) → old ≡ Some c → IsIdleBy stands sites c slot h) → BecomesOf stands (event.Poll session slot) h old new → IsIdlePollOf slot old new
  idle_of session slot sites h None new idle becomes = becomes
  idle_of session slot sites h (Some a) None idle becomes = becomes
  idle_of session slot sites h (Some a) (Some b) idle becomes = idle_becomes session slot sites a b h (idle a refl) becomes

  pub runs_idle : (session slot : ℕ) (sites : Sites) (home : SiteId) (a : ClientView R) (new : Option (ClientView R)) (h : Happening) → IsIdleBy stands sites a slot h → RunsOn stands (event.Poll session slot) h home (Some a) new
      → BecomesOf stands (event.Poll session slot) h (Some a) new
  runs_idle session slot sites home a new h (inl is) runs =
      subst (λ x. BecomesOf stands (event.Poll session slot) x (Some a) new) (sym is) (subst (λ x. RunsOn stands (event.Poll session slot) x home (Some a) new) is runs)
  runs_idle session slot sites home a new h (inr (inl is)) runs =
      subst (λ x. BecomesOf stands (event.Poll session slot) x (Some a) new) (sym is) (subst (λ x. RunsOn stands (event.Poll session slot) x home (Some a) new) is runs)
  runs_idle session slot sites home a new h (inr (inr asks)) runs =
      subst (λ x. BecomesOf stands (event.Poll session slot) x (Some a) new) (sym asks.is) (subst (λ x. RunsOn stands (event.Poll session slot) x home (Some a) new) asks.is runs)

  polled_idle : (session slot : ℕ) (sites : Sites) (home : SiteId) (old new : Option (ClientView R)) → goes_on (outcome_of (polled stands sites slot old)) ≡ false
      → RunsOn stands (event.Poll session slot) (polled stands sites slot old) home old new → IsIdlePollOf slot old new
  polled_idle session slot sites home None new still runs = runs
  polled_idle session slot sites home (Some a) new still runs =
      let idle = idle_held sites a slot (held_in slot a.session.slots) still in
      idle_of session slot sites (polled stands sites slot (Some a)) (Some a) new
      (λ c is. subst (λ x. IsIdleBy stands sites x slot (polled stands sites slot (Some a))) (same_Some a c is) idle)
      (runs_idle session slot sites home a new (polled stands sites slot (Some a)) idle runs)

  same_of : (slot : ℕ) (old new : Option (ClientView R)) → new ≡ old → IsIdlePollOf slot old new
  same_of slot None new same = same
  same_of slot (Some a) None same = absurd (none-some a same)
  same_of slot (Some a) (Some b) same = same_poll slot a b (same_Some b a same)

  -- of each session, at the slot that was polled, which for the others is any
  pub poll_leaves : (session slot : ℕ) (old new : WorldView R) (result : Outcome) → IsWorldStep stands (event.Poll session slot) old result new → goes_on result ≡ false → (s : ℕ)
      → IsIdlePollOf slot (client_in s old.lives) (client_in s new.lives)
  poll_leaves session slot old new result (is, does) still s = by (session == s) refl (client_then stands (event.Poll session slot) (polled stands old.sites slot (client_in session old.lives)) old new does s)
    where
      by : (b : Bool) → (session == s) ≡ b
          → (client_in s new.lives ≡ client_in s old.lives)
          ⊎ ((home : SiteId) × RunsOn stands (event.Poll session slot) (polled stands old.sites slot (client_in session old.lives)) home (client_in s old.lives) (client_in s new.lives))
          → IsIdlePollOf slot (client_in s old.lives) (client_in s new.lives)
      by b named (inl same) = same_of slot (client_in s old.lives) (client_in s new.lives) same
      by true named (inr (home, runs)) =
          let same : session ≡ s = eqb-true session s named in
          polled_idle session slot old.sites home (client_in s old.lives) (client_in s new.lives)
          (subst (λ n. goes_on (outcome_of (polled stands old.sites slot (client_in n old.lives))) ≡ false) same (sym (ap goes_on is) ∙ still))
          (subst (λ n. RunsOn stands (event.Poll session slot) (polled stands old.sites slot (client_in n old.lives)) home (client_in s old.lives) (client_in s new.lives)) same runs)
      by false other (inr on) = same_of slot (client_in s old.lives) (client_in s new.lives) (ap running_of (does.others s other))

  -- ---- a notice that is delivered

  abbrev pub HearsOf : (old new : Option (ClientView R)) → Type 0
  HearsOf None new = new ≡ None
  HearsOf (Some a) None = ⊥
  HearsOf (Some a) (Some b) = (b ≡ a) ⊎ ((n : Notice) × Hears stands n a b)

  same_hears : (old new : Option (ClientView R)) → new ≡ old → HearsOf old new
  same_hears None new same = same
  same_hears (Some a) None same = absurd (none-some a same)
  same_hears (Some a) (Some b) same = inl (same_Some b a same)

  nothing_hears : (number : ℕ) (home : SiteId) (old new : Option (ClientView R)) → RunsOn stands (event.Deliver number) Nothing home old new → HearsOf old new
  nothing_hears number home None new runs = runs
  nothing_hears number home (Some a) None runs = absurd runs
  nothing_hears number home (Some a) (Some b) runs = inl runs

  heard_hears : (number : ℕ) (n : Notice) (home : SiteId) (old new : Option (ClientView R)) → RunsOn stands (event.Deliver number) (Heard n) home old new → HearsOf old new
  heard_hears number n home None new runs = runs
  heard_hears number n home (Some a) None runs = absurd runs
  heard_hears number n home (Some a) (Some b) runs = inr (n, runs)

  delivered_hears : (number : ℕ) (lives : List (LivesView R)) (o : Option Notice) (home : SiteId) (old new : Option (ClientView R)) → RunsOn stands (event.Deliver number) (delivered o lives) home old new → HearsOf old new
  delivered_hears number lives None home old new runs = nothing_hears number home old new runs
  delivered_hears number lives (Some n) home old new runs = by (client_in n.to.session lives) runs
    where
      by : (c : Option (ClientView R)) → RunsOn stands (event.Deliver number) (heard_by n c) home old new → HearsOf old new
      by None runs = nothing_hears number home old new runs
      by (Some c) runs = go (same_instance c.session.instance n.to) runs
        where
          go : (b : Bool) → RunsOn stands (event.Deliver number) (cond b (Heard n) Nothing) home old new → HearsOf old new
          go true runs = heard_hears number n home old new runs
          go false runs = nothing_hears number home old new runs

  pub delivery_leaves : (number : ℕ) (old new : WorldView R) (result : Outcome) → IsWorldStep stands (event.Deliver number) old result new → (s : ℕ) → HearsOf (client_in s old.lives) (client_in s new.lives)
  delivery_leaves number old new result (is, does) s = by (client_then stands (event.Deliver number) (delivered (notice_numbered number old.sites.mail) old.lives) old new does s)
    where
      by : (client_in s new.lives ≡ client_in s old.lives)
          ⊎ ((home : SiteId) × RunsOn stands (event.Deliver number) (delivered (notice_numbered number old.sites.mail) old.lives) home (client_in s old.lives) (client_in s new.lives))
          → HearsOf (client_in s old.lives) (client_in s new.lives)
      by (inl same) = same_hears (client_in s old.lives) (client_in s new.lives) same
      by (inr (home, runs)) = delivered_hears number old.lives (notice_numbered number old.sites.mail) home (client_in s old.lives) (client_in s new.lives) runs

  -- ---- who is still stays so

  on_locks : (w : Way) (look : Option ImageAt) (old new : LocksView) → AreStatesAlike old new → actor_on w look new ≡ actor_on w look old
  on_locks (way.On a) look old new same = refl
  on_locks (way.Taken p) look old new same = refl
  on_locks way.Unbegun None old new same = refl
  on_locks way.Unbegun (Some p) old new same = ap (λ s. actor_by s p.site p.image) (same p.site p.image)

  pub acts_same : (slot : ℕ) (a b : ClientView R) → (slot == 0) ≡ false → b.session ≡ a.session → AreStatesAlike a.locks b.locks → slot_state slot b.slots ≡ slot_state slot a.slots → actor_at stands slot b ≡ actor_at stands slot a
  acts_same slot a b some session locks state =
      ap (λ x. cond x (release_actor b.release (due_release b)) (actor_on (slot_state slot b.slots).way (look_under_lock_at stands slot b.session) b.locks)) some
      ∙ ap (λ (s : SlotState). actor_on s.way (look_under_lock_at stands slot b.session) b.locks) state
      ∙ ap (λ (s : SessionView R). actor_on (slot_state slot a.slots).way (look_under_lock_at stands slot s) b.locks) session
      ∙ on_locks (slot_state slot a.slots).way (look_under_lock_at stands slot a.session) a.locks b.locks locks
      ∙ sym (ap (λ x. cond x (release_actor a.release (due_release a)) (actor_on (slot_state slot a.slots).way (look_under_lock_at stands slot a.session) a.locks)) some)

  still_so : (slot : ℕ) (a b : ClientView R) → b.session ≡ a.session → (who : Actor) → actor_at stands slot b ≡ who → StaysIn slot a.session.lines who (held_in slot a.session.slots) → IsStill stands slot b
  still_so slot a b session who acts still =
      subst (λ w. StaysIn slot b.session.lines w (held_in slot b.session.slots)) (sym acts) (subst (λ (s : SessionView R). StaysIn slot s.lines who (held_in slot s.slots)) (sym session) still)

  way_still : (slot : ℕ) (lines : LinesView) (who : Actor) (a : Acquire) (o : Option (Occupant R)) → StaysIn slot lines who o → StaysIn slot lines (actor.Way a) o
  way_still slot lines who a None still = tt
  way_still slot lines who a (Some (occupant.Refused line refusal)) still = still
  way_still slot lines who a (Some (occupant.Running r)) still = tt

  poll_still : (slot other : ℕ) (a b : ClientView R) → (other == 0) ≡ false → IsIdlePoll slot a b → IsStill stands other a → IsStill stands other b
  poll_still slot other a b some poll still = by (cases_eq other slot)
    where
      there : (other ≡ slot) → (actor_at stands slot b ≡ actor_at stands slot a) ⊎ ((y : Acquire) × (actor_at stands slot b ≡ actor.Way y)) → IsStill stands other b
      there same (inl acts) =
          still_so other a b poll.session (actor_at stands other a) (subst (λ n. actor_at stands n b ≡ actor_at stands n a) (sym same) acts) still
      there same (inr (y, acts)) =
          still_so other a b poll.session (actor.Way y) (subst (λ n. actor_at stands n b ≡ actor.Way y) (sym same) acts)
          (way_still other a.session.lines (actor_at stands other a) y (held_in other a.session.slots) still)

      by : (other ≡ slot) ⊎ (other ≡ slot → ⊥) → IsStill stands other b
      by (inl same) = there same (poll.acts (subst (λ n. (n == 0) ≡ false) same some))
      by (inr away) = still_so other a b poll.session (actor_at stands other a) (acts_same other a b some poll.session poll.locks (poll.states other away)) still

  -- a lock that was asked for holds back who would go on
  asked_still : (slot : ℕ) (lines : LinesView) (r : Running R) (w : Acquire) (quiesced owned asked : Bool) → Stays slot lines r (cond (quiesced || asked) actor.Nobody (cond owned actor.Request (actor.Way w)))
      → Stays slot lines r (cond (quiesced || cond owned true asked) actor.Nobody (cond owned actor.Request (actor.Way w)))
  asked_still slot lines r w true owned asked still = tt
  asked_still slot lines r w false true asked still = tt
  asked_still slot lines r w false false asked still = still

  told_still : (slot : ℕ) (lines : LinesView) (r : Running R) (p : ImageAt) (kind : NoticeKind) (here : Bool) (s : LockState) → Stays slot lines r (actor_by s p.site p.image)
      → Stays slot lines r (actor_by (cond here (told_state kind s) s) p.site p.image)
  told_still slot lines r p kind false s still = still
  told_still slot lines r p notice.RequestLock true s still = asked_still slot lines r (begun_way p.site p.image s.watched) s.quiesced s.owned s.asked still
  told_still slot lines r p _ true s still = still

  hears_on : (slot : ℕ) (lines : LinesView) (r : Running R) (n : Notice) (w : Way) (look : Option ImageAt) (old new : LocksView)
      → ((s : SiteId) (image : ℕ) → lock_state_at s image new ≡ heard n s image (lock_state_at s image old)) → Stays slot lines r (actor_on w look old) → Stays slot lines r (actor_on w look new)
  hears_on slot lines r n (way.On a) look old new locks still = tt
  hears_on slot lines r n (way.Taken p) look old new locks still = still
  hears_on slot lines r n way.Unbegun None old new locks still = still
  hears_on slot lines r n way.Unbegun (Some p) old new locks still =
      subst (λ s. Stays slot lines r (actor_by s p.site p.image)) (sym (locks p.site p.image))
      (told_still slot lines r p n.kind (is_at n.site n.image p.site p.image) (lock_state_at p.site p.image old) still)

  hears_still : (slot : ℕ) (n : Notice) (a b : ClientView R) → (slot == 0) ≡ false → Hears stands n a b → IsStill stands slot a → IsStill stands slot b
  hears_still slot n a b some hears still = by (held_in slot a.session.slots) refl still
    where
      acts : (c : ClientView R) → actor_at stands slot c ≡ actor_on (slot_state slot c.slots).way (look_under_lock_at stands slot c.session) c.locks
      acts c = ap (λ x. cond x (release_actor c.release (due_release c)) (actor_on (slot_state slot c.slots).way (look_under_lock_at stands slot c.session) c.locks)) some

      now : actor_at stands slot b ≡ actor_on (slot_state slot a.slots).way (look_under_lock_at stands slot a.session) b.locks
      now = acts b ∙ ap (λ slots. actor_on (slot_state slot slots).way (look_under_lock_at stands slot b.session) b.locks) hears.slots
          ∙ ap (λ (s : SessionView R). actor_on (slot_state slot a.slots).way (look_under_lock_at stands slot s) b.locks) hears.session

      by : (o : Option (Occupant R)) → held_in slot a.session.slots ≡ o → StaysIn slot a.session.lines (actor_at stands slot a) o → IsStill stands slot b
      by None held still = still_so slot a b hears.session (actor_at stands slot b) refl (subst (StaysIn slot a.session.lines (actor_at stands slot b)) (sym held) tt)
      by (Some (occupant.Refused line refusal)) held still = absurd still
      by (Some (occupant.Running r)) held still =
          still_so slot a b hears.session (actor_on (slot_state slot a.slots).way (look_under_lock_at stands slot a.session) b.locks) now
          (subst (StaysIn slot a.session.lines (actor_on (slot_state slot a.slots).way (look_under_lock_at stands slot a.session) b.locks)) (sym held)
          (hears_on slot a.session.lines r n (slot_state slot a.slots).way (look_under_lock_at stands slot a.session) a.locks b.locks hears.locks
          (subst (Stays slot a.session.lines r) (acts a) still)))

  -- ---- an event of an idle round

  pub data IsIdleStep (old new : WorldView R) : Type 0 where
    Told : (number : ℕ) (result : Outcome) → IsWorldStep stands (event.Deliver number) old result new → IsIdleStep old new
    Asked : (session slot : ℕ) (result : Outcome) → goes_on result ≡ false → IsWorldStep stands (event.Poll session slot) old result new → IsIdleStep old new

  -- where a slot of a session is still
  abbrev pub IsStillIn : (session slot : ℕ) → WorldView R → Type 0
  IsStillIn session slot w = (c : ClientView R) → client_in session w.lives ≡ Some c → IsStill stands slot c

  still_poll_of : (slot other : ℕ) (old new : Option (ClientView R)) → (other == 0) ≡ false → IsIdlePollOf slot old new → ((c : ClientView R) → old ≡ Some c → IsStill stands other c) → (c : ClientView R) → new ≡ Some c → IsStill stands other c
  still_poll_of slot other None new some poll still c is = absurd (none-some c (sym poll ∙ is))
  still_poll_of slot other (Some a) None some poll still c is = absurd poll
  still_poll_of slot other (Some a) (Some b) some poll still c is = subst (IsStill stands other) (same_Some b c is) (poll_still slot other a b some poll (still a refl))

  still_hears_of : (other : ℕ) (old new : Option (ClientView R)) → (other == 0) ≡ false → HearsOf old new → ((c : ClientView R) → old ≡ Some c → IsStill stands other c) → (c : ClientView R) → new ≡ Some c → IsStill stands other c
  still_hears_of other None new some hears still c is = absurd (none-some c (sym hears ∙ is))
  still_hears_of other (Some a) None some hears still c is = absurd hears
  still_hears_of other (Some a) (Some b) some (inl same) still c is = subst (IsStill stands other) (sym same ∙ same_Some b c is) (still a refl)
  still_hears_of other (Some a) (Some b) some (inr (n, hears)) still c is = subst (IsStill stands other) (same_Some b c is) (hears_still other n a b some hears (still a refl))

  pub stays_still : (session slot : ℕ) → (slot == 0) ≡ false → (old new : WorldView R) → IsIdleStep old new → IsStillIn session slot old → IsStillIn session slot new
  stays_still session slot some old new (Told number result step) still =
      still_hears_of slot (client_in session old.lives) (client_in session new.lives) some (delivery_leaves number old new result step session) still
  stays_still session slot some old new (Asked s at result none step) still =
      still_poll_of at slot (client_in session old.lives) (client_in session new.lives) some (poll_leaves s at old new result step none session) still

  -- ---- requests stay, and no line begins or ends

  session_polled : (slot : ℕ) (old new : Option (ClientView R)) → IsIdlePollOf slot old new → session_of_client new ≡ session_of_client old
  session_polled slot None new poll = ap session_of_client poll
  session_polled slot (Some a) None poll = absurd poll
  session_polled slot (Some a) (Some b) poll = ap Some poll.session

  session_hears : (old new : Option (ClientView R)) → HearsOf old new → session_of_client new ≡ session_of_client old
  session_hears None new hears = ap session_of_client hears
  session_hears (Some a) None hears = absurd hears
  session_hears (Some a) (Some b) (inl same) = ap (λ (c : ClientView R). Some c.session) same
  session_hears (Some a) (Some b) (inr (n, hears)) = ap Some hears.session

  pub same_sessions : (old new : WorldView R) → IsIdleStep old new → (s : ℕ) → session_in s new.lives ≡ session_in s old.lives
  same_sessions old new (Told number result step) s = session_hears (client_in s old.lives) (client_in s new.lives) (delivery_leaves number old new result step s)
  same_sessions old new (Asked session slot result still step) s = session_polled slot (client_in s old.lives) (client_in s new.lives) (poll_leaves session slot old new result step still s)

  still_starts : (sites : Sites) (slot : ℕ) (c : Option (ClientView R)) → goes_on (outcome_of (polled stands sites slot c)) ≡ false → lets_start (outcome_of (polled stands sites slot c)) ≡ false
  still_starts sites slot None still = refl
  still_starts sites slot (Some c) still = by (polled stands sites slot (Some c)) (idle_held sites c slot (held_in slot c.session.slots) still)
    where
      by : (h : Happening) → IsIdleBy stands sites c slot h → lets_start (outcome_of h) ≡ false
      by h (inl is) = ap (λ x. lets_start (outcome_of x)) is
      by h (inr (inl is)) = ap (λ x. lets_start (outcome_of x)) is
      by h (inr (inr asks)) = ap (λ x. lets_start (outcome_of x)) asks.is

  heard_starts : (n : Notice) (c : Option (ClientView R)) → lets_start (outcome_of (heard_by n c)) ≡ false
  heard_starts n None = refl
  heard_starts n (Some c) = by (same_instance c.session.instance n.to)
    where
      by : (b : Bool) → lets_start (outcome_of (cond b (Heard n) Nothing)) ≡ false
      by true = refl
      by false = refl

  told_starts : (o : Option Notice) (lives : List (LivesView R)) → lets_start (outcome_of (delivered o lives)) ≡ false
  told_starts None lives = refl
  told_starts (Some n) lives = heard_starts n (client_in n.to.session lives)

  same_room : (old new : Option (ClientView R)) → session_of_client new ≡ session_of_client old → is_some (free_in new) ≡ is_some (free_in old)
  same_room None None same = refl
  same_room None (Some b) same = absurd (none-some b.session (sym same))
  same_room (Some a) None same = absurd (none-some a.session same)
  same_room (Some a) (Some b) same = ap (λ (s : SessionView R). is_some (free_slot s.lowest)) (same_Some b.session a.session same)

  -- so none comes to start
  pub stays_quiet : (given : (session : ℕ) → List Given) (old new : WorldView R) → IsIdleStep old new → IsQuiet given old → IsQuiet given new
  stays_quiet given old new (Told number result step) quiet =
      quiet_along given old new (begun_then stands (event.Deliver number) _ old new step.1 (λ line. event_begins stands line (event.Deliver number) old tt))
      (open_then stands (event.Deliver number) _ old new step.1 (λ line. still_open line _ (told_starts (notice_numbered number old.sites.mail) old.lives)))
      (λ s. same_room (client_in s old.lives) (client_in s new.lives) (same_sessions old new (Told number result step) s)) quiet
  stays_quiet given old new (Asked session slot result still step) quiet =
      quiet_along given old new (begun_then stands (event.Poll session slot) _ old new step.1 (λ line. event_begins stands line (event.Poll session slot) old tt))
      (open_then stands (event.Poll session slot) _ old new step.1 (λ line. still_open line _ (still_starts old.sites slot (client_in session old.lives) (sym (ap goes_on step.0) ∙ still))))
      (λ s. same_room (client_in s old.lives) (client_in s new.lives) (same_sessions old new (Asked session slot result still step) s)) quiet

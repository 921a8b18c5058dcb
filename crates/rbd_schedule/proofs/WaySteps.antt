-- A way to a lock behind an idle step: it is as it was, or it asked again and stands at its next
-- stage.
use Rattle.std.proofs.Common.{◌≡◌, ◌≢◌, ℕ, ◌==◌, ◌||◌, ◌⊎◌, inl, inr, cond, Bool, true, false, Option, Some, None, refl, sym, ap, ◌∙◌, subst}
use Rattle.std.proofs.lemmas.Bool.{cases_eq, false≢true, ne_eqb}
use Rattle.std.proofs.lemmas.Option.{none-some, same_Some}
use Rattle.rbd_client.specs.declared.actor.Actor.{Actor}
use Rattle.rbd_client.specs.declared.actor.Actor.TheVariants as actor
use Rattle.rbd_client.specs.declared.slot_state.Way.{Way}
use Rattle.rbd_client.specs.declared.slot_state.Way.TheVariants as way
use Rattle.rbd_client.specs.Actor.{actor_at, actor_by, actor_on, due_release, is_acquiring, release_actor}
use Rattle.rbd_client.specs.Client.{ClientView, slot_state}
use Rattle.rbd_client.specs.Feeding.{IsFedBy, WayComesTo}
use Rattle.rbd_kinds.specs.declared.answer.Answer.{Answer}
use Rattle.rbd_kinds.specs.declared.answer.Answer.TheVariants as answer
use Rattle.rbd_kinds.specs.declared.id.Instance.{Instance}
use Rattle.rbd_kinds.specs.declared.id.SiteId.{SiteId}
use Rattle.rbd_kinds.specs.declared.image_at.ImageAt.{ImageAt}
use Rattle.rbd_kinds.specs.declared.machine.Fed.{Fed}
use Rattle.rbd_kinds.specs.declared.machine.Fed.TheVariants as fed
use Rattle.rbd_kinds.specs.declared.notice.Notice.{Notice}
use Rattle.rbd_kinds.specs.declared.notice.NoticeKind.{NoticeKind}
use Rattle.rbd_kinds.specs.declared.notice.NoticeKind.TheVariants as notice
use Rattle.rbd_kinds.specs.Images.{is_at}
use Rattle.rbd_kinds.specs.OperationKind.{kind_of}
use Rattle.rbd_lock.specs.declared.lock_state.LockState.{LockState}
use Rattle.rbd_lock.specs.Locks.{LocksView, heard, lock_state_at}
use Rattle.rbd_lock.specs.States.{told_state}
use Rattle.rbd_machine.specs.Plan.{Standing}
use Rattle.rbd_lock.specs.Acquire.{begun_way, op_at_stage, op_of}
use Rattle.rbd_lock.specs.Waiting.{asks_again}
use Rattle.rbd_lock.specs.declared.acquire.Acquire.{Acquire}
use Rattle.rbd_lock.specs.declared.acquire.Stage.{Stage}
use Rattle.rbd_lock.specs.declared.acquire.Stage.TheVariants as stage
use Rattle.rbd_slots.specs.Session.{SessionView, held_in, look_under_lock_at, running_at}
use Rattle.rbd_slots.specs.declared.running.Running.{Running}
use Rattle.rbd_site.specs.Step.{answer_to}
use Rattle.rbd_world.specs.declared.event.Event.TheVariants as event
use Rattle.rbd_world.specs.declared.event.Outcome.{Outcome}
use Rattle.rbd_world.specs.declared.sites.Sites.{Sites}
use Rattle.rbd_world.specs.Run.{Did, Happening, Nothing, OnWay, Waited}
use Rattle.rbd_world.specs.Step.{Becomes, Goes, Hears, IsWorldStep, goes_on_by, operation_at, polled, polled_in}
use Rattle.rbd_world.specs.World.{WorldView, client_in, records_in, running_of, session_of_client, site_in}
use Rattle.rbd_schedule.specs.Schedule.{goes_on}
use Rattle.rbd_schedule.proofs.Going.{runs_there}
use Rattle.rbd_schedule.proofs.Idle.{AsksAgain, Asked, HearsOf, IsIdleBy, IsIdlePollOf, IsIdleStep, Told, acts_on, acts_same, delivery_leaves, idle_held, poll_leaves, same_sessions}
use Rattle.rbd_schedule.proofs.IdlePolls.{client_before, polled_becomes}
use Rattle.rbd_schedule.proofs.Nearing.{IsNext, goes_next}

-- the way that acts, or another one where none does
abbrev way_or : Acquire → Actor → Acquire
way_or other (actor.Way a) = a
way_or other who = other

abbrev is_did : Happening → Bool
is_did (Did o reply) = true
is_did h = false

module _ {R : Type 0} (stands : R → Standing) where
  -- ---- who has the same way

  -- a notice begins no way
  asked_way : (w x : Acquire) (quiesced owned asked : Bool) → cond (quiesced || cond owned true asked) actor.Nobody (cond owned actor.Request (actor.Way w)) ≡ actor.Way x
      → cond (quiesced || asked) actor.Nobody (cond owned actor.Request (actor.Way w)) ≡ actor.Way x
  asked_way w x true owned asked is = is
  asked_way w x false true asked is = absurd (false≢true (ap is_acquiring is))
  asked_way w x false false asked is = is

  told_way : (x : Acquire) (p : ImageAt) (kind : NoticeKind) (here : Bool) (s : LockState) → actor_by (cond here (told_state kind s) s) p.site p.image ≡ actor.Way x → actor_by s p.site p.image ≡ actor.Way x
  told_way x p kind false s is = is
  told_way x p notice.RequestLock true s is = asked_way (begun_way p.site p.image s.watched) x s.quiesced s.owned s.asked is
  told_way x p _ true s is = is

  hears_way : (x : Acquire) (n : Notice) (w : Way) (look : Option ImageAt) (old new : LocksView) → ((s : SiteId) (image : ℕ) → lock_state_at s image new ≡ heard n s image (lock_state_at s image old))
      → actor_on w look new ≡ actor.Way x → actor_on w look old ≡ actor.Way x
  hears_way x n (way.On a) look old new locks is = is
  hears_way x n (way.Taken p) look old new locks is = is
  hears_way x n way.Unbegun None old new locks is = is
  hears_way x n way.Unbegun (Some p) old new locks is =
      told_way x p n.kind (is_at n.site n.image p.site p.image) (lock_state_at p.site p.image old) (subst (λ s. actor_by s p.site p.image ≡ actor.Way x) (locks p.site p.image) is)

  acts_by : (slot : ℕ) (c : ClientView R) → (slot == 0) ≡ false → actor_at stands slot c ≡ actor_on (slot_state slot c.slots).way (look_under_lock_at stands slot c.session) c.locks
  acts_by slot c some = ap (λ b. cond b (release_actor c.release (due_release c)) (actor_on (slot_state slot c.slots).way (look_under_lock_at stands slot c.session) c.locks)) some

  heard_way : (slot : ℕ) (n : Notice) (a b : ClientView R) → (slot == 0) ≡ false → Hears stands n a b → (x : Acquire) → actor_at stands slot b ≡ actor.Way x → actor_at stands slot a ≡ actor.Way x
  heard_way slot n a b some hears x acts = acts_by slot a some ∙ hears_way x n (slot_state slot a.slots).way (look_under_lock_at stands slot a.session) a.locks b.locks hears.locks (sym now ∙ acts)
    where
      now : actor_at stands slot b ≡ actor_on (slot_state slot a.slots).way (look_under_lock_at stands slot a.session) b.locks
      now = acts_by slot b some
          ∙ ap (λ slots. actor_on (slot_state slot slots).way (look_under_lock_at stands slot b.session) b.locks) hears.slots
          ∙ ap (λ (s : SessionView R). actor_on (slot_state slot a.slots).way (look_under_lock_at stands slot s) b.locks) hears.session

  -- ---- a poll of the slot

  -- what it was told, of a client's way at a site
  abbrev pub told_on : Sites → Instance → Acquire → Answer
  told_on sites me on = answer_to (records_in on.site sites) me (op_of on)

  -- The way asked again by a poll of its slot, and is this one behind it.
  pub record IsWayStep (sites : Sites) (slot : ℕ) (a : ClientView R) (y : Acquire) : Type 0 where
    pub on : Acquire
    pub acts : actor_at stands slot a ≡ actor.Way on
    pub line : ℕ
    pub is : polled stands sites slot (Some a) ≡ Did (operation_at (site_in on.site sites) a.session.instance (OnWay line) on.site (op_of on)) None
    pub again : asks_again (kind_of (op_of on)) (told_on sites a.session.instance on) ≡ true
    pub site_is : y.site ≡ on.site
    pub image_is : y.image ≡ on.image
    pub next : IsNext on.stage (told_on sites a.session.instance on) y.stage

  module _ (sites : Sites) (slot : ℕ) (some : (slot == 0) ≡ false) (a b : ClientView R) where
    stepped : (session : ℕ) → AsksAgain stands sites a slot (polled stands sites slot (Some a)) → Becomes stands (event.Poll session slot) (polled stands sites slot (Some a)) a b
        → (y : Acquire) → actor_at stands slot b ≡ actor.Way y → IsWayStep sites slot a y
    stepped session asks becomes y acts = by (slot_state slot b.slots).way refl goes.comes
      where
        on : Acquire
        on = asks.on

        told_it : Answer
        told_it = told_on sites a.session.instance on

        fed_it : Goes stands slot (operation_at (site_in on.site sites) a.session.instance (OnWay asks.line) on.site (op_of on)) None a b
        fed_it = subst (λ x. Becomes stands (event.Poll session slot) x a b) asks.is becomes

        goes : IsFedBy stands slot on.site (op_of on) (fed.Answer told_it) None a b (actor.Way on)
        goes = subst (IsFedBy stands slot on.site (op_of on) (fed.Answer told_it) None a b) asks.acts fed_it.fed

        by : (w : Way) → (slot_state slot b.slots).way ≡ w → WayComesTo on (fed.Answer told_it) None w → IsWayStep sites slot a y
        by (way.On z) at comes =
            let one : z ≡ y = ap (way_or z) (sym (acts_on stands slot b z some at) ∙ acts) in
            record {
              on = on;
              acts = asks.acts;
              line = asks.line;
              is = asks.is;
              again = asks.again;
              site_is = sym (ap (λ (x : Acquire). x.site) one) ∙ comes.site;
              image_is = sym (ap (λ (x : Acquire). x.image) one) ∙ comes.image;
              next = subst (λ (x : Acquire). IsNext on.stage told_it x.stage) one (goes_next on z told_it asks.again comes);
            }
        by (way.Taken p) at comes = absurd (not_done on.stage comes.asked (sym (ap (asks_again (kind_of (op_of on))) (told_done comes.done)) ∙ asks.again))
          where
            told_done : ◌≡◌ {A = Fed} (fed.Answer told_it) (fed.Answer answer.Done) → told_it ≡ answer.Done
            told_done is = cc

            not_done : (at : Stage) → at ≡ stage.Taking → asks_again (kind_of (op_at_stage at on.image)) answer.Done ≡ true → ⊥
            not_done at is again = false≢true (subst (λ x. asks_again (kind_of (op_at_stage x on.image)) answer.Done ≡ true) is again)
        by way.Unbegun at comes = absurd comes

    -- nobody's way acted where nothing was done
    none_stepped : (h : Happening) → is_did h ≡ false → h ≡ polled stands sites slot (Some a) → b ≡ a → (r : Running R) → running_at slot b.session ≡ Some r → (x : Acquire) → actor_at stands slot b ≡ actor.Way x → ⊥
    none_stepped h none is same r runs x acts =
        let held = runs_there (held_in slot a.session.slots) r (sym (ap (λ (c : ClientView R). running_at slot c.session) same) ∙ runs) in
        let who : actor_at stands slot a ≡ actor.Way x = sym (ap (actor_at stands slot) same) ∙ acts in
        false≢true (sym none ∙ ap is_did is ∙ ap (λ o. is_did (polled_in stands sites a slot o)) held ∙ ap (λ w. is_did (goes_on_by stands sites a slot r w)) who)

    polled_steps : (session : ℕ) → IsIdleBy stands sites a slot (polled stands sites slot (Some a)) → Becomes stands (event.Poll session slot) (polled stands sites slot (Some a)) a b
        → (r : Running R) → running_at slot b.session ≡ Some r → (y : Acquire) → actor_at stands slot b ≡ actor.Way y → IsWayStep sites slot a y
    polled_steps session (inl is) becomes r runs y acts = absurd (none_stepped Nothing refl (sym is) (subst (λ h. Becomes stands (event.Poll session slot) h a b) is becomes) r runs y acts)
    polled_steps session (inr (inl is)) becomes r runs y acts = absurd (none_stepped Waited refl (sym is) (subst (λ h. Becomes stands (event.Poll session slot) h a b) is becomes) r runs y acts)
    polled_steps session (inr (inr asks)) becomes r runs y acts = stepped session asks becomes y acts

  -- ---- in a world

  -- the client before, with the same requests
  pub record WasClient (session : ℕ) (old : WorldView R) (c : ClientView R) : Type 0 where
    pub client : ClientView R
    pub there : client_in session old.lives ≡ Some client
    pub same : c.session ≡ client.session

  pub was_client : (session : ℕ) (old new : WorldView R) → IsIdleStep stands old new → (c : ClientView R) → client_in session new.lives ≡ Some c → WasClient session old c
  was_client session old new step c there =
      let was = client_before stands session old new step c there in
      record {
        client = was.0;
        there = was.1;
        same = same_Some c.session was.0.session (sym (ap session_of_client there) ∙ same_sessions stands old new step session ∙ ap session_of_client was.1);
      }

  -- a way behind a poll of its slot asked again by it
  pub way_polled : (session slot : ℕ) → (slot == 0) ≡ false → (old new : WorldView R) (result : Outcome) → IsWorldStep stands (event.Poll session slot) old result new → goes_on result ≡ false
      → (c : ClientView R) → client_in session new.lives ≡ Some c → (r : Running R) → running_at slot c.session ≡ Some r → (y : Acquire) → actor_at stands slot c ≡ actor.Way y
      → (was : WasClient session old c) × IsWayStep old.sites slot was.client y
  way_polled session slot some old new result step none c there r runs y acts =
      let was = was_client session old new (Asked session slot result none step) c there in
      let becomes = polled_becomes stands session slot old new result step none was.client c was.there there in
      (was, polled_steps old.sites slot some was.client c session (idle_held stands old.sites was.client slot (held_in slot was.client.session.slots) becomes.0) becomes.1 r runs y acts)

  -- the way before
  abbrev pub IsWayBefore : (session slot : ℕ) (old new : WorldView R) (a : ClientView R) (y : Acquire) → Type 0
  IsWayBefore session slot old new a y =
      (actor_at stands slot a ≡ actor.Way y) ⊎ ((result : Outcome) × (goes_on result ≡ false) × IsWorldStep stands (event.Poll session slot) old result new × IsWayStep old.sites slot a y)

  heard_of : (slot : ℕ) (old new : Option (ClientView R)) → (slot == 0) ≡ false → HearsOf stands old new → (a c : ClientView R) → old ≡ Some a → new ≡ Some c → (y : Acquire) → actor_at stands slot c ≡ actor.Way y → actor_at stands slot a ≡ actor.Way y
  heard_of slot None new some hears a c was is y acts = absurd (none-some a was)
  heard_of slot (Some x) None some hears a c was is y acts = absurd hears
  heard_of slot (Some x) (Some z) some (inl same) a c was is y acts = subst (λ d. actor_at stands slot d ≡ actor.Way y) (sym (same_Some z c is) ∙ same ∙ same_Some x a was) acts
  heard_of slot (Some x) (Some z) some (inr (n, hears)) a c was is y acts =
      subst (λ d. actor_at stands slot d ≡ actor.Way y) (same_Some x a was) (heard_way slot n x z some hears y (subst (λ d. actor_at stands slot d ≡ actor.Way y) (sym (same_Some z c is)) acts))

  other_of : (slot at : ℕ) (old new : Option (ClientView R)) → (slot == 0) ≡ false → slot ≢ at → IsIdlePollOf stands at old new → (a c : ClientView R) → old ≡ Some a → new ≡ Some c → (y : Acquire) → actor_at stands slot c ≡ actor.Way y
      → actor_at stands slot a ≡ actor.Way y
  other_of slot at None new some away poll a c was is y acts = absurd (none-some a was)
  other_of slot at (Some x) None some away poll a c was is y acts = absurd poll
  other_of slot at (Some x) (Some z) some away poll a c was is y acts =
      subst (λ d. actor_at stands slot d ≡ actor.Way y) (same_Some x a was)
      (sym (acts_same stands slot x z some poll.session poll.locks (poll.states slot away)) ∙ subst (λ d. actor_at stands slot d ≡ actor.Way y) (sym (same_Some z c is)) acts)

  pub way_before : (session slot : ℕ) → (slot == 0) ≡ false → (old new : WorldView R) → IsIdleStep stands old new → (c : ClientView R) → client_in session new.lives ≡ Some c → (r : Running R) → running_at slot c.session ≡ Some r
      → (y : Acquire) → actor_at stands slot c ≡ actor.Way y → (was : WasClient session old c) × IsWayBefore session slot old new was.client y
  way_before session slot some old new (Told number result step) c there r runs y acts =
      let was = was_client session old new (Told number result step) c there in
      (was, inl (heard_of slot (client_in session old.lives) (client_in session new.lives) some (delivery_leaves stands number old new result step session) was.client c was.there there y acts))
  way_before session slot some old new (Asked s at result none step) c there r runs y acts = by (cases_eq slot at) (cases_eq session s)
    where
      was : WasClient session old c
      was = was_client session old new (Asked s at result none step) c there

      by : (slot ≡ at) ⊎ (slot ≡ at → ⊥) → (session ≡ s) ⊎ (session ≡ s → ⊥) → (was : WasClient session old c) × IsWayBefore session slot old new was.client y
      by (inr away) other = (was, inl (other_of slot at (client_in session old.lives) (client_in session new.lives) some away (poll_leaves stands s at old new result step none session) was.client c was.there there y acts))
      by (inl here) (inr elsewhere) =
          let same : c ≡ was.client = same_Some c was.client (sym there ∙ ap running_of (step.1.others session (ne_eqb s session (λ is. elsewhere (sym is)))) ∙ was.there) in
          (was, inl (subst (λ d. actor_at stands slot d ≡ actor.Way y) same acts))
      by (inl here) (inl mine) =
          let own = subst (λ k. IsWorldStep stands (event.Poll k slot) old result new) (sym mine) (subst (λ k. IsWorldStep stands (event.Poll s k) old result new) (sym here) step) in
          let polled = way_polled session slot some old new result own none c there r runs y acts in
          (polled.0, inr (result, none, own, polled.1))

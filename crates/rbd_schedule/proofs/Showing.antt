-- In rounds in which nothing goes on, each way to a lock comes to have shown whose the lock is.
use Rattle.std.proofs.Common.{◌≡◌, ℕ, zero, suc, ◌+◌, ◌<◌, ◌≤◌, ◌==◌, ◌⊎◌, inl, inr, Bool, false, List, Option, Some, None, refl, sym, ap, ◌∙◌, subst, arith}
use Rattle.std.proofs.lemmas.Bool.{cases_lt, true≢false}
use Rattle.std.proofs.lemmas.Option.{none-some}
use Rattle.rbd_client.specs.declared.actor.Actor.TheVariants as actor
use Rattle.rbd_client.specs.Actor.{actor_at}
use Rattle.rbd_client.specs.Client.{ClientView}
use Rattle.rbd_kinds.specs.declared.id.SiteId.{SiteId}
use Rattle.rbd_machine.specs.Plan.{Standing}
use Rattle.rbd_lock.specs.declared.acquire.Acquire.{Acquire}
use Rattle.rbd_slots.specs.Session.{IsSoundSession, SessionView, held_in, running_at, running_in}
use Rattle.rbd_slots.specs.declared.running.Occupant.{Occupant}
use Rattle.rbd_slots.specs.declared.running.Running.{Running}
use Rattle.rbd_slots.proofs.Sound.{held_range}
use Rattle.rbd_site.specs.Records.{Records}
use Rattle.rbd_world.specs.declared.event.Event.TheVariants as event
use Rattle.rbd_world.specs.declared.event.Outcome.{Outcome}
use Rattle.rbd_world.specs.declared.sites.Sites.{Sites}
use Rattle.rbd_world.specs.Step.{IsWorldStep}
use Rattle.rbd_world.specs.World.{WorldView, client_in, records_in, session_of_client}
use Rattle.rbd_schedule.specs.declared.given.Given.{Given}
use Rattle.rbd_schedule.specs.Deeds.{Deeds}
use Rattle.rbd_schedule.specs.Schedule.{Pace, Round, goes_on}
use Rattle.rbd_schedule.specs.Starts.{IsQuiet}
use Rattle.rbd_schedule.proofs.Ended.{comes_turns, keeps_turns, sounds_step}
use Rattle.rbd_schedule.proofs.Idle.{IsIdleStep, same_sessions}
use Rattle.rbd_schedule.proofs.Nearing.{Nears, nears_more, nears_on}
use Rattle.rbd_schedule.proofs.WaySteps.{IsWayBefore, IsWayStep, WasClient, way_before, way_polled}
use Rattle.rbd_schedule.proofs.Unchanged.{IsAsIn, as_before, idle_unchanged}

-- both sites are as they were
abbrev pub AreAsIn : (base : SiteId → Records) → Sites → Type 0
AreAsIn base sites = (s : SiteId) → IsAsIn (base s) (records_in s sites)

module _ {R : Type 0} (stands : R → Standing) (base : SiteId → Records) where
  -- The way of a request in a slot has shown it, or so many polls are left.
  abbrev pub Shows : (left slot : ℕ) → ClientView R → Type 0
  Shows left slot c = (r : Running R) → running_at slot c.session ≡ Some r → (a : Acquire) → actor_at stands slot c ≡ actor.Way a → Nears (base a.site) c.session.instance a.image left a.stage

  abbrev pub ShowsIn : (left session slot : ℕ) → WorldView R → Type 0
  ShowsIn left session slot w = (c : ClientView R) → client_in session w.lives ≡ Some c → Shows left slot c

  -- ---- an idle step

  -- a step on the way
  stepped : (sites : Sites) → AreAsIn base sites → (left slot : ℕ) (a : ClientView R) (y : Acquire) → (it : IsWayStep stands sites slot a y) → Nears (base it.on.site) a.session.instance it.on.image (suc left) it.on.stage
      → Nears (base y.site) a.session.instance y.image left y.stage
  stepped sites alike left slot a y it before =
      let on = it.on in
      let near = nears_on (base on.site) a.session.instance on.image (records_in on.site sites) (alike on.site) left on.stage y.stage it.again it.next before in
      subst (λ s. Nears (base s) a.session.instance y.image left y.stage) (sym it.site_is) (subst (λ i. Nears (base on.site) a.session.instance i left y.stage) (sym it.image_is) near)

  -- behind a poll of it one is left less
  pub polls_show : (left session slot : ℕ) → (slot == 0) ≡ false → (old new : WorldView R) (result : Outcome) → IsWorldStep stands (event.Poll session slot) old result new → goes_on result ≡ false → AreAsIn base old.sites
      → ShowsIn (suc left) session slot old → ShowsIn left session slot new
  polls_show left session slot some old new result step none alike shows c there r runs y acts = by (way_polled stands session slot some old new result step none c there r runs y acts)
    where
      by : (was : WasClient stands session old c) × IsWayStep stands old.sites slot was.client y → Nears (base y.site) c.session.instance y.image left y.stage
      by (was, it) =
          subst (λ (s : SessionView R). Nears (base y.site) s.instance y.image left y.stage) (sym was.same)
          (stepped old.sites alike left slot was.client y it (shows was.client was.there r (sym (ap (running_at slot) was.same) ∙ runs) it.on it.acts))

  pub step_shows : (left session slot : ℕ) → (slot == 0) ≡ false → (old new : WorldView R) → IsIdleStep stands old new → AreAsIn base old.sites → ShowsIn left session slot old → ShowsIn left session slot new
  step_shows left session slot some old new step alike shows c there r runs y acts = by (way_before stands session slot some old new step c there r runs y acts)
    where
      by : (was : WasClient stands session old c) × IsWayBefore stands session slot old new was.client y → Nears (base y.site) c.session.instance y.image left y.stage
      by (was, inl same) = subst (λ (s : SessionView R). Nears (base y.site) s.instance y.image left y.stage) (sym was.same) (shows was.client was.there r (sym (ap (running_at slot) was.same) ∙ runs) y same)
      by (was, inr (result, none, own, it)) =
          subst (λ (s : SessionView R). Nears (base y.site) s.instance y.image left y.stage) (sym was.same)
          (stepped old.sites alike left slot was.client y it
          (nears_more (base it.on.site) was.client.session.instance it.on.image left it.on.stage (shows was.client was.there r (sym (ap (running_at slot) was.same) ∙ runs) it.on it.acts)))

  -- ---- behind an idle round

  -- in each slot so many are left
  pub record AllShow (left : ℕ) (n : ℕ) (w : WorldView R) : Type 0 where
    pub alike : AreAsIn base w.sites
    pub sound : (s : ℕ) (c : ClientView R) → client_in s w.lives ≡ Some c → IsSoundSession stands c.session
    pub none : (s : ℕ) → n ≤ s → client_in s w.lives ≡ None
    pub shows : (session slot : ℕ) → (slot == 0) ≡ false → ShowsIn left session slot w

  none_of : (o : Option (ClientView R)) → session_of_client o ≡ None → o ≡ None
  none_of None is = refl
  none_of (Some c) is = absurd (none-some c.session (sym is))

  all_step : (given : (session : ℕ) → List Given) (left n : ℕ) (old new : WorldView R) → IsIdleStep stands old new → AllShow left n old → AllShow left n new
  all_step given left n old new step all = record {
    alike = λ s. as_before (base s) (records_in s old.sites) (records_in s new.sites) (all.alike s) (idle_unchanged stands old new step s);
    sound = sounds_step stands given old new step all.sound;
    none = λ s past. none_of (client_in s new.lives) (same_sessions stands old new step s ∙ ap session_of_client (all.none s past));
    shows = λ session slot some. step_shows left session slot some old new step all.alike (all.shows session slot some);
  }

  shows_free : (left slot : ℕ) (c : ClientView R) → held_in slot c.session.slots ≡ None → Shows left slot c
  shows_free left slot c free r runs = absurd (none-some r (sym (ap running_in free) ∙ runs))

  module _ (given : (session : ℕ) → List Given) (lost : (number : ℕ) → Bool) (n : ℕ) where
    round_shows : (left : ℕ) (old new : WorldView R) → Round stands given lost n false old new → IsQuiet given old → AllShow (suc left) n old → AllShow left n new × IsQuiet given new
    round_shows left old new round quiet all = (
      record { alike = then.0.alike; sound = then.0.sound; none = then.0.none; shows = λ session slot some c there. in_range session slot some c there (cases_lt session n) (held_in slot c.session.slots) refl },
      then.1,
    )
      where
        before : Pace R
        before = record { world = old; went_on = false }

        behind : Pace R
        behind = record { world = new; went_on = false }

        then : AllShow (suc left) n new × IsQuiet given new
        then = keeps_turns stands given (AllShow (suc left) n) (all_step given (suc left) n) lost n before behind round refl (all, quiet)

        each : (session : ℕ) → session < n → (k : ℕ) → k < 64 → ShowsIn left session (k + 1) new
        each = comes_turns stands given (AllShow (suc left) n) (all_step given (suc left) n) (ShowsIn left)
            (λ session slot some a b step all. step_shows left session slot some a b step all.alike)
            (λ session slot some a b result step none all. polls_show left session slot some a b result step none all.alike (all.shows session slot some))
            (λ session slot w free c there. shows_free left slot c (free c there)) lost n before behind round refl quiet all

        in_range : (session slot : ℕ) → (slot == 0) ≡ false → (c : ClientView R) → client_in session new.lives ≡ Some c → (session < n) ⊎ (n ≤ session) → (o : Option (Occupant R)) → held_in slot c.session.slots ≡ o → Shows left slot c
        in_range session slot some c there (inr past) o at = absurd (none-some c (sym (then.0.none session past) ∙ there))
        in_range session slot some c there (inl below) None at = shows_free left slot c at
        in_range session zero some c there (inl below) (Some o) at = absurd (true≢false some)
        in_range session (suc k) some c there (inl below) (Some o) at =
            let range = held_range stands c.session (then.0.sound session c there) (suc k) o at in
            let same : k + 1 ≡ suc k = omega arith in
            subst (λ slot. Shows left slot c) same (each session below k (omega (arith, range)) c there)

    -- and behind so many rounds that many less
    pub rounds_show : (count left : ℕ) (old new : WorldView R) → Deeds (λ i. Round stands given lost n false) count old new → IsQuiet given old → AllShow (count + left) n old → AllShow left n new × IsQuiet given new
    unfolding Deeds
    rounds_show zero left old new done quiet all = let none : 0 + left ≡ left = omega arith in (subst (AllShow left n) (sym done) (subst (λ k. AllShow k n old) none all), subst (IsQuiet given) (sym done) quiet)
    rounds_show (suc count) left old new (between, first, last) quiet all =
        let more : suc count + left ≡ count + suc left = omega arith in
        let then = rounds_show count (suc left) old between first quiet (subst (λ k. AllShow k n old) more all) in
        round_shows left between new last then.1 then.0

-- A notice that was posted and isn't lost has been heard behind the next idle round: so who was
-- asked by it knows.
use Rattle.std.proofs.Common.{◌≡◌, ℕ, zero, suc, ◌+◌, ◌<◌, ◌≤◌, ◌==◌, ◌&&◌, inl, inr, not, Bool, true, false, List, length, is_some, Some, refl, sym, ap, ◌∙◌, subst, arith}
use Rattle.std.proofs.lemmas.Bool.{true≢false}
use Rattle.rbd_client.specs.declared.actor.Actor.TheVariants as actor
use Rattle.rbd_client.specs.Actor.{actor_at}
use Rattle.rbd_client.specs.Client.{ClientView}
use Rattle.rbd_kinds.specs.declared.id.Instance.{Instance}
use Rattle.rbd_kinds.specs.declared.id.SiteId.{SiteId}
use Rattle.rbd_kinds.specs.declared.notice.Notice.{Notice}
use Rattle.rbd_kinds.specs.Instances.{same_instance}
use Rattle.rbd_kinds.proofs.Instances.{same_instance_itself}
use Rattle.rbd_machine.specs.Plan.{Standing}
use Rattle.rbd_lock.specs.declared.acquire.Acquire.{Acquire}
use Rattle.rbd_slots.specs.Session.{SessionView, running_at}
use Rattle.rbd_slots.specs.declared.running.Running.{Running}
use Rattle.rbd_watch.specs.Posting.{notice_numbered}
use Rattle.rbd_world.specs.World.{WorldView, client_in, session_of_client}
use Rattle.rbd_schedule.specs.declared.given.Given.{Given}
use Rattle.rbd_schedule.specs.Deeds.{Deeds}
use Rattle.rbd_schedule.specs.Notices.{is_notice_due, is_to, runs, was_heard}
use Rattle.rbd_schedule.specs.Schedule.{DeliversWhere, Pace, Round, TurnOf, TurnWhere}
use Rattle.rbd_schedule.specs.Starts.{IsQuiet}
use Rattle.rbd_schedule.proofs.Elsewhere.{settled}
use Rattle.rbd_schedule.proofs.Ended.{HasRequestsOf, before_turn, client_of, either_way, keeps_all, keeps_due, keeps_dues, keeps_turn, keeps_turns, requests_step}
use Rattle.rbd_schedule.proofs.Idle.{IsIdleStep, Told}
use Rattle.rbd_schedule.proofs.Mailed.{IsMailed, there_below}
use Rattle.rbd_schedule.proofs.Posting.{HasBeenAsked, IsPosted, asked_step, deliver_asks, mailed_idle, posted_step}
use Rattle.rbd_schedule.proofs.WaySteps.{IsWayBefore, WasClient, way_before}

module _ {R : Type 0} (stands : R → Standing) (given : (session : ℕ) → List Given) (lost : (number : ℕ) → Bool) where
  module _ (owner : Instance) (site : SiteId) (image number : ℕ) (n : Notice) (found : lost number ≡ false) where
    abbrev Asks : WorldView R → Type 0
    Asks w = HasBeenAsked w owner site image

    abbrev Posts : WorldView R → Type 0
    Posts w = IsPosted w owner site image number n

    asks_step : (a b : WorldView R) → IsIdleStep stands a b → Asks a → Asks b
    asks_step a b step asks = asked_step stands a b step owner site image asks

    posts_step : (a b : WorldView R) → IsIdleStep stands a b → Posts a → Posts b
    posts_step a b step posts = posted_step stands a b step owner site image number n posts

    -- who isn't due to hear it has heard it
    not_due : (start : WorldView R) → Posts start → is_notice_due lost owner.session number start ≡ false → (c : ClientView R) → client_in owner.session start.lives ≡ Some c → c.session.instance ≡ owner → was_heard number start.calls ≡ true
    not_due start posts due c there me = by (was_heard number start.calls) refl
      where
        to : is_to (client_in owner.session start.lives) (notice_numbered number start.sites.mail) ≡ true
        to = ap (λ o. is_to o (notice_numbered number start.sites.mail)) there ∙ ap (is_to (Some c)) posts.posted ∙ ap (λ i. same_instance i n.to) (me ∙ sym posts.to) ∙ same_instance_itself n.to

        by : (b : Bool) → was_heard number start.calls ≡ b → was_heard number start.calls ≡ true
        by true is = is
        by false is =
            let yes : is_notice_due lost owner.session number start ≡ true
            = ap (λ b. b && (not (was_heard number start.calls) && not (lost number))) to ∙ ap (λ b. not b && not (lost number)) is ∙ ap not found in
            absurd (true≢false (sym yes ∙ due))

    -- ---- the notices of a turn

    due_asks : (start between new : WorldView R) → Posts start → IsQuiet given between → Posts between → HasRequestsOf stands given start between → (Asks start → Asks between) → (due : Bool) → is_notice_due lost owner.session number start ≡ due
        → DeliversWhere stands given due number between new → Asks new
    due_asks start between new posts quiet there same kept true due happens =
        let comes = happens.comes in
        subst Asks (sym (settled stands given between comes.between new (Told number happens.result comes.step) comes.starts.count comes.starts.starts quiet))
        (deliver_asks stands number happens.result between comes.between comes.step owner site image n there)
    due_asks start between new posts quiet there same kept false due is = subst Asks (sym is) asks
      where
        asks : Asks between
        asks c at me owned =
            let was = client_of stands given owner.session (client_in owner.session start.lives) c.session (sym (same owner.session) ∙ ap session_of_client at) in
            kept (posts.heard (not_due start posts due was.0 was.1 (ap (λ (s : SessionView R). s.instance) was.2 ∙ me))) c at me owned

    dues_ask : (start : WorldView R) (count : ℕ) (new : WorldView R) → Deeds (λ k. DeliversWhere stands given (is_notice_due lost owner.session (k + 1) start) (k + 1)) count start new → IsQuiet given start → Posts start
        → 1 ≤ number → number ≤ count → Asks new
    unfolding Deeds
    dues_ask start zero new done quiet posts some few = absurd (omega (arith, some, few))
    dues_ask start (suc count) new (between, first, it) quiet posts some few =
        let due = λ (k : ℕ). is_notice_due lost owner.session (k + 1) start in
        let there = keeps_dues stands given Posts posts_step due count start between first (posts, quiet) in
        let same = keeps_dues stands given (HasRequestsOf stands given start) (requests_step stands given start) due count start between first ((λ s. refl), quiet) in
        either_way number (count + 1)
        (λ less. (keeps_due stands given Asks asks_step (due count) (count + 1) between new it (dues_ask start count between first quiet posts some (omega (arith, less)), there.1)).0)
        (λ more.
        let is : number ≡ count + 1 = omega (arith, few, more) in
        due_asks start between new posts there.1 there.0 same.0 (λ asks. (keeps_dues stands given Asks asks_step due count start between first (asks, quiet)).0) (is_notice_due lost owner.session number start) refl
        (subst (λ k. DeliversWhere stands given (is_notice_due lost owner.session k start) k between new) (sym is) it))

    -- ---- a turn, and a round

    turn_asks : (running : Bool) (old new : Pace R) → runs owner.session old.world ≡ running → TurnWhere stands given lost running owner.session old new → new.went_on ≡ false → IsQuiet given old.world → IsMailed old.world → Posts old.world
        → Asks new.world
    turn_asks false old new at same still quiet mailed posts = λ c there me owned. absurd (true≢false (sym (ap is_some there) ∙ subst (λ (p : Pace R). runs owner.session p.world ≡ false) (sym same) at))
    turn_asks true old new at turn still quiet mailed posts =
        let range = there_below number old.world.sites.mail n mailed.numbers posts.posted in
        let asks = dues_ask old.world (length old.world.sites.mail) turn.told turn.notices quiet posts range.0 range.1 in
        let told = keeps_dues stands given Posts posts_step (λ k. is_notice_due lost owner.session (k + 1) old.world) (length old.world.sites.mail) old.world turn.told turn.notices (posts, quiet) in
        (keeps_all stands given Asks asks_step owner.session (record { world = turn.told; went_on = old.went_on }) new turn.polls still (asks, told.1)).0

    record IsReady (w : WorldView R) : Type 0 where
      posts : Posts w
      mailed : IsMailed w

    ready_step : (a b : WorldView R) → IsIdleStep stands a b → IsReady a → IsReady b
    ready_step a b step is = record { posts = posts_step a b step is.posts; mailed = mailed_idle stands a b step is.mailed }

    turns_ask : (count : ℕ) (old new : Pace R) → Deeds (TurnOf stands given lost) count old new → new.went_on ≡ false → IsQuiet given old.world → IsReady old.world → owner.session < count → Asks new.world
    unfolding Deeds
    turns_ask zero old new done still quiet ready below = absurd (omega (arith, below))
    turns_ask (suc count) old new (between, first, it) still quiet ready below =
        let running = runs count between.world in
        let before = before_turn stands given lost running count between new it still in
        let then = keeps_turns stands given IsReady ready_step lost count old between first before (ready, quiet) in
        either_way owner.session count
        (λ less. (keeps_turn stands given Asks asks_step lost running count between new it still (turns_ask count old between first before quiet ready less, then.1)).0)
        (λ more.
        let same : owner.session ≡ count = omega (arith, below, more) in
        turn_asks (runs owner.session between.world) between new refl (subst (λ k. TurnWhere stands given lost (runs k between.world) k between new) (sym same) it) still then.1 then.0.mailed then.0.posts)

    pub round_asks : (count : ℕ) (old new : WorldView R) → Round stands given lost count false old new → IsQuiet given old → IsMailed old → IsPosted old owner site image number n → owner.session < count → HasBeenAsked new owner site image
    round_asks count old new round quiet mailed posts below =
        turns_ask count (record { world = old; went_on = false }) (record { world = new; went_on = false }) round refl quiet (record { posts = posts; mailed = mailed }) below

  -- ---- a way in the round before

  -- there was a way to the same lock, of the same request
  pub record HadWay (old : WorldView R) (session slot : ℕ) (me : Instance) (site : SiteId) (image : ℕ) : Type 0 where
    pub client : ClientView R
    pub there : client_in session old.lives ≡ Some client
    pub mine : client.session.instance ≡ me
    pub request : Running R
    pub runs : running_at slot client.session ≡ Some request
    pub on : Acquire
    pub acts : actor_at stands slot client ≡ actor.Way on
    pub site_is : on.site ≡ site
    pub image_is : on.image ≡ image

  abbrev HadWays : (old : WorldView R) (session slot : ℕ) → WorldView R → Type 0
  HadWays old session slot w =
      (c : ClientView R) → client_in session w.lives ≡ Some c → (r : Running R) → running_at slot c.session ≡ Some r → (y : Acquire) → actor_at stands slot c ≡ actor.Way y → HadWay old session slot c.session.instance y.site y.image

  had_step : (old : WorldView R) (session slot : ℕ) → (slot == 0) ≡ false → (a b : WorldView R) → IsIdleStep stands a b → HadWays old session slot a → HadWays old session slot b
  had_step old session slot some a b step had c there r runs y acts = by (way_before stands session slot some a b step c there r runs y acts)
    where
      by : (was : WasClient stands session a c) × IsWayBefore stands session slot a b was.client y → HadWay old session slot c.session.instance y.site y.image
      by (was, inl same) =
          subst (λ (s : SessionView R). HadWay old session slot s.instance y.site y.image) (sym was.same) (had was.client was.there r (sym (ap (running_at slot) was.same) ∙ runs) y same)
      by (was, inr (result, none, own, it)) =
          subst (λ (s : SessionView R). HadWay old session slot s.instance y.site y.image) (sym was.same)
          (subst (λ s. HadWay old session slot was.client.session.instance s y.image) (sym it.site_is)
          (subst (λ i. HadWay old session slot was.client.session.instance it.on.site i) (sym it.image_is) (had was.client was.there r (sym (ap (running_at slot) was.same) ∙ runs) it.on it.acts)))

  pub had_way : (count : ℕ) (old new : WorldView R) → Round stands given lost count false old new → IsQuiet given old → (session slot : ℕ) → (slot == 0) ≡ false → (c : ClientView R) → client_in session new.lives ≡ Some c
      → (r : Running R) → running_at slot c.session ≡ Some r → (y : Acquire) → actor_at stands slot c ≡ actor.Way y → HadWay old session slot c.session.instance y.site y.image
  had_way count old new round quiet session slot some =
      (keeps_turns stands given (HadWays old session slot) (had_step old session slot some) lost count (record { world = old; went_on = false }) (record { world = new; went_on = false }) round refl
      ((λ c there r runs y acts. record { client = c; there = there; mine = refl; request = r; runs = runs; on = y; acts = acts; site_is = refl; image_is = refl }), quiet)).0

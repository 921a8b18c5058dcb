-- A way that asks posts a notice to the owner of its lock, within three polls by which nothing goes
-- on; and who hears it, and counts the lock as its own, has been asked from then on.
use Rattle.std.proofs.Common.{◌≡◌, ℕ, zero, suc, ◌+◌, ◌<◌, ◌≤◌, ◌==◌, ◌||◌, ◌⊎◌, inl, inr, cond, not, Bool, true, false, List, [], ◌∷◌, ◌++◌, length, slice_get, Option, Some, None, refl, sym, ap, ◌∙◌, subst, arith}
use Rattle.std.proofs.lemmas.Bool.{and_parts, cases_lt, eq-eqb, eqb-true, false≢true, or_cases, true≢false}
use Rattle.std.proofs.lemmas.Option.{none-some, same_Some}
use Rattle.rbd_client.specs.declared.actor.Actor.TheVariants as actor
use Rattle.rbd_client.specs.Actor.{actor_at}
use Rattle.rbd_client.specs.Client.{ClientView}
use Rattle.rbd_kinds.specs.OperationKind.{kind_of}
use Rattle.rbd_kinds.specs.declared.answer.Answer.{Answer}
use Rattle.rbd_kinds.specs.declared.answer.Answer.TheVariants as answer
use Rattle.rbd_kinds.specs.declared.header.HeaderView.{HeaderView}
use Rattle.rbd_kinds.specs.declared.id.Instance.{Instance}
use Rattle.rbd_kinds.specs.declared.id.SiteId.{SiteId}
use Rattle.rbd_kinds.specs.declared.notice.Notice.{Notice}
use Rattle.rbd_kinds.specs.declared.notice.NoticeKind.{NoticeKind}
use Rattle.rbd_kinds.specs.declared.notice.NoticeKind.TheVariants as notice
use Rattle.rbd_kinds.specs.Images.{is_at}
use Rattle.rbd_kinds.specs.Instances.{same_instance}
use Rattle.rbd_kinds.proofs.Images.{at_itself}
use Rattle.rbd_kinds.proofs.Instances.{same_instance_is, same_instance_itself}
use Rattle.rbd_lock.specs.declared.lock_state.LockState.{LockState}
use Rattle.rbd_lock.specs.Locks.{heard, lock_state_at}
use Rattle.rbd_lock.specs.States.{told_state}
use Rattle.rbd_machine.specs.Plan.{Standing}
use Rattle.rbd_lock.specs.Acquire.{op_at_stage, op_of}
use Rattle.rbd_lock.specs.Steps.{is_instance_among, request_lock}
use Rattle.rbd_lock.specs.Waiting.{asks_again}
use Rattle.rbd_lock.specs.declared.acquire.Acquire.{Acquire}
use Rattle.rbd_lock.specs.declared.acquire.Stage.{Stage}
use Rattle.rbd_lock.specs.declared.acquire.Stage.TheVariants as stage
use Rattle.rbd_slots.specs.Session.{IsSoundSession, SessionView, held_in, running_at, running_in}
use Rattle.rbd_slots.specs.declared.running.Occupant.{Occupant}
use Rattle.rbd_slots.specs.declared.running.Running.{Running}
use Rattle.rbd_slots.proofs.Sound.{held_range}
use Rattle.rbd_site.specs.Records.{Records}
use Rattle.rbd_site.specs.Step.{answer_served, answer_to, is_fenced, mail_after, mail_served}
use Rattle.rbd_site.specs.WatchStep.{receivers}
use Rattle.rbd_watch.specs.Posting.{notices, notice_numbered}
use Rattle.rbd_watch.specs.Watching.{without}
use Rattle.rbd_watch.proofs.Numbers.{posted_at}
use Rattle.rbd_world.specs.declared.event.Event.TheVariants as event
use Rattle.rbd_world.specs.declared.event.Outcome.{Outcome}
use Rattle.rbd_world.specs.Run.{Happening, Heard, Nothing}
use Rattle.rbd_world.specs.Step.{BecomesOf, Hears, IsWorldStep, RunsOn, delivered, happening, hears_in, heard_by, mail_then, polled}
use Rattle.rbd_world.specs.World.{WorldView, client_in, lives_in, records_in, session_of_client, site_in}
use Rattle.rbd_schedule.specs.declared.given.Given.{Given}
use Rattle.rbd_schedule.specs.Deeds.{Deeds}
use Rattle.rbd_schedule.specs.Ends.{IsAnothers}
use Rattle.rbd_schedule.specs.Notices.{hears, is_heard, was_heard}
use Rattle.rbd_schedule.specs.Schedule.{Pace, Round, goes_on}
use Rattle.rbd_schedule.specs.Starts.{IsQuiet}
use Rattle.rbd_schedule.proofs.Ended.{comes_turns, keeps_turns, sounds_step}
use Rattle.rbd_schedule.proofs.Idle.{Asked, HearsOf, IsIdlePollOf, IsIdleStep, Told, delivery_leaves, poll_leaves, same_sessions}
use Rattle.rbd_schedule.proofs.IdlePolls.{named_lives}
use Rattle.rbd_schedule.proofs.Mailed.{IsMailed, mailed_step}
use Rattle.rbd_schedule.proofs.Nearing.{IsNext}
use Rattle.rbd_schedule.proofs.Passing.{heard_then, numbered_stays, then_stays}
use Rattle.rbd_schedule.proofs.Showing.{AreAsIn}
use Rattle.rbd_schedule.proofs.Unchanged.{as_before, idle_unchanged}
use Rattle.rbd_schedule.proofs.WaySteps.{IsWayBefore, IsWayStep, WasClient, told_on, was_client, way_before, way_polled}

-- ---- who was asked

-- Where this instance runs and counts the lock as its own, it has been asked for it.
abbrev pub HasBeenAsked : {R : Type 0} → WorldView R → Instance → SiteId → (image : ℕ) → Type 0
HasBeenAsked {R} w owner site image =
    (c : ClientView R) → client_in owner.session w.lives ≡ Some c → c.session.instance ≡ owner → (lock_state_at site image c.locks).owned ≡ true → (lock_state_at site image c.locks).asked ≡ true

-- a notice that asks an owner for a lock, and who has heard it was asked
pub record IsPosted {R : Type 0} (w : WorldView R) (owner : Instance) (site : SiteId) (image number : ℕ) (n : Notice) : Type 0 where
  pub posted : notice_numbered number w.sites.mail ≡ Some n
  pub to : n.to ≡ owner
  pub site_is : n.site ≡ site
  pub image_is : n.image ≡ image
  pub kind : n.kind ≡ notice.RequestLock
  pub heard : was_heard number w.calls ≡ true → HasBeenAsked w owner site image

abbrev pub IsPostedTo : {R : Type 0} → WorldView R → Instance → SiteId → (image : ℕ) → Type 0
IsPostedTo w owner site image = (number : ℕ) × (n : Notice) × IsPosted w owner site image number n

-- whatever it hears, it was asked
told_asked : (kind : NoticeKind) (here : Bool) (s : LockState) → (s.owned ≡ true → s.asked ≡ true) → (cond here (told_state kind s) s).owned ≡ true → (cond here (told_state kind s) s).asked ≡ true
told_asked kind false s asked owned = asked owned
told_asked notice.RequestLock true s asked owned = ap (λ b. cond b true s.asked) owned
told_asked _ true s asked owned = asked owned

-- it hears that it is asked
told_now : (here : Bool) (s : LockState) → here ≡ true → (cond here (told_state notice.RequestLock s) s).owned ≡ true → (cond here (told_state notice.RequestLock s) s).asked ≡ true
told_now true s is owned = ap (λ b. cond b true s.asked) owned
told_now false s is owned = absurd (false≢true is)

module _ {R : Type 0} (stands : R → Standing) where
  -- what it counts of a lock behind an idle step
  locks_step : (session : ℕ) (old new : WorldView R) → IsIdleStep stands old new → (a c : ClientView R) → client_in session old.lives ≡ Some a → client_in session new.lives ≡ Some c → (site : SiteId) (image : ℕ)
      → (lock_state_at site image c.locks ≡ lock_state_at site image a.locks) ⊎ ((n : Notice) × (lock_state_at site image c.locks ≡ heard n site image (lock_state_at site image a.locks)))
  locks_step session old new (Told number result step) a c was there site image = by (client_in session old.lives) (client_in session new.lives) was there (delivery_leaves stands number old new result step session)
    where
      by : (x z : Option (ClientView R)) → x ≡ Some a → z ≡ Some c → HearsOf stands x z → (lock_state_at site image c.locks ≡ lock_state_at site image a.locks) ⊎ ((n : Notice) × (lock_state_at site image c.locks ≡ heard n site image (lock_state_at site image a.locks)))
      by None z was there hears = absurd (none-some a was)
      by (Some x) None was there hears = absurd hears
      by (Some x) (Some z) was there (inl same) = inl (ap (λ (d : ClientView R). lock_state_at site image d.locks) (sym (same_Some z c there) ∙ same ∙ same_Some x a was))
      by (Some x) (Some z) was there (inr (n, hears)) =
          inr (n, ap (λ (d : ClientView R). lock_state_at site image d.locks) (sym (same_Some z c there)) ∙ hears.locks site image ∙ ap (λ (d : ClientView R). heard n site image (lock_state_at site image d.locks)) (same_Some x a was))
  locks_step session old new (Asked s at result none step) a c was there site image = by (client_in session old.lives) (client_in session new.lives) was there (poll_leaves stands s at old new result step none session)
    where
      by : (x z : Option (ClientView R)) → x ≡ Some a → z ≡ Some c → IsIdlePollOf stands at x z → (lock_state_at site image c.locks ≡ lock_state_at site image a.locks) ⊎ ((n : Notice) × (lock_state_at site image c.locks ≡ heard n site image (lock_state_at site image a.locks)))
      by None z was there poll = absurd (none-some a was)
      by (Some x) None was there poll = absurd poll
      by (Some x) (Some z) was there poll =
          inl (ap (λ (d : ClientView R). lock_state_at site image d.locks) (sym (same_Some z c there)) ∙ poll.locks site image ∙ ap (λ (d : ClientView R). lock_state_at site image d.locks) (same_Some x a was))

  pub asked_step : (old new : WorldView R) → IsIdleStep stands old new → (owner : Instance) (site : SiteId) (image : ℕ) → HasBeenAsked old owner site image → HasBeenAsked new owner site image
  asked_step old new step owner site image asked c there me owned = by (locks_step owner.session old new step was.client c was.there there site image)
    where
      was : WasClient stands owner.session old c
      was = was_client stands owner.session old new step c there

      before : (lock_state_at site image was.client.locks).owned ≡ true → (lock_state_at site image was.client.locks).asked ≡ true
      before = asked was.client was.there (sym (ap (λ (s : SessionView R). s.instance) was.same) ∙ me)

      by : (lock_state_at site image c.locks ≡ lock_state_at site image was.client.locks) ⊎ ((n : Notice) × (lock_state_at site image c.locks ≡ heard n site image (lock_state_at site image was.client.locks)))
          → (lock_state_at site image c.locks).asked ≡ true
      by (inl same) = ap (λ (s : LockState). s.asked) same ∙ before (sym (ap (λ (s : LockState). s.owned) same) ∙ owned)
      by (inr (n, hears)) =
          ap (λ (s : LockState). s.asked) hears ∙ told_asked n.kind (is_at n.site n.image site image) (lock_state_at site image was.client.locks) before (sym (ap (λ (s : LockState). s.owned) hears) ∙ owned)

  -- ---- a notice that is delivered

  -- the instance that it is for hears it
  deliver_hears : (number : ℕ) (result : Outcome) (old new : WorldView R) → IsWorldStep stands (event.Deliver number) old result new → (n : Notice) → notice_numbered number old.sites.mail ≡ Some n → (a c : ClientView R)
      → client_in n.to.session old.lives ≡ Some a → client_in n.to.session new.lives ≡ Some c → a.session.instance ≡ n.to → Hears stands n a c
  deliver_hears number result old new step n posted a c was there me =
      let h : Happening = delivered (notice_numbered number old.sites.mail) old.lives in
      let is : delivered (notice_numbered number old.sites.mail) old.lives ≡ Heard n
      = ap (λ o. delivered o old.lives) posted ∙ ap (heard_by n) was ∙ ap (λ b. cond b (Heard n) Nothing) (ap (λ i. same_instance i n.to) me ∙ same_instance_itself n.to) in
      let named : hears_in (delivered (notice_numbered number old.sites.mail) old.lives) n.to.session ≡ true = ap (λ x. hears_in x n.to.session) is ∙ eq-eqb n.to.session n.to.session refl in
      let runs = named_lives stands (event.Deliver number) (delivered (notice_numbered number old.sites.mail) old.lives) (lives_in n.to.session old.lives) (lives_in n.to.session new.lives) (step.1.named n.to.session named) a was in
      let became : BecomesOf stands (event.Deliver number) (Heard n) (Some a) (client_in n.to.session new.lives)
      = subst (λ x. RunsOn stands (event.Deliver number) x runs.0 (Some a) (client_in n.to.session new.lives)) is runs.1 in
      subst (BecomesOf stands (event.Deliver number) (Heard n) (Some a)) there became

  hears_asked : (n : Notice) (owner : Instance) (site : SiteId) (image : ℕ) → n.site ≡ site → n.image ≡ image → n.kind ≡ notice.RequestLock → (a c : ClientView R) → Hears stands n a c
      → (lock_state_at site image c.locks).owned ≡ true → (lock_state_at site image c.locks).asked ≡ true
  hears_asked n owner site image site_is image_is kind a c hears owned =
      let is : lock_state_at site image c.locks ≡ cond (is_at n.site n.image site image) (told_state notice.RequestLock (lock_state_at site image a.locks)) (lock_state_at site image a.locks)
      = hears.locks site image ∙ ap (λ k. cond (is_at n.site n.image site image) (told_state k (lock_state_at site image a.locks)) (lock_state_at site image a.locks)) kind in
      let here : is_at n.site n.image site image ≡ true = ap (λ s. is_at s n.image site image) site_is ∙ ap (λ i. is_at site i site image) image_is ∙ at_itself site image in
      ap (λ (s : LockState). s.asked) is ∙ told_now (is_at n.site n.image site image) (lock_state_at site image a.locks) here (sym (ap (λ (s : LockState). s.owned) is) ∙ owned)

  -- so it has been asked
  pub deliver_asks : (number : ℕ) (result : Outcome) (old new : WorldView R) → IsWorldStep stands (event.Deliver number) old result new → (owner : Instance) (site : SiteId) (image : ℕ) (n : Notice) → IsPosted old owner site image number n
      → HasBeenAsked new owner site image
  deliver_asks number result old new step owner site image n it c there me owned =
      let was = was_client stands owner.session old new (Told number result step) c there in
      let session : n.to.session ≡ owner.session = ap (λ (i : Instance). i.session) it.to in
      let hears = deliver_hears number result old new step n it.posted was.client c (ap (λ s. client_in s old.lives) session ∙ was.there) (ap (λ s. client_in s new.lives) session ∙ there)
      (sym (ap (λ (s : SessionView R). s.instance) was.same) ∙ me ∙ sym it.to) in
      hears_asked n owner site image it.site_is it.image_is it.kind was.client c hears owned

  -- ---- a notice that is posted stays

  pub posted_step : (old new : WorldView R) → IsIdleStep stands old new → (owner : Instance) (site : SiteId) (image number : ℕ) (n : Notice) → IsPosted old owner site image number n → IsPosted new owner site image number n
  posted_step old new (Told k result step) owner site image number n it = record {
    posted = numbered_stays number old.sites.mail new.sites.mail n (subst (λ mail. (more : List Notice) × (mail ≡ old.sites.mail ++ more)) (sym step.1.mail) (then_stays (happening stands (event.Deliver k) old) old.sites)) it.posted;
    to = it.to;
    site_is = it.site_is;
    image_is = it.image_is;
    kind = it.kind;
    heard = λ heard. by (or_cases (was_heard number old.calls) (hears number (event.Deliver k) result) (sym (heard_then stands (event.Deliver k) result old new step number) ∙ heard));
  }
    where
      by : (was_heard number old.calls ≡ true) ⊎ (hears number (event.Deliver k) result ≡ true) → HasBeenAsked new owner site image
      by (inl before) = asked_step old new (Told k result step) owner site image (it.heard before)
      by (inr now) =
          let same : k ≡ number = eqb-true k number (and_parts (k == number) (is_heard result) now).0 in
          deliver_asks number result old new (subst (λ j. IsWorldStep stands (event.Deliver j) old result new) same step) owner site image n it
  posted_step old new (Asked s slot result none step) owner site image number n it = record {
    posted = numbered_stays number old.sites.mail new.sites.mail n (subst (λ mail. (more : List Notice) × (mail ≡ old.sites.mail ++ more)) (sym step.1.mail) (then_stays (happening stands (event.Poll s slot) old) old.sites)) it.posted;
    to = it.to;
    site_is = it.site_is;
    image_is = it.image_is;
    kind = it.kind;
    heard = λ heard. by (or_cases (was_heard number old.calls) (hears number (event.Poll s slot) result) (sym (heard_then stands (event.Poll s slot) result old new step number) ∙ heard));
  }
    where
      by : (was_heard number old.calls ≡ true) ⊎ (hears number (event.Poll s slot) result ≡ true) → HasBeenAsked new owner site image
      by (inl before) = asked_step old new (Asked s slot result none step) owner site image (it.heard before)
      by (inr now) = absurd (false≢true now)

module _ {R : Type 0} (stands : R → Standing) where
  pub mailed_idle : (old new : WorldView R) → IsIdleStep stands old new → IsMailed old → IsMailed new
  mailed_idle old new (Told number result step) was = mailed_step stands (event.Deliver number) result old new step was
  mailed_idle old new (Asked s slot result none step) was = mailed_step stands (event.Poll s slot) result old new step was

-- ---- a way that asks

-- an owner that watches is among those whom a notice of another one goes to
among_others : (watchers : List Instance) (owner me : Instance) → is_instance_among watchers owner ≡ true → same_instance owner me ≡ false → (place : ℕ) × (slice_get (without me watchers) place ≡ Some owner)
among_others [] owner me among other = absurd (false≢true among)
among_others (x ∷ watchers) owner me among other = by (same_instance x owner) refl among (same_instance me x) refl (λ rest. among_others watchers owner me rest other)
  where
    unlike : same_instance me owner ≡ true → ⊥
    unlike is = true≢false (sym (ap (λ i. same_instance owner i) (same_instance_is me owner is) ∙ same_instance_itself owner) ∙ other)

    behind : (mine : Bool) → (place : ℕ) × (slice_get (without me watchers) place ≡ Some owner) → (place : ℕ) × (slice_get (cond (not mine) (x ∷ without me watchers) (without me watchers)) place ≡ Some owner)
    behind true rest = rest
    behind false (place, at) = (suc place, at)

    by : (here : Bool) → same_instance x owner ≡ here → (here || is_instance_among watchers owner) ≡ true → (mine : Bool) → same_instance me x ≡ mine
        → (is_instance_among watchers owner ≡ true → (place : ℕ) × (slice_get (without me watchers) place ≡ Some owner))
        → (place : ℕ) × (slice_get (cond (not mine) (x ∷ without me watchers) (without me watchers)) place ≡ Some owner)
    by true is among false at rest = (0, ap Some (same_instance_is x owner is))
    by true is among true at rest = absurd (unlike (ap (same_instance me) (sym (same_instance_is x owner is)) ∙ at))
    by false is among mine at rest = behind mine (rest among)

asked_mail : (id : SiteId) (r : Records) (me : Instance) (image : ℕ) (mail : List Notice) (h : HeaderView) → asks_again (kind_of (request_lock image)) (answer_to r me (request_lock image)) ≡ true → r.headers image ≡ Some h
    → mail_after id r me (request_lock image) mail ≡ mail ++ notices (length mail + 1) id image me (without me (r.watchers image)) notice.RequestLock
asked_mail id r me image mail h again there = by (is_fenced r me) again
  where
    by : (b : Bool) → asks_again (kind_of (request_lock image)) (cond b answer.Fenced (answer_served r me (request_lock image))) ≡ true
        → cond b mail (mail_served id r me (request_lock image) mail) ≡ mail ++ notices (length mail + 1) id image me (without me (r.watchers image)) notice.RequestLock
    by true again = absurd (false≢true again)
    by false again = ap (λ o. mail ++ notices (length mail + 1) id image me (receivers me o (r.watchers image)) notice.RequestLock) there

module _ {R : Type 0} (stands : R → Standing) (base : SiteId → Records) where
  -- the poll of a way that asks
  posts_now : (session slot : ℕ) (old new : WorldView R) (result : Outcome) → IsWorldStep stands (event.Poll session slot) old result new → IsMailed old → AreAsIn base old.sites → (a : ClientView R)
      → client_in session old.lives ≡ Some a → (y : Acquire) → (it : IsWayStep stands old.sites slot a y) → it.on.stage ≡ stage.Asking → (lock : IsAnothers (base it.on.site) it.on.image a.session.instance)
      → IsPostedTo new lock.owner it.on.site it.on.image
  posts_now session slot old new result step mailed alike a was y it asking lock = (
    number,
    record { number = number; to = lock.owner; from = me; site = id; image = image; kind = notice.RequestLock },
    record {
      posted = ap (notice_numbered number) mail ∙ posted_at id image me notice.RequestLock old.sites.mail among.0 (without me (r.watchers image)) lock.owner mailed.numbers among.1;
      to = refl;
      site_is = mailed.ids it.on.site;
      image_is = refl;
      kind = refl;
      heard = λ heard. absurd (unheard (or_cases (was_heard number old.calls) (hears number (event.Poll session slot) result) (sym (heard_then stands (event.Poll session slot) result old new step number) ∙ heard)));
    },
  )
    where
      me : Instance
      me = a.session.instance

      image : ℕ
      image = it.on.image

      r : Records
      r = records_in it.on.site old.sites

      id : SiteId
      id = (site_in it.on.site old.sites).id

      among : (place : ℕ) × (slice_get (without me (r.watchers image)) place ≡ Some lock.owner)
      among = among_others (r.watchers image) lock.owner me (subst (λ ws. is_instance_among ws lock.owner ≡ true) (sym ((alike it.on.site).1 image)) lock.watches) lock.other

      number : ℕ
      number = length old.sites.mail + 1 + among.0

      o : stage.Asking ≡ it.on.stage → op_of it.on ≡ request_lock image
      o is = ap (λ x. op_at_stage x image) (sym is)

      again : asks_again (kind_of (request_lock image)) (answer_to r me (request_lock image)) ≡ true
      again = subst (λ p. asks_again (kind_of p) (answer_to r me p) ≡ true) (ap (λ x. op_at_stage x image) asking) it.again

      mail : new.sites.mail ≡ old.sites.mail ++ notices (length old.sites.mail + 1) id image me (without me (r.watchers image)) notice.RequestLock
      mail =
          step.1.mail ∙ ap (λ x. mail_then (polled stands old.sites slot x) old.sites) was ∙ ap (λ h. mail_then h old.sites) it.is
          ∙ ap (λ p. mail_after id r me p old.sites.mail) (ap (λ x. op_at_stage x image) asking)
          ∙ asked_mail id r me image old.sites.mail lock.header again ((alike it.on.site).0 image ∙ lock.there)

      unheard : (was_heard number old.calls ≡ true) ⊎ (hears number (event.Poll session slot) result ≡ true) → ⊥
      unheard (inl before) = let less = mailed.heard number before in omega (arith, less)
      unheard (inr now) = false≢true now

  -- ---- how many polls are left until it has asked

  abbrev pub IsLeft : (left : ℕ) → Stage → Type 0
  IsLeft left stage.Taking = 3 ≤ left
  IsLeft left (stage.Looking owner) = 2 ≤ left
  IsLeft left at = 1 ≤ left

  left_more : (left : ℕ) (at : Stage) → IsLeft left at → IsLeft (suc left) at
  left_more left stage.Watching is = omega (arith, is)
  left_more left stage.Taking is = omega (arith, is)
  left_more left (stage.Looking owner) is = omega (arith, is)
  left_more left stage.Asking is = omega (arith, is)
  left_more left (stage.Fencing owner) is = omega (arith, is)
  left_more left (stage.Breaking owner) is = omega (arith, is)

  left_first : (left : ℕ) (at : Stage) → 3 ≤ left → IsLeft left at
  left_first left stage.Watching many = omega (arith, many)
  left_first left stage.Taking many = many
  left_first left (stage.Looking owner) many = omega (arith, many)
  left_first left stage.Asking many = omega (arith, many)
  left_first left (stage.Fencing owner) many = omega (arith, many)
  left_first left (stage.Breaking owner) many = omega (arith, many)

  left_none : (at : Stage) → IsLeft 0 at → ⊥
  left_none stage.Watching is = omega (arith, is)
  left_none stage.Taking is = omega (arith, is)
  left_none (stage.Looking owner) is = omega (arith, is)
  left_none stage.Asking is = omega (arith, is)
  left_none (stage.Fencing owner) is = omega (arith, is)
  left_none (stage.Breaking owner) is = omega (arith, is)

  looking : (left : ℕ) (owner : Instance) (among : Bool) → 2 ≤ suc left → IsLeft left (cond among stage.Asking (stage.Fencing owner))
  looking left owner true two = omega (arith, two)
  looking left owner false two = omega (arith, two)

  -- by a poll it has asked, or is nearer to it
  left_on : (left : ℕ) (image : ℕ) (at : Stage) (told_it : Answer) (s : Stage) → asks_again (kind_of (op_at_stage at image)) told_it ≡ true → IsNext at told_it s → IsLeft (suc left) at → (at ≡ stage.Asking) ⊎ IsLeft left s
  left_on left image stage.Watching told_it s again next is = absurd (false≢true again)
  left_on left image stage.Taking (answer.Held owner) s again next is = inr (subst (IsLeft left) (sym next) (omega (arith, is)))
  left_on left image stage.Taking _ s again next is = absurd (false≢true again)
  left_on left image (stage.Looking owner) (answer.Instances watchers) s again next is = inr (subst (IsLeft left) (sym next) (looking left owner (is_instance_among watchers owner) is))
  left_on left image (stage.Looking owner) _ s again next is = absurd (false≢true again)
  left_on left image stage.Asking told_it s again next is = inl refl
  left_on left image (stage.Fencing owner) told_it s again next is = absurd (false≢true again)
  left_on left image (stage.Breaking owner) told_it s again next is = absurd (false≢true again)

  -- ---- in a world

  -- the way of a slot has asked the owner, or so many polls are left
  abbrev pub PostsIn : (left session slot : ℕ) → WorldView R → Type 0
  PostsIn left session slot w =
      (c : ClientView R) → client_in session w.lives ≡ Some c → (r : Running R) → running_at slot c.session ≡ Some r → (y : Acquire) → actor_at stands slot c ≡ actor.Way y
      → (lock : IsAnothers (base y.site) y.image c.session.instance) → IsPostedTo w lock.owner y.site y.image ⊎ IsLeft left y.stage

  later : (old new : WorldView R) → IsIdleStep stands old new → (owner : Instance) (site : SiteId) (image : ℕ) → IsPostedTo old owner site image → IsPostedTo new owner site image
  later old new step owner site image (number, n, it) = (number, n, posted_step stands old new step owner site image number n it)

  module _ (old new : WorldView R) (mailed : IsMailed old) (alike : AreAsIn base old.sites) (left session slot : ℕ) where
    -- a step on the way
    way_posts : (result : Outcome) → goes_on result ≡ false → IsWorldStep stands (event.Poll session slot) old result new → (a : ClientView R) → client_in session old.lives ≡ Some a → (y : Acquire) → (it : IsWayStep stands old.sites slot a y)
        → ((lock : IsAnothers (base it.on.site) it.on.image a.session.instance) → IsPostedTo old lock.owner it.on.site it.on.image ⊎ IsLeft (suc left) it.on.stage)
        → (lock : IsAnothers (base y.site) y.image a.session.instance) → IsPostedTo new lock.owner y.site y.image ⊎ IsLeft left y.stage
    way_posts result none step a was y it before =
        subst (λ s. (lock : IsAnothers (base s) y.image a.session.instance) → IsPostedTo new lock.owner s y.image ⊎ IsLeft left y.stage) (sym it.site_is)
        (subst (λ i. (lock : IsAnothers (base it.on.site) i a.session.instance) → IsPostedTo new lock.owner it.on.site i ⊎ IsLeft left y.stage) (sym it.image_is) (λ lock. by lock (before lock)))
      where
        by : (lock : IsAnothers (base it.on.site) it.on.image a.session.instance) → IsPostedTo old lock.owner it.on.site it.on.image ⊎ IsLeft (suc left) it.on.stage → IsPostedTo new lock.owner it.on.site it.on.image ⊎ IsLeft left y.stage
        by lock (inl posted) = inl (later old new (Asked session slot result none step) lock.owner it.on.site it.on.image posted)
        by lock (inr is) = go (left_on left it.on.image it.on.stage (told_on stands old.sites a.session.instance it.on) y.stage it.again it.next is)
          where
            go : (it.on.stage ≡ stage.Asking) ⊎ IsLeft left y.stage → IsPostedTo new lock.owner it.on.site it.on.image ⊎ IsLeft left y.stage
            go (inl asking) = inl (posts_now session slot old new result step mailed alike a was y it asking lock)
            go (inr near) = inr near

    pub polls_post : (slot == 0) ≡ false → (result : Outcome) → IsWorldStep stands (event.Poll session slot) old result new → goes_on result ≡ false → PostsIn (suc left) session slot old → PostsIn left session slot new
    polls_post some result step none posts c there r runs y acts = by (way_polled stands session slot some old new result step none c there r runs y acts)
      where
        by : (was : WasClient stands session old c) × IsWayStep stands old.sites slot was.client y → (lock : IsAnothers (base y.site) y.image c.session.instance) → IsPostedTo new lock.owner y.site y.image ⊎ IsLeft left y.stage
        by (was, it) =
            subst (λ (s : SessionView R). (lock : IsAnothers (base y.site) y.image s.instance) → IsPostedTo new lock.owner y.site y.image ⊎ IsLeft left y.stage) (sym was.same)
            (way_posts result none step was.client was.there y it (posts was.client was.there r (sym (ap (running_at slot) was.same) ∙ runs) it.on it.acts))

    pub step_posts : (slot == 0) ≡ false → IsIdleStep stands old new → PostsIn left session slot old → PostsIn left session slot new
    step_posts some step posts c there r runs y acts = by (way_before stands session slot some old new step c there r runs y acts)
      where
        so : (was : WasClient stands session old c) → (r : Running R) × (running_at slot was.client.session ≡ Some r)
        so was = (r, sym (ap (running_at slot) was.same) ∙ runs)

        more : (a : ClientView R) (on : Acquire) → ((lock : IsAnothers (base on.site) on.image a.session.instance) → IsPostedTo old lock.owner on.site on.image ⊎ IsLeft left on.stage)
            → (lock : IsAnothers (base on.site) on.image a.session.instance) → IsPostedTo old lock.owner on.site on.image ⊎ IsLeft (suc left) on.stage
        more a on before lock = go (before lock)
          where
            go : IsPostedTo old lock.owner on.site on.image ⊎ IsLeft left on.stage → IsPostedTo old lock.owner on.site on.image ⊎ IsLeft (suc left) on.stage
            go (inl posted) = inl posted
            go (inr near) = inr (left_more left on.stage near)

        same_way : (a : ClientView R) → ((lock : IsAnothers (base y.site) y.image a.session.instance) → IsPostedTo old lock.owner y.site y.image ⊎ IsLeft left y.stage)
            → (lock : IsAnothers (base y.site) y.image a.session.instance) → IsPostedTo new lock.owner y.site y.image ⊎ IsLeft left y.stage
        same_way a before lock = go (before lock)
          where
            go : IsPostedTo old lock.owner y.site y.image ⊎ IsLeft left y.stage → IsPostedTo new lock.owner y.site y.image ⊎ IsLeft left y.stage
            go (inl posted) = inl (later old new step lock.owner y.site y.image posted)
            go (inr near) = inr near

        by : (was : WasClient stands session old c) × IsWayBefore stands session slot old new was.client y → (lock : IsAnothers (base y.site) y.image c.session.instance) → IsPostedTo new lock.owner y.site y.image ⊎ IsLeft left y.stage
        by (was, inl same) =
            subst (λ (s : SessionView R). (lock : IsAnothers (base y.site) y.image s.instance) → IsPostedTo new lock.owner y.site y.image ⊎ IsLeft left y.stage) (sym was.same)
            (same_way was.client (posts was.client was.there r (so was).1 y same))
        by (was, inr (result, none, own, it)) =
            subst (λ (s : SessionView R). (lock : IsAnothers (base y.site) y.image s.instance) → IsPostedTo new lock.owner y.site y.image ⊎ IsLeft left y.stage) (sym was.same)
            (way_posts result none own was.client was.there y it (more was.client it.on (posts was.client was.there r (so was).1 it.on it.acts)))

  -- ---- behind idle rounds

  pub record AllPost (left : ℕ) (n : ℕ) (w : WorldView R) : Type 0 where
    pub alike : AreAsIn base w.sites
    pub mailed : IsMailed w
    pub sound : (s : ℕ) (c : ClientView R) → client_in s w.lives ≡ Some c → IsSoundSession stands c.session
    pub none : (s : ℕ) → n ≤ s → client_in s w.lives ≡ None
    pub posts : (session slot : ℕ) → (slot == 0) ≡ false → PostsIn left session slot w

  none_of : (o : Option (ClientView R)) → session_of_client o ≡ None → o ≡ None
  none_of None is = refl
  none_of (Some c) is = absurd (none-some c.session (sym is))

  post_step : (given : (session : ℕ) → List Given) (left n : ℕ) (old new : WorldView R) → IsIdleStep stands old new → AllPost left n old → AllPost left n new
  post_step given left n old new step all = record {
    alike = λ s. as_before (base s) (records_in s old.sites) (records_in s new.sites) (all.alike s) (idle_unchanged stands old new step s);
    mailed = mailed_idle stands old new step all.mailed;
    sound = sounds_step stands given old new step all.sound;
    none = λ s past. none_of (client_in s new.lives) (same_sessions stands old new step s ∙ ap session_of_client (all.none s past));
    posts = λ session slot some. step_posts old new all.mailed all.alike left session slot some step (all.posts session slot some);
  }

  free_posts : (left session slot : ℕ) (w : WorldView R) → ((c : ClientView R) → client_in session w.lives ≡ Some c → held_in slot c.session.slots ≡ None) → PostsIn left session slot w
  free_posts left session slot w free c there r runs = absurd (none-some r (sym (ap running_in (free c there)) ∙ runs))

  module _ (given : (session : ℕ) → List Given) (lost : (number : ℕ) → Bool) (n : ℕ) where
    round_posts : (left : ℕ) (old new : WorldView R) → Round stands given lost n false old new → IsQuiet given old → AllPost (suc left) n old → AllPost left n new × IsQuiet given new
    round_posts left old new round quiet all = (
      record {
        alike = then.0.alike;
        mailed = then.0.mailed;
        sound = then.0.sound;
        none = then.0.none;
        posts = λ session slot some c there. in_range session slot some c there (cases_lt session n) (held_in slot c.session.slots) refl c there;
      },
      then.1,
    )
      where
        before : Pace R
        before = record { world = old; went_on = false }

        behind : Pace R
        behind = record { world = new; went_on = false }

        then : AllPost (suc left) n new × IsQuiet given new
        then = keeps_turns stands given (AllPost (suc left) n) (post_step given (suc left) n) lost n before behind round refl (all, quiet)

        each : (session : ℕ) → session < n → (k : ℕ) → k < 64 → PostsIn left session (k + 1) new
        each = comes_turns stands given (AllPost (suc left) n) (post_step given (suc left) n) (PostsIn left)
            (λ session slot some a b step all. step_posts a b all.mailed all.alike left session slot some step)
            (λ session slot some a b result step none all. polls_post a b all.mailed all.alike left session slot some result step none (all.posts session slot some))
            (free_posts left) lost n before behind round refl quiet all

        in_range : (session slot : ℕ) → (slot == 0) ≡ false → (c : ClientView R) → client_in session new.lives ≡ Some c → (session < n) ⊎ (n ≤ session) → (o : Option (Occupant R)) → held_in slot c.session.slots ≡ o → PostsIn left session slot new
        in_range session slot some c there (inr past) o at = absurd (none-some c (sym (then.0.none session past) ∙ there))
        in_range session slot some c there (inl below) None at =
            free_posts left session slot new (λ d is. subst (λ (x : ClientView R). held_in slot x.session.slots ≡ None) (same_Some c d (sym there ∙ is)) at)
        in_range session zero some c there (inl below) (Some o) at = absurd (true≢false some)
        in_range session (suc k) some c there (inl below) (Some o) at =
            let range = held_range stands c.session (then.0.sound session c there) (suc k) o at in
            let same : k + 1 ≡ suc k = omega arith in
            subst (λ slot. PostsIn left session slot new) same (each session below k (omega (arith, range)))

    pub rounds_post : (count left : ℕ) (old new : WorldView R) → Deeds (λ i. Round stands given lost n false) count old new → IsQuiet given old → AllPost (count + left) n old → AllPost left n new × IsQuiet given new
    unfolding Deeds
    rounds_post zero left old new done quiet all = let none : 0 + left ≡ left = omega arith in (subst (AllPost left n) (sym done) (subst (λ k. AllPost k n old) none all), subst (IsQuiet given) (sym done) quiet)
    rounds_post (suc count) left old new (between, first, last) quiet all =
        let more : suc count + left ≡ count + suc left = omega arith in
        let then = rounds_post count (suc left) old between first quiet (subst (λ k. AllPost k n old) more all) in
        round_posts left between new last then.1 then.0

    -- three polls are enough
    pub first_posts : (left : ℕ) (w : WorldView R) → 3 ≤ left → AreAsIn base w.sites → IsMailed w → ((s : ℕ) (c : ClientView R) → client_in s w.lives ≡ Some c → IsSoundSession stands c.session)
        → ((s : ℕ) → n ≤ s → client_in s w.lives ≡ None) → AllPost left n w
    first_posts left w many alike mailed sound none = record {
      alike = alike;
      mailed = mailed;
      sound = sound;
      none = none;
      posts = λ session slot some c there r runs y acts lock. inr (left_first left y.stage many);
    }

    pub posted_in : (session slot : ℕ) (w : WorldView R) → PostsIn 0 session slot w → (c : ClientView R) → client_in session w.lives ≡ Some c → (r : Running R) → running_at slot c.session ≡ Some r → (y : Acquire) → actor_at stands slot c ≡ actor.Way y
        → (lock : IsAnothers (base y.site) y.image c.session.instance) → IsPostedTo w lock.owner y.site y.image
    posted_in session slot w posts c there r runs y acts lock = by (posts c there r runs y acts lock)
      where
        by : IsPostedTo w lock.owner y.site y.image ⊎ IsLeft 0 y.stage → IsPostedTo w lock.owner y.site y.image
        by (inl posted) = posted
        by (inr is) = absurd (left_none y.stage is)

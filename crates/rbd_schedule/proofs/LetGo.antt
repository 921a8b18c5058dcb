-- In an idle round there was nothing to let go at slot 0: a lock that was asked for is kept by a
-- quiesce, or by a request that is past its look under the lock, or has taken the lock.
use Rattle.std.proofs.Common.{◌≡◌, ℕ, suc, ◌==◌, ◌&&◌, ◌||◌, ◌⊎◌, inl, inr, cond, not, Bool, true, false, List, [], ◌∷◌, Option, Some, None, refl, sym, ap, ◌∙◌, subst}
use Rattle.std.specs.List.{find}
use Rattle.std.proofs.lemmas.Bool.{cases_eq, false≢true, true≢false}
use Rattle.std.proofs.lemmas.Option.{none-some}
use Rattle.rbd_client.specs.declared.actor.Actor.TheVariants as actor
use Rattle.rbd_client.specs.declared.slot_state.SlotState.{SlotState}
use Rattle.rbd_client.specs.declared.slot_state.Way.{Way}
use Rattle.rbd_client.specs.declared.slot_state.Way.TheVariants as way
use Rattle.rbd_client.specs.Actor.{actor_at, actor_on, any_taken, due_release, way_has_taken, is_acquiring, may_release, release_actor}
use Rattle.rbd_client.specs.Client.{ClientView, slot_state}
use Rattle.rbd_kinds.specs.Images.{is_at}
use Rattle.rbd_kinds.proofs.Images.{at_itself}
use Rattle.rbd_kinds.specs.declared.id.SiteId.{SiteId}
use Rattle.rbd_kinds.specs.declared.image_at.ImageAt.{ImageAt}
use Rattle.rbd_queue.specs.Line.{any_past}
use Rattle.rbd_lock.specs.declared.lock_state.LockState.{LockState}
use Rattle.rbd_lock.specs.Locks.{lock_state_at}
use Rattle.rbd_lock.specs.Places.{is_among}
use Rattle.rbd_lock.proofs.Keys.{where_same}
use Rattle.rbd_machine.specs.Plan.{Standing}
use Rattle.rbd_lock.specs.declared.release.Release.{Release}
use Rattle.rbd_slots.specs.Lines.{lines_of}
use Rattle.rbd_slots.specs.Session.{IsSoundSession, SessionView, held_in, look_under_lock_at}
use Rattle.rbd_world.specs.declared.event.Event.TheVariants as event
use Rattle.rbd_world.specs.declared.event.Outcome.{Outcome}
use Rattle.rbd_world.specs.declared.sites.Sites.{Sites}
use Rattle.rbd_world.specs.Run.{Happening, outcome_of}
use Rattle.rbd_world.specs.Step.{Becomes, IsWorldStep, polled, polled_in, releases}
use Rattle.rbd_world.specs.World.{WorldView, client_in}
use Rattle.rbd_schedule.specs.Schedule.{goes_on}
use Rattle.rbd_schedule.proofs.Ended.{AreSoundSessions}
use Rattle.rbd_schedule.proofs.Idle.{Asked, IsIdleBy, IsIdlePoll, idle_becomes, idle_held}
use Rattle.rbd_schedule.proofs.IdlePolls.{client_before, polled_becomes}

-- ---- why a lock that was asked for is kept

module _ {R : Type 0} where
  -- a request has taken its lock itself
  pub record HasTaken (c : ClientView R) : Type 0 where
    pub slot : ℕ
    pub image : ImageAt
    pub taken : (slot_state slot c.slots).way ≡ way.Taken image

  -- a lock that was asked for is kept
  abbrev pub KeepsAsked : ClientView R → Type 0
  KeepsAsked c =
      (site : SiteId) (image : ℕ) → (lock_state_at site image c.locks).asked ≡ true
      → ((lock_state_at site image c.locks).quiesced ≡ true) ⊎ ((any_past (lines_of c.session.lines site image) ≡ true) ⊎ HasTaken c)

-- ---- where nothing is to be let go

-- the first that took it
taken_at : (site : SiteId) (image : ℕ) (slots : List SlotState) → any_taken site image slots ≡ true → (slot : ℕ) × (p : ImageAt) × ((slot_state slot slots).way ≡ way.Taken p)
taken_at site image [] is = absurd (false≢true is)
taken_at site image (s ∷ slots) is = by s.way refl is (taken_at site image slots)
  where
    later : ((slot : ℕ) × (p : ImageAt) × ((slot_state slot slots).way ≡ way.Taken p)) → (slot : ℕ) × (p : ImageAt) × ((slot_state slot (s ∷ slots)).way ≡ way.Taken p)
    later (slot, p, at) = (suc slot, p, at)

    by : (y : Way) → s.way ≡ y → (way_has_taken site image y || any_taken site image slots) ≡ true → (any_taken site image slots ≡ true → (slot : ℕ) × (p : ImageAt) × ((slot_state slot slots).way ≡ way.Taken p))
        → (slot : ℕ) × (p : ImageAt) × ((slot_state slot (s ∷ slots)).way ≡ way.Taken p)
    by (way.Taken p) at is rest = (0, p, at)
    by (way.On a) at is rest = later (rest is)
    by way.Unbegun at is rest = later (rest is)

module _ {R : Type 0} (stands : R → Standing) where
  none_found : (c : ClientView R) (places : List ImageAt) → find (may_release c) places ≡ None → (site : SiteId) (image : ℕ) → is_among site image places ≡ true → may_release c (record { site = site; image = image }) ≡ false
  none_found c [] none site image is = absurd (false≢true is)
  none_found c (p ∷ places) none site image is = by (λ none is. none_found c places none site image is) (may_release c p) refl none (is_at site image p.site p.image) refl is
    where
      turned : is_at site image p.site p.image ≡ true → is_at p.site p.image site image ≡ true
      turned same = where_same (λ s i. is_at s i site image ≡ true) site image p.site p.image same (at_itself site image)

      by : (find (may_release c) places ≡ None → is_among site image places ≡ true → may_release c (record { site = site; image = image }) ≡ false)
          → (may : Bool) → may_release c p ≡ may → cond may (Some p) (find (may_release c) places) ≡ None → (here : Bool) → is_at site image p.site p.image ≡ here → (here || is_among site image places) ≡ true
          → may_release c (record { site = site; image = image }) ≡ false
      by rest true may none here at is = absurd (none-some p (sym none))
      by rest false may none false at is = rest none is
      by rest false may none true at is = where_same (λ s i. may_release c (record { site = s; image = i }) ≡ false) p.site p.image site image (turned at) may

  kept_asked : (c : ClientView R) → due_release c ≡ None → KeepsAsked c
  kept_asked c none site image asked =
      by (lock_state_at site image c.locks).quiesced refl (any_past (lines_of c.session.lines site image)) refl (any_taken site image c.slots) refl (none_found c c.locks.asked none site image asked)
    where
      by : (q : Bool) → (lock_state_at site image c.locks).quiesced ≡ q → (past : Bool) → any_past (lines_of c.session.lines site image) ≡ past → (taken : Bool) → any_taken site image c.slots ≡ taken
          → (not q && (not past && not taken)) ≡ false
          → ((lock_state_at site image c.locks).quiesced ≡ true) ⊎ ((any_past (lines_of c.session.lines site image) ≡ true) ⊎ HasTaken c)
      by true quiesced past at taken is may = inl quiesced
      by false quiesced true at taken is may = inr (inl at)
      by false quiesced false at true is may = let it = taken_at site image c.slots is in inr (inr (record { slot = it.0; image = it.1; taken = it.2 }))
      by false quiesced false at false is may = absurd (true≢false may)

  -- who has nothing to let go
  abbrev HasNoRelease : ClientView R → Type 0
  HasNoRelease c = due_release c ≡ None

  none_due : (release : Option Release) (due : Option ImageAt) (sites : Sites) (c : ClientView R) → goes_on (outcome_of (releases sites c.session.instance (release_actor release due))) ≡ false → due ≡ None
  none_due (Some r) due sites c still = absurd (true≢false still)
  none_due None (Some p) sites c still = absurd (true≢false still)
  none_due None None sites c still = refl

  -- slot 0 of a client was polled, and nothing went on
  polled_none : (sites : Sites) (c : ClientView R) → IsSoundSession stands c.session → goes_on (outcome_of (polled stands sites 0 (Some c))) ≡ false → due_release c ≡ None
  polled_none sites c sound still = none_due c.release (due_release c) sites c (subst (λ o. goes_on (outcome_of (polled_in stands sites c 0 o)) ≡ false) sound.zero still)

  -- ---- polls of the other slots leave it

  -- a request that has taken its lock doesn't ask for it again
  taken_polled : (session slot : ℕ) (sites : Sites) (a b : ClientView R) (h : Happening) → IsIdleBy stands sites a slot h → Becomes stands (event.Poll session slot) h a b → (slot == 0) ≡ false → IsIdlePoll stands slot a b
      → HasTaken a → HasTaken b
  taken_polled session slot sites a b h idle becomes some poll it = by (cases_eq it.slot slot) idle
    where
      same : b ≡ a → HasTaken b
      same is = subst HasTaken (sym is) it

      acts : it.slot ≡ slot → actor_at stands slot a ≡ actor.Request
      acts is =
          ap (λ b. cond b (release_actor a.release (due_release a)) (actor_on (slot_state slot a.slots).way (look_under_lock_at stands slot a.session) a.locks)) some
          ∙ ap (λ y. actor_on y (look_under_lock_at stands slot a.session) a.locks) (subst (λ n. (slot_state n a.slots).way ≡ way.Taken it.image) is it.taken)

      by : (it.slot ≡ slot) ⊎ (it.slot ≡ slot → ⊥) → IsIdleBy stands sites a slot h → HasTaken b
      by (inr away) idle = record { slot = it.slot; image = it.image; taken = ap (λ (s : SlotState). s.way) (poll.states it.slot away) ∙ it.taken }
      by (inl here) (inl is) = same (subst (λ x. Becomes stands (event.Poll session slot) x a b) is becomes)
      by (inl here) (inr (inl is)) = same (subst (λ x. Becomes stands (event.Poll session slot) x a b) is becomes)
      by (inl here) (inr (inr asks)) = absurd (false≢true (sym (ap is_acquiring (acts here)) ∙ ap is_acquiring asks.acts))

  keeps_polled : (a b : ClientView R) (slot : ℕ) → IsIdlePoll stands slot a b → (HasTaken a → HasTaken b) → KeepsAsked a → KeepsAsked b
  keeps_polled a b slot poll taken keeps site image asked = by (keeps site image (sym (ap (λ (s : LockState). s.asked) (poll.locks site image)) ∙ asked))
    where
      by : ((lock_state_at site image a.locks).quiesced ≡ true) ⊎ ((any_past (lines_of a.session.lines site image) ≡ true) ⊎ HasTaken a)
          → ((lock_state_at site image b.locks).quiesced ≡ true) ⊎ ((any_past (lines_of b.session.lines site image) ≡ true) ⊎ HasTaken b)
      by (inl quiesced) = inl (ap (λ (s : LockState). s.quiesced) (poll.locks site image) ∙ quiesced)
      by (inr (inl past)) = inr (inl (subst (λ (s : SessionView R). any_past (lines_of s.lines site image) ≡ true) (sym poll.session) past))
      by (inr (inr it)) = inr (inr (taken it))

  -- ---- in a world

  abbrev pub KeepsIn : (session : ℕ) → WorldView R → Type 0
  KeepsIn session w = (c : ClientView R) → client_in session w.lives ≡ Some c → KeepsAsked c

  pub keeps_by_poll : (session slot : ℕ) → (slot == 0) ≡ false → (old new : WorldView R) (result : Outcome) → IsWorldStep stands (event.Poll session slot) old result new → goes_on result ≡ false → KeepsIn session old → KeepsIn session new
  keeps_by_poll session slot some old new result step none keeps c there =
      let was = client_before stands session old new (Asked session slot result none step) c there in
      let becomes = polled_becomes stands session slot old new result step none was.0 c was.1 there in
      let idle = idle_held stands old.sites was.0 slot (held_in slot was.0.session.slots) becomes.0 in
      let poll = idle_becomes stands session slot old.sites was.0 c (polled stands old.sites slot (Some was.0)) idle becomes.1 in
      keeps_polled was.0 c slot poll (taken_polled session slot old.sites was.0 c (polled stands old.sites slot (Some was.0)) idle becomes.1 some poll) (keeps was.0 was.1)

  -- behind the poll of slot 0
  pub keeps_by_house : (session : ℕ) (old new : WorldView R) (result : Outcome) → IsWorldStep stands (event.Poll session 0) old result new → goes_on result ≡ false → AreSoundSessions stands (λ s. []) old → KeepsIn session new
  keeps_by_house session old new result step none sound c there =
      let was = client_before stands session old new (Asked session 0 result none step) c there in
      let becomes = polled_becomes stands session 0 old new result step none was.0 c was.1 there in
      let idle = idle_held stands old.sites was.0 0 (held_in 0 was.0.session.slots) becomes.0 in
      same was.0 c (polled stands old.sites 0 (Some was.0)) idle becomes.1 (kept_asked was.0 (polled_none old.sites was.0 (sound session was.0 was.1) becomes.0))
      (ap is_acquiring (actor_is was.0))
    where
      actor_is : (a : ClientView R) → actor_at stands 0 a ≡ release_actor a.release (due_release a)
      actor_is a = refl

      never : (release : Option Release) (due : Option ImageAt) → is_acquiring (release_actor release due) ≡ false
      never (Some r) due = refl
      never None (Some p) = refl
      never None None = refl

      same : (a b : ClientView R) (h : Happening) → IsIdleBy stands old.sites a 0 h → Becomes stands (event.Poll session 0) h a b → KeepsAsked a → is_acquiring (actor_at stands 0 a) ≡ is_acquiring (release_actor a.release (due_release a)) → KeepsAsked b
      same a b h (inl is) becomes keeps acts = subst KeepsAsked (sym (subst (λ x. Becomes stands (event.Poll session 0) x a b) is becomes)) keeps
      same a b h (inr (inl is)) becomes keeps acts = subst KeepsAsked (sym (subst (λ x. Becomes stands (event.Poll session 0) x a b) is becomes)) keeps
      same a b h (inr (inr asks)) becomes keeps acts = absurd (false≢true (sym (acts ∙ never a.release (due_release a)) ∙ ap is_acquiring asks.acts))

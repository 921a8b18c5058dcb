-- What becomes of the client of a session by a step.
use Rattle.std.proofs.Common.{◌≡◌, ℕ, ◌==◌, ◌⊎◌, inl, inr, cond, Bool, true, false, Option, Some, None, refl, sym, ap, ◌∙◌}
use Rattle.std.proofs.lemmas.Bool.{false≢true}
use Rattle.rbd_client.specs.declared.actor.Actor.TheVariants as actor
use Rattle.rbd_client.specs.declared.slot_state.SlotState.{SlotState}
use Rattle.rbd_client.specs.Actor.{actor_at, actor_at_look, actor_on, due_release, is_acquiring, release_actor}
use Rattle.rbd_client.specs.Client.{ClientView}
use Rattle.rbd_client.specs.Sound.{IsSoundClient}
use Rattle.rbd_kinds.specs.declared.id.SiteId.{SiteId}
use Rattle.rbd_kinds.specs.declared.image_at.ImageAt.{ImageAt}
use Rattle.rbd_machine.specs.Plan.{Standing}
use Rattle.rbd_lock.specs.declared.acquire.Acquire.{Acquire}
use Rattle.rbd_lock.specs.declared.release.Release.{Release}
use Rattle.rbd_slots.specs.Session.{going_in, held_in, look_under_lock_in}
use Rattle.rbd_slots.specs.declared.running.Occupant.{Occupant}
use Rattle.rbd_world.specs.declared.event.Event.{Event}
use Rattle.rbd_world.specs.Run.{Happening}
use Rattle.rbd_world.specs.Step.{Does, LivesOnIf, RunsOn, names_session}
use Rattle.rbd_world.specs.World.{LivesView, WorldView, client_in, lives_in, running_of}

module _ {R : Type 0} (stands : R → Standing) where
  lives_then : (e : Event) (h : Happening) (old new : Option (LivesView R)) → LivesOnIf stands e h old new
      → (running_of new ≡ running_of old) ⊎ ((home : SiteId) × RunsOn stands e h home (running_of old) (running_of new))
  lives_then e h None new on = inl (ap running_of on)
  lives_then e h (Some a) None on = absurd on
  lives_then e h (Some a) (Some b) on = inr (a.home, on.running)

  -- it stays as it was, or goes on as the event says
  pub client_then : (e : Event) (h : Happening) (old new : WorldView R) → Does stands e h old new → (s : ℕ)
      → (client_in s new.lives ≡ client_in s old.lives) ⊎ ((home : SiteId) × RunsOn stands e h home (client_in s old.lives) (client_in s new.lives))
  client_then e h old new does s = by (names_session e h s) refl
    where
      by : (b : Bool) → names_session e h s ≡ b → (client_in s new.lives ≡ client_in s old.lives) ⊎ ((home : SiteId) × RunsOn stands e h home (client_in s old.lives) (client_in s new.lives))
      by true named = lives_then e h (lives_in s old.lives) (lives_in s new.lives) (does.named s named)
      by false other = inl (ap running_of (does.others s other))

  -- ---- at a slot that is free

  release_acquires : (r : Option Release) (due : Option ImageAt) → is_acquiring (release_actor r due) ≡ false
  release_acquires (Some r) due = refl
  release_acquires None (Some p) = refl
  release_acquires None None = refl

  nobody_acquires : (b : Bool) (r : Option Release) (due : Option ImageAt) → is_acquiring (cond b (release_actor r due) actor.Request) ≡ false
  nobody_acquires true r due = release_acquires r due
  nobody_acquires false r due = refl

  free_actor : (c : ClientView R) (slot : ℕ) → IsSoundClient stands c → held_in slot c.session.slots ≡ None
      → actor_at stands slot c ≡ cond (slot == 0) (release_actor c.release (due_release c)) actor.Request
  free_actor c slot sound none =
      ap (λ (s : SlotState). cond (slot == 0) (release_actor c.release (due_release c)) (actor_on s.way (look_under_lock_in stands slot c.session.lines (going_in slot (held_in slot c.session.slots) c.session.lines)) c.locks)) (sound.free slot none)
      ∙ ap (λ (o : Option (Occupant R)). cond (slot == 0) (release_actor c.release (due_release c)) (actor_at_look (look_under_lock_in stands slot c.session.lines (going_in slot o c.session.lines)) c.locks)) none

  -- no request is on its way there
  pub no_way : (c : ClientView R) (slot : ℕ) → IsSoundClient stands c → held_in slot c.session.slots ≡ None → (a : Acquire) → actor_at stands slot c ≡ actor.Way a → ⊥
  no_way c slot sound none a is =
      false≢true (sym (nobody_acquires (slot == 0) c.release (due_release c)) ∙ sym (ap is_acquiring (free_actor c slot sound none)) ∙ ap is_acquiring is)

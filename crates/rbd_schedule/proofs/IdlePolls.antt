-- What becomes of the client of a slot that is polled, where nothing goes on.
use Rattle.std.proofs.Common.{◌≡◌, ℕ, false, Option, Some, None, refl, sym, ap, ◌∙◌, subst}
use Rattle.std.proofs.lemmas.Bool.{eq-eqb}
use Rattle.std.proofs.lemmas.Option.{none-some}
use Rattle.rbd_client.specs.Client.{ClientView}
use Rattle.rbd_kinds.specs.declared.id.SiteId.{SiteId}
use Rattle.rbd_machine.specs.Plan.{Standing}
use Rattle.rbd_slots.specs.Session.{held_in}
use Rattle.rbd_world.specs.declared.event.Event.{Event}
use Rattle.rbd_world.specs.declared.event.Event.TheVariants as event
use Rattle.rbd_world.specs.declared.event.Outcome.{Outcome}
use Rattle.rbd_world.specs.Run.{Happening, outcome_of}
use Rattle.rbd_world.specs.Step.{Becomes, BecomesOf, IsWorldStep, LivesOnIf, RunsOn, polled}
use Rattle.rbd_world.specs.World.{LivesView, WorldView, client_in, lives_in, running_of, session_of_client}
use Rattle.rbd_schedule.specs.Schedule.{goes_on}
use Rattle.rbd_schedule.proofs.Idle.{IsIdleStep, idle_held, runs_idle, same_sessions}

module _ {R : Type 0} (stands : R → Standing) where
  pub named_lives : (e : Event) (h : Happening) (old new : Option (LivesView R)) → LivesOnIf stands e h old new → (a : ClientView R) → running_of old ≡ Some a → (home : SiteId) × RunsOn stands e h home (Some a) (running_of new)
  named_lives e h None new on a is = absurd (none-some a is)
  named_lives e h (Some l) None on a is = absurd on
  named_lives e h (Some l) (Some m) on a is = (l.home, subst (λ o. RunsOn stands e h l.home o m.running) is on.running)

  -- what becomes of the client that an idle poll is of
  pub polled_becomes : (session slot : ℕ) (old new : WorldView R) (result : Outcome) → IsWorldStep stands (event.Poll session slot) old result new → goes_on result ≡ false → (a b : ClientView R)
      → client_in session old.lives ≡ Some a → client_in session new.lives ≡ Some b
      → (goes_on (outcome_of (polled stands old.sites slot (Some a))) ≡ false) × Becomes stands (event.Poll session slot) (polled stands old.sites slot (Some a)) a b
  polled_becomes session slot old new result step none a b at there =
      let still : goes_on (outcome_of (polled stands old.sites slot (Some a))) ≡ false
      = ap (λ o. goes_on (outcome_of (polled stands old.sites slot o))) (sym at) ∙ sym (ap goes_on step.0) ∙ none in
      let runs = named_lives (event.Poll session slot) (polled stands old.sites slot (client_in session old.lives)) (lives_in session old.lives) (lives_in session new.lives)
      (step.1.named session (eq-eqb session session refl)) a at in
      let becomes = runs_idle stands session slot old.sites runs.0 a (client_in session new.lives) (polled stands old.sites slot (Some a)) (idle_held stands old.sites a slot (held_in slot a.session.slots) still)
      (subst (λ o. RunsOn stands (event.Poll session slot) (polled stands old.sites slot o) runs.0 (Some a) (client_in session new.lives)) at runs.1) in
      (still, subst (BecomesOf stands (event.Poll session slot) (polled stands old.sites slot (Some a)) (Some a)) there becomes)

  pub client_before : (s : ℕ) (old new : WorldView R) → IsIdleStep stands old new → (c : ClientView R) → client_in s new.lives ≡ Some c → (a : ClientView R) × (client_in s old.lives ≡ Some a)
  client_before s old new step c there = by (client_in s old.lives) refl
    where
      by : (o : Option (ClientView R)) → client_in s old.lives ≡ o → (a : ClientView R) × (client_in s old.lives ≡ Some a)
      by None at = absurd (none-some c.session (sym (ap session_of_client at) ∙ sym (same_sessions stands old new step s) ∙ ap session_of_client there))
      by (Some a) at = (a, at)

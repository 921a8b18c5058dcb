-- A world steps: what was done to its parts, and noted, is the event's step, and the world is sound
-- again.
use Rattle.std.proofs.Common.{◌≡◌, ℕ, ◌||◌, Bool, true, false, Option, Some, None, refl, sym, ap, ◌∙◌, subst}
use Rattle.std.proofs.Math.Path.{fun_ext}
use Rattle.std.proofs.lemmas.List.Folds.{list_any-append}
use Rattle.rbd_client.specs.Client.{ClientView}
use Rattle.rbd_kinds.specs.declared.id.SiteId.TheVariants as site
use Rattle.rbd_machine.specs.Plan.{Standing}
use Rattle.rbd_world.specs.declared.event.Event.{Event}
use Rattle.rbd_world.specs.declared.event.Outcome.{Outcome}
use Rattle.rbd_world.specs.declared.sites.Sites.{Sites}
use Rattle.rbd_world.specs.Begun.{has_line}
use Rattle.rbd_world.specs.declared.begun.BegunLines.{BegunLines}
use Rattle.rbd_world.specs.Run.{Happening, entries_of}
use Rattle.rbd_world.specs.Sound.{IsKeptWorld, IsSoundWorld}
use Rattle.rbd_world.specs.Step.{AreSameSites, Does, IsBuiltEvent, IsSoundIf, IsWorldStep, IsUndone, LeavesParts, StepsParts, happening, happens, is_begun, is_start_of, names_session}
use Rattle.rbd_world.specs.World.{WorldView, client_in, running_of}
use Rattle.rbd_world.proofs.Steps.{steps_keep}
use Rattle.rbd_world.proofs.Undone.{undone_is_sound}

module _ {R : Type 0} (stands : R → Standing) where
  pub clients_sound : (w : WorldView R) → IsSoundWorld stands w → (session : ℕ) (o : Option (ClientView R)) → client_in session w.lives ≡ o → IsSoundIf stands o
  clients_sound w sound session None is = tt
  clients_sound w sound session (Some c) is = (sound.clients session c is).sound

  -- the table of lines tells what the history does
  same_happening : (e : Event) (b : BegunLines) (w : WorldView R) → IsKeptWorld stands b w
      → happens stands e (λ line. has_line line b) w.sites w.lives ≡ happening stands e w
  same_happening e b w kept = ap (λ begun. happens stands e begun w.sites w.lives) (fun_ext kept.lines)

  module _ (e : Event) (b after : BegunLines) (old new : WorldView R) (result : Outcome) (k : IsKeptWorld stands b old)
      (did : StepsParts stands e (happens stands e (λ line. has_line line b) old.sites old.lives) old.sites new.sites old.lives new.lives b after old.history new.history old.calls new.calls result) where
    abbrev what : Happening
    what = happening stands e old

    pub steps : StepsParts stands e what old.sites new.sites old.lives new.lives b after old.history new.history old.calls new.calls result
    steps = subst (λ h. StepsParts stands e h old.sites new.sites old.lives new.lives b after old.history new.history old.calls new.calls result) (same_happening e b old k) did

    pub does : Does stands e what old new
    does = record {
      calls = steps.calls;
      history = steps.history;
      sites = steps.parts.sites.sites;
      mail = steps.parts.sites.mail;
      named = steps.parts.lives.named;
      others = steps.parts.lives.others;
    }

    pub stepped : IsWorldStep stands e old result new
    stepped = (steps.outcome, does)

    -- the lines that were begun are those of the history
    lines_kept : (line : ℕ) → has_line line after ≡ is_begun line new.history
    lines_kept line =
        steps.parts.begun line ∙ ap (λ c. c || is_begun line (entries_of what)) (k.lines line)
        ∙ sym (list_any-append (is_start_of line) old.history (entries_of what)) ∙ sym (ap (is_begun line) steps.history)

    pub lives_sound : (session : ℕ) → IsSoundIf stands (client_in session new.lives)
    lives_sound session = by (names_session e what session) refl
      where
        named_sound : (o : Option (ClientView R)) → names_session e what session ≡ true → client_in session new.lives ≡ o → IsSoundIf stands o
        named_sound None named is = tt
        named_sound (Some c) named is = steps.parts.lives.sound session c named is

        by : (named : Bool) → names_session e what session ≡ named → IsSoundIf stands (client_in session new.lives)
        by true named = named_sound (client_in session new.lives) named refl
        by false named =
            subst (IsSoundIf stands) (sym (ap running_of (steps.parts.lives.others session named))) (clients_sound old k.sound session (client_in session old.lives) refl)

    pub sound_again : IsBuiltEvent e → IsSoundWorld stands new
    sound_again built = steps_keep stands e old new k.sound built does steps.parts.sites lives_sound

    pub kept_sound : IsSoundWorld stands new → IsKeptWorld stands after new
    kept_sound sound = record { sound = sound; lines = lines_kept }

-- ---- a step that is refused memory

same_sites : (old new : Sites) → AreSameSites old new → new ≡ old
same_sites old new same =
    ap (λ a. record { a = a; b = new.b; mail = new.mail }) (same.sites site.A)
    ∙ ap (λ b. record { a = old.a; b = b; mail = new.mail }) (same.sites site.B)
    ∙ ap (λ mail. record { a = old.a; b = old.b; mail = mail }) same.mail

module _ {R : Type 0} (stands : R → Standing) where
  pub undone : (b after : BegunLines) (old new : WorldView R) → LeavesParts stands old.sites new.sites old.lives new.lives b after
      → new.history ≡ old.history → new.calls ≡ old.calls → IsUndone stands old new
  undone b after old new left history calls = record {
    sites = same_sites old.sites new.sites left.sites;
    lives = left.lives.alike;
    history = history;
    calls = calls;
  }

  pub undone_sound : (b after : BegunLines) (old new : WorldView R) → IsKeptWorld stands b old → LeavesParts stands old.sites new.sites old.lives new.lives b after
      → new.history ≡ old.history → new.calls ≡ old.calls → IsSoundWorld stands new
  undone_sound b after old new k left history calls =
      undone_is_sound stands old new k.sound (undone b after old new left history calls)
      (λ session. left.lives.sound session (clients_sound stands old k.sound session (client_in session old.lives) refl))

  pub undone_kept : (b after : BegunLines) (old new : WorldView R) → IsKeptWorld stands b old → LeavesParts stands old.sites new.sites old.lives new.lives b after
      → new.history ≡ old.history → IsSoundWorld stands new → IsKeptWorld stands after new
  undone_kept b after old new k left history sound = record {
    sound = sound;
    lines = λ line. left.begun line ∙ k.lines line ∙ sym (ap (is_begun line) history);
  }

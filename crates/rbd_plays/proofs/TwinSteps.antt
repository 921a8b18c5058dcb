-- Twins to which the same comes are twins behind it, with the same outcome.
use Rattle.std.proofs.Common.{◌≡◌, ◌++◌, ◌∷◌, [], ℕ, Bool, true, false, List, Option, Some, None, refl, sym, ap, ◌∙◌, subst}
use Rattle.rbd_flat.specs.declared.entry.Entry.{Entry}
use Rattle.rbd_kinds.specs.declared.id.SiteId.{SiteId}
use Rattle.rbd_kinds.specs.declared.id.SiteId.TheVariants as site
use Rattle.rbd_machine.specs.Plan.{Standing}
use Rattle.rbd_world.specs.Events.{IsCallOf}
use Rattle.rbd_world.specs.Run.{Happening, entries_of, lines_at, outcome_of}
use Rattle.rbd_world.specs.Step.{Does, IsAlikeOf, IsBuiltEvent, IsSoundIf, IsWorldStep, call_of, happening, mail_then, names_session, with_log_lines}
use Rattle.rbd_world.specs.World.{WorldView, client_in, lives_in, site_in}
use Rattle.rbd_world.specs.declared.event.Call.{Call}
use Rattle.rbd_world.specs.declared.event.Event.{Event}
use Rattle.rbd_world.specs.declared.event.Outcome.{Outcome}
use Rattle.rbd_world.specs.declared.sites.Sites.{Sites}
use Rattle.rbd_client.specs.Client.{ClientView}
use Rattle.rbd_schedule.proofs.Slots.{client_counted}
use Rattle.rbd_schedule.specs.Slots.{AreClientsCounted}
use Rattle.rbd_plays.proofs.Happening.{happening_alike}
use Rattle.rbd_plays.proofs.TwinsStepping.{BeginsBuilt, IsCountedIf, begins_built, named_alike}
use Rattle.rbd_plays.specs.Twins.{AreTwins}

-- two that have the same of each site, and the same mail
pub same_sites : (old new : Sites) → ((s : SiteId) → site_in s new ≡ site_in s old) → new.mail ≡ old.mail → new ≡ old
same_sites old new same mail =
    ap (λ a. record { a = a; b = new.b; mail = new.mail }) (same site.A)
    ∙ ap (λ b. record { a = old.a; b = b; mail = new.mail }) (same site.B)
    ∙ ap (λ m. record { a = old.a; b = old.b; mail = m }) mail

module _ {R : Type 0} (stands : R → Standing) where
  module _ (e : Event) (h : Happening) (v w x y : WorldView R) (twins : AreTwins stands v w) (does : Does stands e h v x) (other : Does stands e h w y) where
    sites_alike : y.sites ≡ x.sites
    sites_alike =
        same_sites x.sites y.sites (λ s. other.sites s ∙ ap (λ (z : Sites). with_log_lines (lines_at s h) (site_in s z)) twins.sites ∙ sym (does.sites s))
        (other.mail ∙ ap (mail_then h) twins.sites ∙ sym does.mail)

    unnamed_alike : (session : ℕ) → names_session e h session ≡ false → IsAlikeOf stands (lives_in session x.lives) (lives_in session y.lives)
    unnamed_alike session names =
        subst (λ o. IsAlikeOf stands o (lives_in session y.lives)) (sym (does.others session names))
        (subst (IsAlikeOf stands (lives_in session v.lives)) (sym (other.others session names)) (twins.lives session))

  -- each client of a world is counted, where one runs
  counted_if : (w : WorldView R) → AreClientsCounted w → (session : ℕ) → IsCountedIf (client_in session w.lives)
  counted_if w counted session = by (client_in session w.lives) refl
    where
      by : (c : Option (ClientView R)) → client_in session w.lives ≡ c → IsCountedIf c
      by None is = tt
      by (Some c) is = counted session c is

  -- what it does to both is the same
  does_alike : (e : Event) (v w x y : WorldView R) → AreTwins stands v w → BeginsBuilt e (happening stands e v) → AreClientsCounted x → AreClientsCounted y
      → Does stands e (happening stands e v) v x → Does stands e (happening stands e v) w y → AreTwins stands x y
  does_alike e v w x y twins built counted also does other = record {
    sites = sites_alike e (happening stands e v) v w x y twins does other;
    lives = λ session. by session (names_session e (happening stands e v) session) refl;
    history = other.history ∙ ap (λ (hs : List Entry). hs ++ entries_of (happening stands e v)) twins.history ∙ sym does.history;
    calls = other.calls ∙ ap (λ (cs : List Call). cs ++ call_of e (happening stands e v) ∷ []) twins.calls ∙ sym does.calls;
  }
    where
      by : (session : ℕ) (named : Bool) → names_session e (happening stands e v) session ≡ named → IsAlikeOf stands (lives_in session x.lives) (lives_in session y.lives)
      by session true names =
          named_alike stands e v session built names (lives_in session w.lives) (lives_in session x.lives) (lives_in session y.lives) (twins.lives session) (counted_if x counted session) (counted_if y also session)
          (does.named session names) (other.named session names)
      by session false names = unnamed_alike e (happening stands e v) v w x y twins does other session names

  pub step_alike : (e : Event) (v w x y : WorldView R) (a b : Outcome) → IsBuiltEvent e → AreTwins stands v w → IsWorldStep stands e v a x → IsWorldStep stands e w b y
      → AreClientsCounted x → AreClientsCounted y → (a ≡ b) × AreTwins stands x y
  step_alike e v w x y a b built twins step other counted also =
      let same : happening stands e w ≡ happening stands e v = happening_alike stands v w twins e in (
        step.0 ∙ sym (ap outcome_of same) ∙ sym other.0,
        does_alike e v w x y twins (begins_built e (happening stands e v) built) counted also step.1 (subst (λ h. Does stands e h w y) same other.1),
      )

  -- ---- of calls

  -- sound clients are counted
  clients_counted : (w : WorldView R) → ((session : ℕ) → IsSoundIf stands (client_in session w.lives)) → AreClientsCounted w
  clients_counted w sound session c is = client_counted stands c (subst (IsSoundIf stands) is (sound session))

  pub calls_alike : (c d : Call) (v w x y : WorldView R) → c.event ≡ d.event → AreTwins stands v w → IsCallOf stands c v x → IsCallOf stands d w y → (c ≡ d) × AreTwins stands x y
  calls_alike c d v w x y same twins call other =
      let both =
      step_alike c.event v w x y c.outcome d.outcome call.built twins call.step (subst (λ e. IsWorldStep stands e w d.outcome y) (sym same) other.step)
      (clients_counted x call.clients) (clients_counted y other.clients) in
      (ap (λ e. record { event = e; outcome = c.outcome }) same ∙ ap (λ o. record { event = d.event; outcome = o }) both.0, both.1)

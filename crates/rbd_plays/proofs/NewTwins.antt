-- New worlds of the same homes are twins.
use Rattle.std.proofs.Common.{◌≡◌, ℕ, List, Option, Some, None, slice_get, refl, sym, ap, ◌∙◌, subst}
use Rattle.rbd_kinds.specs.declared.id.SiteId.{SiteId}
use Rattle.rbd_machine.specs.Plan.{Standing}
use Rattle.rbd_site.specs.Log.{SiteLog}
use Rattle.rbd_world.specs.Sound.{AreAtHome, IsAtHome, IsFirst, IsNewWorld, first_life}
use Rattle.rbd_world.specs.Step.{AreLivesAlike, IsAlikeOf, IsClientAlikeIf}
use Rattle.rbd_world.specs.World.{LivesView, WorldView, lives_in, site_in}
use Rattle.rbd_plays.proofs.Fresh.{fresh_alike}
use Rattle.rbd_plays.proofs.TwinSteps.{same_sites}
use Rattle.rbd_plays.specs.Twins.{AreTwins}

same_log : (old new : SiteLog) → new.id ≡ old.id → new.log ≡ old.log → new ≡ old
same_log old new id log = ap (λ i. record { id = i; log = new.log }) id ∙ ap (λ ds. record { id = old.id; log = ds }) log

module _ {R : Type 0} (stands : R → Standing) where
  -- ---- a session in its first life

  first_alike : (session : ℕ) (l m : LivesView R) → m.home ≡ l.home → IsFirst session l → IsFirst session m → AreLivesAlike stands l m
  first_alike session l m same first also = record {
    home = same;
    latest = also.latest ∙ sym first.latest;
    running =
        subst (λ o. IsClientAlikeIf stands o m.running) (sym first.runs)
        (subst (IsClientAlikeIf stands (Some first.client)) (sym also.runs)
        (fresh_alike stands (first_life session) l.home m.home first.client also.client same first.fresh also.fresh));
    late = also.late ∙ sym first.late;
  }

  firsts_alike : (session : ℕ) (home : Option SiteId) (o n : Option (LivesView R)) → IsAtHome home o → IsAtHome home n
      → ((l : LivesView R) → o ≡ Some l → IsFirst session l) → ((m : LivesView R) → n ≡ Some m → IsFirst session m) → IsAlikeOf stands o n
  firsts_alike session None None None at other first also = refl
  firsts_alike session None None (Some m) at other first also = absurd other
  firsts_alike session None (Some l) n at other first also = absurd at
  firsts_alike session (Some home) None n at other first also = absurd at
  firsts_alike session (Some home) (Some l) None at other first also = absurd other
  firsts_alike session (Some home) (Some l) (Some m) at other first also = first_alike session l m (other ∙ sym at) (first l refl) (also m refl)

  -- ---- the world

  pub new_worlds_are_twins : (homes : List SiteId) (v w : WorldView R) → IsNewWorld v → IsNewWorld w → AreAtHome homes v.lives → AreAtHome homes w.lives → AreTwins stands v w
  new_worlds_are_twins homes v w new also at other = record {
    sites =
        same_sites v.sites w.sites (λ s. same_log (site_in s v.sites) (site_in s w.sites) (also.ids s ∙ sym (new.ids s)) (also.sites s ∙ sym (new.sites s)))
        (also.mail ∙ sym new.mail);
    lives = λ session.
        firsts_alike session (slice_get homes session) (lives_in session v.lives) (lives_in session w.lives) (at session) (other session) (new.lives session) (also.lives session);
    history = also.history ∙ sym new.history;
    calls = also.calls ∙ sym new.calls;
  }

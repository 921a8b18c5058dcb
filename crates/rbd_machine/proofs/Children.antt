-- What is known of children is forgotten in time.
use Rattle.std.proofs.Common.{◌≡◌, ℕ, ◌==◌, ◌&&◌, not, Bool, true, List, refl, sym, ap, ◌∙◌}
use Rattle.std.proofs.lemmas.Bool.{true≢false, eq-eqb}
use Rattle.rbd_kinds.specs.declared.header.ParentLink.{ParentLink}
use Rattle.rbd_kinds.specs.declared.id.SiteId.{SiteId}
use Rattle.rbd_kinds.proofs.Images.{at_itself}
use Rattle.rbd_machine.specs.Ancestors.{ChildBase, IsAmong, SnapPlace}
use Rattle.rbd_machine.specs.Children.{bases_of_others, bases_without, is_base, is_snap, snaps_of_others, snaps_without}
use Rattle.rbd_machine.specs.Knowledge.{is_at}
use Rattle.rbd_machine.proofs.AtLeast.{among_left}

-- what a test takes out of a list isn't in it any more
none_left : {T : Type 0} (test : T → Bool) (x : T) (xs : List T) → test x ≡ true → (IsAmong x xs × (not (test x) ≡ true)) → ⊥
none_left test x xs is left = true≢false (sym left.1 ∙ ap not is)

pub base_without : (site : SiteId) (image snap child : ℕ) (link : ParentLink) (based : List ChildBase) → link.image ≡ image → link.snap ≡ snap
    → IsAmong (record { site = site; child = child; link = link }) (bases_without site image snap child based) → ⊥
base_without site image snap child link based one two among =
    none_left (is_base site image snap child) (record { site = site; child = child; link = link }) based
    (ap (λ b. b && ((link.image == image) && (link.snap == snap))) (at_itself site child)
    ∙ ap (λ b. b && (link.snap == snap)) (eq-eqb link.image image one) ∙ eq-eqb link.snap snap two)
    (among_left (λ b. not (is_base site image snap child b)) (record { site = site; child = child; link = link }) based among)

pub base_of_other : (site : SiteId) (child : ℕ) (link : ParentLink) (based : List ChildBase) → IsAmong (record { site = site; child = child; link = link }) (bases_of_others site child based) → ⊥
base_of_other site child link based among =
    none_left (λ b. is_at site child b.site b.child) (record { site = site; child = child; link = link }) based (at_itself site child)
    (among_left (λ b. not (is_at site child b.site b.child)) (record { site = site; child = child; link = link }) based among)

pub snap_without : (site : SiteId) (image snap : ℕ) (childless : List SnapPlace) → IsAmong (record { site = site; image = image; snap = snap }) (snaps_without site image snap childless) → ⊥
snap_without site image snap childless among =
    none_left (is_snap site image snap) (record { site = site; image = image; snap = snap }) childless
    (ap (λ b. b && (snap == snap)) (at_itself site image) ∙ eq-eqb snap snap refl)
    (among_left (λ p. not (is_snap site image snap p)) (record { site = site; image = image; snap = snap }) childless among)

pub snap_of_other : (site : SiteId) (image snap : ℕ) (childless : List SnapPlace) → IsAmong (record { site = site; image = image; snap = snap }) (snaps_of_others site image childless) → ⊥
snap_of_other site image snap childless among =
    none_left (λ p. is_at site image p.site p.image) (record { site = site; image = image; snap = snap }) childless (at_itself site image)
    (among_left (λ p. not (is_at site image p.site p.image)) (record { site = site; image = image; snap = snap }) childless among)

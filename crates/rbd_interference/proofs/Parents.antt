-- What a change of a header leaves of its views: their parents, and the snapshots that are listed.
use Rattle.std.proofs.Common.{◌≡◌, ℕ, ◌==◌, cond, Bool, true, false, List, [], ◌∷◌, ◌++◌, Option, Some, None, is_some, refl, sym, ap, ◌∙◌}
use Rattle.std.proofs.lemmas.Bool.{eqb-true}
use Rattle.std.proofs.lemmas.Option.{none-some, same_Some}
use Rattle.rbd_kinds.specs.declared.header.HeaderView.{HeaderView}
use Rattle.rbd_kinds.specs.declared.header.ParentLink.{ParentLink}
use Rattle.rbd_kinds.specs.declared.header.SnapView.{SnapView}
use Rattle.rbd_kinds.specs.declared.header_op.HeaderOp.{HeaderOp}
use Rattle.rbd_kinds.specs.declared.header_op.HeaderOp.TheVariants as header
use Rattle.rbd_kinds.specs.declared.id.Instance.{Instance}
use Rattle.rbd_kinds.specs.Header.{snap_named}
use Rattle.rbd_header.specs.Header.{cut, is_full, snap_in, with_snap, with_status, without_snap}
use Rattle.rbd_site.specs.HeaderStep.{header_then, is_owner}
use Rattle.rbd_stands.specs.View.{EachView}
use Rattle.rbd_stands.proofs.Views.{each_added, each_marked, each_removed}

-- ---- parents

-- What holds of the parent of each view holds behind each change of the header, where it holds of
-- none, and of a parent whose overlap is cut.
module _ (P : Option ParentLink → Type 0) where
  abbrev pub OfParents : HeaderView → Type 0
  OfParents h = EachView h (λ v shape. P shape.parent)

  either_of_parents : (b : Bool) (one other : HeaderView) → OfParents one → OfParents other → OfParents (cond b one other)
  either_of_parents true one other p q = p
  either_of_parents false one other p q = q

  owned_parents : (h : HeaderView) (owner : Option Instance) → OfParents h → OfParents (record h { owner = owner })
  owned_parents h owner all = record { head = all.head; snap = all.snap }

  pub parents_then : P None → ((to : ℕ) (parent : Option ParentLink) → P parent → P (cut to parent)) → (me : Instance) (h : HeaderView) (o : HeaderOp) → OfParents h → OfParents (header_then me h o)
  parents_then none cuts me h (header.SetSize to) all = record { head = cuts to h.parent all.head; snap = all.snap }
  parents_then none cuts me h (header.SnapAdd name) all =
      either_of_parents (is_some (snap_named h.snaps name)) h (cond (is_full h) h (with_snap name h)) all
      (either_of_parents (is_full h) h (with_snap name h) all (each_added name h (λ p. p) (λ t u at p. p) (λ p. p) all))
  parents_then none cuts me h (header.SnapRemove snap) all =
      either_of_parents (is_some (snap_in h.snaps snap)) (without_snap snap h) h (each_removed snap h (λ p. p) (λ t u at other p. p) all) all
  parents_then none cuts me h (header.SnapStatus snap status) all =
      either_of_parents (is_some (snap_in h.snaps snap)) (with_status snap status h) h (each_marked snap status h (λ p. p) (λ t u at p. p) all) all
  parents_then none cuts me h header.Detach all = record { head = none; snap = all.snap }
  parents_then none cuts me h (header.Role role) all = record { head = all.head; snap = all.snap }
  parents_then none cuts me h header.Synced all = record { head = all.head; snap = all.snap }
  parents_then none cuts me h header.LockTake all = owned_parents h (cond (is_some h.owner) h.owner (Some me)) all
  parents_then none cuts me h header.LockDrop all = either_of_parents (is_owner me h.owner) (record h { owner = None }) h (owned_parents h None all) all
  parents_then none cuts me h (header.LockBreak owner) all = either_of_parents (is_owner owner h.owner) (record h { owner = None }) h (owned_parents h None all) all
  parents_then none cuts me h o all = all

-- ---- snapshots

-- what is found by an id has the id
pub found_id : (snaps : List SnapView) (t : ℕ) (s : SnapView) → snap_in snaps t ≡ Some s → s.id ≡ t
found_id [] t s found = absurd (none-some s found)
found_id (u ∷ snaps) t s found = by (u.id == t) refl found (found_id snaps t s)
  where
    by : (b : Bool) → (u.id == t) ≡ b → cond b (Some u) (snap_in snaps t) ≡ Some s → (snap_in snaps t ≡ Some s → s.id ≡ t) → s.id ≡ t
    by true is found later = sym (ap (λ (v : SnapView). v.id) (same_Some u s found)) ∙ eqb-true u.id t is
    by false is found later = later found

-- it is found too where another one is added
pub older_stays : (snaps : List SnapView) (u : SnapView) (t : ℕ) (s : SnapView) → snap_in snaps t ≡ Some s → snap_in (snaps ++ u ∷ []) t ≡ Some s
older_stays [] u t s found = absurd (none-some s found)
older_stays (v ∷ snaps) u t s found = by (v.id == t) found (older_stays snaps u t s)
  where
    by : (b : Bool) → cond b (Some v) (snap_in snaps t) ≡ Some s → (snap_in snaps t ≡ Some s → snap_in (snaps ++ u ∷ []) t ≡ Some s)
        → cond b (Some v) (snap_in (snaps ++ u ∷ []) t) ≡ Some s
    by true found later = found
    by false found later = later found

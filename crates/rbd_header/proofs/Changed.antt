-- What changes of a header leave of its parent and its snapshots.
use Rattle.std.proofs.Common.{◌≡◌, ℕ, Bool, true, false, cond, eqb, not, List, [], ◌∷◌, Option, Some, None, refl, ap, ◌∙◌, arith}
use Rattle.std.specs.List.{filter}
use Rattle.rbd_kinds.specs.declared.header.ParentLink.{ParentLink}
use Rattle.rbd_kinds.specs.declared.header.SnapStatus.{SnapStatus}
use Rattle.rbd_kinds.specs.declared.header.SnapView.{SnapView}
use Rattle.rbd_kinds.specs.Form.{IsOverlapWithin}
use Rattle.rbd_header.specs.Header.{cut, status_marked, snap_in}

-- a cut parent's overlap lies within the size
pub cut_within : (size : ℕ) (parent : Option ParentLink) → IsOverlapWithin size (cut size parent)
cut_within size None = tt
cut_within size (Some link) = omega arith

-- a status leaves the id
pub marked_id : (t : ℕ) (status : SnapStatus) (s : SnapView) → (status_marked t status s).id ≡ s.id
marked_id t status s = go (eqb s.id t)
  where
    go : (b : Bool) → (cond b (record s { status = status }) s).id ≡ s.id
    go true = refl
    go false = refl

-- a snapshot that was removed isn't listed
pub removed_is_unlisted : (snaps : List SnapView) (t : ℕ) → snap_in (filter (λ s. not (eqb s.id t)) snaps) t ≡ None
removed_is_unlisted [] t = refl
removed_is_unlisted (s ∷ snaps) t = go (removed_is_unlisted snaps t) (eqb s.id t) refl
  where
    later : List SnapView
    later = filter (λ u. not (eqb u.id t)) snaps

    go : snap_in later t ≡ None → (b : Bool) → eqb s.id t ≡ b → snap_in (cond (not (eqb s.id t)) (s ∷ later) later) t ≡ None
    go none true is = ap (λ b. snap_in (cond (not b) (s ∷ later) later) t) is ∙ none
    go none false is = ap (λ b. snap_in (cond (not b) (s ∷ later) later) t) is ∙ ap (λ b. cond b (Some s) (snap_in later t)) is ∙ none

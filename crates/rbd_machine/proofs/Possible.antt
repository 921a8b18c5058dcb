-- What a later look tells beside an earlier one, and beside the header of an own image.
use Rattle.std.proofs.Common.{◌≡◌, ◌≢◌, ◌⊎◌, inl, ℕ, ◌≤◌, Option, Some, None, refl, sym, ap, ◌∙◌, subst}
use Rattle.std.proofs.lemmas.Option.{same_Some}
use Rattle.rbd_kinds.specs.declared.answer.Answer.TheVariants as answer
use Rattle.rbd_kinds.specs.declared.header.HeaderView.{HeaderView}
use Rattle.rbd_kinds.specs.declared.header.ParentLink.{ParentLink}
use Rattle.rbd_kinds.specs.declared.header.SnapView.{SnapView}
use Rattle.rbd_kinds.specs.declared.header_op.HeaderOp.TheVariants as header
use Rattle.rbd_kinds.specs.declared.id.SiteId.{SiteId}
use Rattle.rbd_kinds.specs.declared.operation.Op.TheVariants as op
use Rattle.rbd_kinds.specs.declared.sharing.Sharing.{Sharing}
use Rattle.rbd_kinds.specs.declared.sharing.Sharing.TheVariants.{Shared}
use Rattle.rbd_header.specs.Header.{snap_in}
use Rattle.rbd_header.specs.Later.{IsLaterOf, IsParentLater}
use Rattle.rbd_machine.specs.Knowledge.{Knowledge, learned, own_of}
use Rattle.rbd_machine.specs.Possible.{IsOwnAgain, IsPossible}

no_later_parent : (new : Option ParentLink) → IsParentLater None new → new ≡ None
no_later_parent None later = refl
no_later_parent (Some link) later = absurd later

-- a header that is told behind one that was told
module _ (k : Knowledge) (site : SiteId) (image : ℕ) (was now : HeaderView)
    (possible : IsPossible (learned k site (op.Header image header.Get) (answer.Header was)) site (op.Header image header.Get) (answer.Header now)) where
  later : IsLaterOf was now
  later = possible.0 was (inl refl)

  pub parent_stays_gone : was.parent ≡ None → now.parent ≡ None
  parent_stays_gone gone = no_later_parent now.parent (subst (λ old. IsParentLater old now.parent) gone later.parent)

  pub snapshot_keeps_its_size : (snap : ℕ) (old new : SnapView) → snap ≤ was.snap_seq → snap_in was.snaps snap ≡ Some old → snap_in now.snaps snap ≡ Some new → new.size ≡ old.size
  snapshot_keeps_its_size snap old new within there here =
      let listed = later.snaps snap new within here in
      listed.size ∙ ap (λ (s : SnapView). s.size) (same_Some listed.was old (sym listed.listed ∙ there))

-- the header of an own image is told again
pub own_again : (k : Knowledge) (site : SiteId) (image : ℕ) (sharing : Sharing) (known now : HeaderView) → (sharing ≢ Shared) ⊎ (now.parent ≡ known.parent)
    → own_of k.owns site image ≡ Some (record { site = site; image = image; sharing = sharing; header = Some known })
    → IsPossible k site (op.Header image header.Get) (answer.Header now) → now ≡ record known { owner = now.owner }
own_again k site image sharing known now either is possible = let again = subst (λ own. IsOwnAgain own now) is possible.1 in again.exact either

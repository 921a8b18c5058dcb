-- Operations that are no look at a header, those of a removal among them: lemmas that the laws of
-- an `impl` cite.
use Rattle.std.proofs.Common.{◌≡◌, ℕ, List, [], ◌∷◌, ◌++◌, map, Bool, true, false, Option, Some, None, refl}
use Rattle.rbd_kinds.specs.declared.answer.Answer.{Answer}
use Rattle.rbd_kinds.specs.declared.header.HeaderView.{HeaderView}
use Rattle.rbd_kinds.specs.declared.header.ParentLink.{ParentLink}
use Rattle.rbd_kinds.specs.declared.header.SnapView.{SnapView}
use Rattle.rbd_kinds.specs.declared.header_op.HeaderOp.TheVariants as header
use Rattle.rbd_kinds.specs.declared.id.SiteId.{SiteId}
use Rattle.rbd_kinds.specs.declared.layout.Extent.{Extent}
use Rattle.rbd_kinds.specs.declared.map_op.MapOp.TheVariants as states
use Rattle.rbd_kinds.specs.declared.operation.Op.{Op}
use Rattle.rbd_kinds.specs.declared.operation.Op.TheVariants as op
use Rattle.rbd_machine.specs.Course.{Course, answered}
use Rattle.rbd_meaning.specs.Removals.{link_of, removal, removing_journal, removing_map_of, removing_object, unlinking, used_objects}

abbrev pub IsNoLook : Op → Type 0
IsNoLook (op.Header image header.Get) = ⊥
IsNoLook _ = Unit {0}

abbrev pub AreNoLooks : List Op → Type 0
AreNoLooks [] = Unit {0}
AreNoLooks (o ∷ ops) = IsNoLook o × AreNoLooks ops

-- they leave each course as it is
pub leaves_course : (e : Option Extent) (c : Course) (site : SiteId) (o : Op) (a : Answer) → IsNoLook o
    → answered e c site o a ≡ c
leaves_course e c site (op.Header image header.Get) a no_look = absurd no_look
leaves_course e c site o a no_look = refl

-- ---- a removal has none

module _ (image : ℕ) where
  behind_link : (link : Option ParentLink) (ops : List Op) → AreNoLooks ops → AreNoLooks (unlinking image link ++ ops)
  behind_link None ops are = are
  behind_link (Some link) ops are = (tt, are)

  behind_objects : (used : List ℕ) (ops : List Op) → AreNoLooks ops
      → AreNoLooks (map (removing_object image) used ++ ops)
  behind_objects [] ops are = are
  behind_objects (n ∷ used) ops are = (tt, behind_objects used ops are)

  behind_maps : (snaps : List SnapView) (ops : List Op) → AreNoLooks ops
      → AreNoLooks (map (removing_map_of image) snaps ++ ops)
  behind_maps [] ops are = are
  behind_maps (s ∷ snaps) ops are = (tt, behind_maps snaps ops are)

  journal_is_none : (journal : Bool) → AreNoLooks (removing_journal image journal)
  journal_is_none false = tt
  journal_is_none true = (tt, tt)

  pub removal_has_none : (h : HeaderView) (bits : List ℕ) → AreNoLooks (removal image h bits)
  removal_has_none h bits =
      let journals = removing_journal image h.journal in
      let maps = op.Map image (states.Remove None) ∷ (map (removing_map_of image) h.snaps ++ journals) in (
        tt,
        (
          tt,
          behind_link (link_of h) (map (removing_object image) (used_objects bits) ++ maps)
              (behind_objects (used_objects bits) maps (tt, behind_maps h.snaps journals (journal_is_none h.journal))),
        ),
      )

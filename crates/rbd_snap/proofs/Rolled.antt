-- The header and the snapshot by which a rollback is made at its look under the lock.
use Rattle.std.proofs.Common.{◌≡◌, ℕ, suc, true, false, Bool, cond, List, [], ◌∷◌, Some, sym, ap, ◌∙◌}
use Rattle.std.specs.Prelude.{nat_eq, slice_get}
use Rattle.std.specs.Cmp.Lexicographic.{pointwise}
use Rattle.rbd_kinds.specs.declared.header.HeaderView.{HeaderView}
use Rattle.rbd_kinds.specs.declared.header.SnapView.{SnapView}
use Rattle.rbd_kinds.specs.declared.id.SiteId.{SiteId}
use Rattle.rbd_kinds.specs.declared.journal.JournalEvent.TheVariants as event
use Rattle.rbd_kinds.specs.declared.layout.Layout.{Layout}
use Rattle.rbd_kinds.specs.Form.{HasFewObjects, IsHeaderInForm, IsSnapInForm}
use Rattle.rbd_kinds.specs.Header.{snap_named}
use Rattle.rbd_header.proofs.Changed.{cut_within}
use Rattle.rbd_machine.specs.Plan.{Plan, Note}
use Rattle.rbd_machine.specs.Steps.{applied}
use Rattle.rbd_meaning.specs.Rollbacks.{at_size}
use Rattle.rbd_snap.specs.Rollback.{roll_back, roll_back_listed, roll_back_to}

-- ---- headers in form

-- a head at the size of a snapshot
pub sized_in_form : (h : HeaderView) (size : ℕ) → IsHeaderInForm h → HasFewObjects h.layout size → IsHeaderInForm (at_size size h)
sized_in_form h size form few = record {
  layout = form.layout;
  objects = few;
  born = form.born;
  overlap = cut_within size h.parent;
  snaps = form.snaps;
  few = form.few;
  rising = form.rising;
  depth = form.depth;
}

-- a snapshot that is listed under a name
pub named_in_form : (layout : Layout) (snaps : List SnapView) (name : List ℕ) (s : SnapView) → ((k : ℕ) (s : SnapView) → slice_get snaps k ≡ Some s → IsSnapInForm layout s)
    → snap_named snaps name ≡ Some s → IsSnapInForm layout s
named_in_form layout [] name s each is = cc
named_in_form layout (x ∷ snaps) name s each is = go (pointwise nat_eq x.name name) is (named_in_form layout snaps name s (λ k t there. each (suc k) t there))
  where
    go : (b : Bool) → cond b (Some x) (snap_named snaps name) ≡ Some s → (snap_named snaps name ≡ Some s → IsSnapInForm layout s) → IsSnapInForm layout s
    go true same later = each 0 s same
    go false there later = later there

-- ---- at its look under the lock

-- what is made by the snapshot that is listed there
pub rolled_by : (site : SiteId) (image : ℕ) (snap : List ℕ) (h : HeaderView) (listed : SnapView) (left : Plan) → snap_named h.snaps snap ≡ Some listed → left ≡ roll_back site image h listed (applied site image)
    → Note site image (event.SnapRollback snap) left ≡ roll_back_to site snap image h
rolled_by site image snap h listed left named is = ap (Note site image (event.SnapRollback snap)) is ∙ ap (roll_back_listed site snap image h) (sym named)

-- Refusals that don't hold.
use Rattle.std.proofs.Common.{◌≡◌, List, [], ◌∷◌, ℕ, ◌+◌, Bool, true, false, cond, Option, Some, None, refl, subst}
use Rattle.std.specs.Prelude.{is_some}
use Rattle.rbd_kinds.specs.declared.header.HeaderView.{HeaderView}
use Rattle.rbd_kinds.specs.declared.header.SnapStatus.{SnapStatus}
use Rattle.rbd_kinds.specs.declared.header.SnapStatus.TheVariants as status
use Rattle.rbd_kinds.specs.declared.header.SnapView.{SnapView}
use Rattle.rbd_commands.specs.declared.refusal.Refusal.TheVariants as refusal
use Rattle.rbd_kinds.specs.Header.{snap_named}
use Rattle.rbd_header.specs.Header.{is_full}
use Rattle.rbd_machine.specs.Knowledge.{MapsKnown}
use Rattle.rbd_machine.specs.Permits.{MayTakeSnap}
use Rattle.rbd_machine.specs.Steps.{non_primary}
use Rattle.rbd_machine.proofs.Lawful.{or_else_none}
use Rattle.rbd_meaning.specs.Removals.{image_removal_refuses, snaps_refuse}
use Rattle.rbd_meaning.specs.Snaps.{create_refuses, is_unprotected, remove_refuses, removal_refusal}

unlisted : (o : Option SnapView) (full : Bool) → cond (is_some o) (Some refusal.SnapExists) (cond full (Some refusal.BadShape) None) ≡ None → (o ≡ None) × (full ≡ false)
unlisted None false none = (refl, refl)
unlisted None true none = cc
unlisted (Some s) full none = cc

-- a header that doesn't refuse a snapshot doesn't list its name, and has room for one more
pub takes_one_more : (snap : List ℕ) (h : HeaderView) → create_refuses snap h ≡ None → (snap_named h.snaps snap ≡ None) × (is_full h ≡ false)
takes_one_more snap h none = unlisted (snap_named h.snaps snap) (is_full h) (or_else_none (non_primary h.role) _ none)

-- so the snapshot may be taken behind its map
pub may_take : (m : MapsKnown) (snap : List ℕ) (h : HeaderView) → create_refuses snap h ≡ None → m.put ≡ Some (h.snap_seq + 1) → MayTakeSnap m snap h
may_take m snap h none put =
    let are = takes_one_more snap h none in
    record { unlisted = are.0; has_room = are.1; put = put }

pub unprotected : (s : SnapStatus) → cond (is_unprotected s) None (Some refusal.SnapProtected) ≡ None → s ≡ status.Unprotected
unprotected status.Unprotected none = refl
unprotected status.Unprotecting none = cc
unprotected status.Protected none = cc

-- the snapshot that a header lists isn't protected where its removal isn't refused
pub listed_unprotected : (snap : List ℕ) (h : HeaderView) (s : SnapView) → remove_refuses snap h ≡ None → snap_named h.snaps snap ≡ Some s → s.status ≡ status.Unprotected
listed_unprotected snap h s none is = unprotected s.status (go (snap_named h.snaps snap) is (or_else_none (non_primary h.role) _ none))
  where
    go : (listed : Option SnapView) → listed ≡ Some s → removal_refusal listed ≡ None → removal_refusal (Some s) ≡ None
    go None is none = cc
    go (Some t) is none = let same : t ≡ s = cc in subst (λ u. removal_refusal (Some u) ≡ None) same none

without_snapshots : (snaps : List SnapView) → snaps_refuse snaps ≡ None → snaps ≡ []
without_snapshots [] none = refl
without_snapshots (s ∷ snaps) none = cc

-- a header lists no snapshot where the removal of its image isn't refused
pub no_snapshots_listed : (h : HeaderView) → image_removal_refuses h ≡ None → h.snaps ≡ []
no_snapshots_listed h none = without_snapshots h.snaps (or_else_none (non_primary h.role) (snaps_refuse h.snaps) none)

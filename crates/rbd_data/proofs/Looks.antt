-- What a read is told at its first look.
use Rattle.std.proofs.Common.{◌≡◌, ℕ, ◌+◌, ◌<◌, ◌≤◌, suc, nat_eq, true, false, Bool, List, [], ◌∷◌, length, Option, Some, None, refl, sym, ap, ◌∙◌, subst, arith}
use Rattle.std.proofs.lemmas.Bool.Decides.{nat_tests}
use Rattle.std.specs.Prelude.{slice_get}
use Rattle.std.specs.Option.{option_map}
use Rattle.std.specs.Cmp.Lexicographic.{pointwise}
use Rattle.rbd_kinds.specs.declared.header.HeaderView.{HeaderView}
use Rattle.rbd_kinds.specs.declared.header.SnapView.{SnapView}
use Rattle.rbd_kinds.specs.declared.layout.Extent.{Extent}
use Rattle.rbd_kinds.specs.declared.layout.Layout.{Layout}
use Rattle.rbd_commands.specs.declared.refusal.Refusal.TheVariants as refusal
use Rattle.rbd_kinds.specs.Form.{HasFewObjects, IsHeaderInForm, IsSnapInForm}
use Rattle.rbd_kinds.specs.Header.{snap_named}
use Rattle.rbd_layout.specs.Pieces.{IsPieces}
use Rattle.rbd_layout.specs.declared.types.Piece.{Piece}
use Rattle.rbd_kinds.specs.Extents.{fits}
use Rattle.rbd_header.specs.Header.{view_of, view_of_snap}
use Rattle.rbd_header.specs.declared.view.View.{View}
use Rattle.rbd_layout.proofs.Bounds.{few_bytes}
use Rattle.rbd_meaning.specs.Range.{out_of_range}
use Rattle.rbd_data.proofs.Writes.{within_size}

-- an extent that fits has a byte
pub some_bytes : (e : Extent) (size : ℕ) → out_of_range e size ≡ None → 0 < e.len
some_bytes e size none = go (fits e size) refl
  where
    go : (b : Bool) → fits e size ≡ b → 0 < e.len
    go true is = grind (arith, nat_tests)
    go false is = let some : out_of_range e size ≡ Some refusal.BadRange = rw is refl in cc

-- so it has a piece
pub some_pieces : (l : Layout) (e : Extent) (pieces : List Piece) → IsPieces l e pieces → 0 < e.len → 0 < length pieces
some_pieces l e pieces are some =
    let first = are.whole e.at (let a : e.at ≤ e.at = omega arith in a, let b : e.at < e.at + e.len = omega arith in b) in
    let below : first.0 < length pieces = first.2 in
    omega arith

-- ---- a view has few objects, as its header is in form

named_in_form : (l : Layout) (snaps : List SnapView) (name : List ℕ) (s : SnapView) → ((k : ℕ) (x : SnapView) → slice_get snaps k ≡ Some x → IsSnapInForm l x)
    → snap_named snaps name ≡ Some s → IsSnapInForm l s
named_in_form l [] name s each is = cc
named_in_form l (x ∷ snaps) name s each is = go (pointwise nat_eq x.name name) refl (named_in_form l snaps name s (λ k y h. each (suc k) y h))
  where
    go : (b : Bool) → pointwise nat_eq x.name name ≡ b → (snap_named snaps name ≡ Some s → IsSnapInForm l s) → IsSnapInForm l s
    go true first later = let same : x ≡ s = let found : snap_named (x ∷ snaps) name ≡ Some x = rw first refl in cc in subst (IsSnapInForm l) same (each 0 x refl)
    go false first later = later (let passed : snap_named (x ∷ snaps) name ≡ snap_named snaps name = rw first refl in sym passed ∙ is)

pub few_in_view : (h : HeaderView) (snap : Option (List ℕ)) (view : View) → IsHeaderInForm h → view_of h snap ≡ Some view → HasFewObjects h.layout view.size
few_in_view h None view form is = let same : h.size ≡ view.size = cc in subst (HasFewObjects h.layout) same form.objects
few_in_view h (Some name) view form is = go (snap_named h.snaps name) refl
  where
    go : (found : Option SnapView) → snap_named h.snaps name ≡ found → HasFewObjects h.layout view.size
    go None there = let none : option_map view_of_snap (snap_named h.snaps name) ≡ None = ap (option_map view_of_snap) there in cc
    go (Some s) there =
        let some : Some (view_of_snap s) ≡ Some view = sym (ap (option_map view_of_snap) there) ∙ is in
        let same : s.size ≡ view.size = cc in
        subst (HasFewObjects h.layout) same (named_in_form h.layout h.snaps name s form.snaps there).objects

-- so an extent that fits into one ends early
pub ends_early : (h : HeaderView) (snap : Option (List ℕ)) (view : View) (e : Extent) → IsHeaderInForm h → view_of h snap ≡ Some view → out_of_range e view.size ≡ None → e.at + e.len ≤ 35184372088832
ends_early h snap view e form is fits =
    let few : view.size ≤ 35184372088832 = few_bytes h.layout form.layout view.size (few_in_view h snap view form is) in
    let within : e.at + e.len ≤ view.size = within_size e view.size fits in
    omega arith

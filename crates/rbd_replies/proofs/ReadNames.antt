-- The view that a name stands for has the shape that the header tells of it.
use Rattle.std.proofs.Common.{◌≡◌, ℕ, ◌<◌, Bool, true, false, cond, eqb, List, [], ◌∷◌, Option, Some, None, option_map, refl, ap, ◌∙◌, subst, arith, eq-eqb}
use Rattle.std.specs.Prelude.{nat_eq}
use Rattle.std.specs.Cmp.Lexicographic.{pointwise}
use Rattle.std.proofs.lemmas.Bool.Decides.{nat_tests}
use Rattle.std.proofs.lemmas.Option.{none-some, same_Some}
use Rattle.rbd_header.specs.Header.{snap_in, view_of, view_of_snap}
use Rattle.rbd_header.specs.declared.view.View.{View}
use Rattle.rbd_kinds.specs.declared.header.HeaderView.{HeaderView}
use Rattle.rbd_kinds.specs.declared.header.SnapView.{SnapView}
use Rattle.rbd_kinds.specs.Form.{AreRising, RiseFrom}
use Rattle.rbd_kinds.specs.Header.{snap_named}
use Rattle.rbd_stands.specs.View.{EachView, Shape, shape_of, shape_of_head, shape_of_snap}
use Rattle.rbd_stands.proofs.Lookups.{a_value}
use Rattle.rbd_replies.proofs.ReadParents.{HasNoParent}
use Rattle.rbd_site.proofs.SnapLists.{are_rising}

-- ---- ids rise, so the snapshot with a name is the one with its id

pub differs : (a b : ℕ) → a < b → eqb a b ≡ false
differs a b less = grind (arith, nat_tests)

named_above : (below most : ℕ) (snaps : List SnapView) (name : List ℕ) (s : SnapView) → RiseFrom below most snaps → snap_named snaps name ≡ Some s → below < s.id
named_above below most [] name s rising is = absurd (none-some s is)
named_above below most (x ∷ snaps) name s rising is = go (pointwise nat_eq x.name name) (named_above x.id most snaps name s rising.1) is
  where
    go : (b : Bool) → (snap_named snaps name ≡ Some s → x.id < s.id) → cond b (Some x) (snap_named snaps name) ≡ Some s → below < s.id
    go true rest e = subst (λ (t : SnapView). below < t.id) (same_Some x s e) rising.0
    go false rest e = let first : below < x.id = rising.0 in let more : x.id < s.id = rest e in omega arith

pub named_has_id : (most : ℕ) (snaps : List SnapView) (name : List ℕ) (s : SnapView) → AreRising most snaps → snap_named snaps name ≡ Some s → snap_in snaps s.id ≡ Some s
named_has_id most [] name s rising is = absurd (none-some s is)
named_has_id most (x ∷ snaps) name s rising is = go (pointwise nat_eq x.name name) (named_has_id most snaps name s (are_rising x.id most snaps rising)) is
  where
    go : (b : Bool) → (snap_named snaps name ≡ Some s → snap_in snaps s.id ≡ Some s) → cond b (Some x) (snap_named snaps name) ≡ Some s → cond (eqb x.id s.id) (Some x) (snap_in snaps s.id) ≡ Some s
    go true rest e = subst (λ (t : SnapView). cond (eqb x.id t.id) (Some x) (snap_in snaps t.id) ≡ Some t) (same_Some x s e) (ap (λ b. cond b (Some x) (snap_in snaps x.id)) (eq-eqb x.id x.id refl))
    go false rest e = ap (λ b. cond b (Some x) (snap_in snaps s.id)) (differs x.id s.id (named_above x.id most snaps name s rising e)) ∙ rest e

-- ---- the shape

-- the header tells this shape of the view: it has the view's size, and no parent
pub record IsViewOf (h : HeaderView) (view : View) : Type 0 where
  pub shape : Shape
  pub is : shape_of h view.snap ≡ Some shape
  pub size : shape.size ≡ view.size
  pub no_parent : shape.parent ≡ None

pub shape_of_named : (h : HeaderView) (name : Option (List ℕ)) (view : View) → AreRising h.snap_seq h.snaps → EachView h HasNoParent → view_of h name ≡ Some view → IsViewOf h view
shape_of_named h None view rising none is =
    subst (IsViewOf h) (same_Some (record { snap = None; size = h.size }) view is)
    (record { shape = shape_of_head h; is = refl; size = refl; no_parent = none.head })
shape_of_named h (Some name) view rising none is =
    let s = a_value view_of_snap (snap_named h.snaps name) view is in
    let by_id : snap_in h.snaps s.0.id ≡ Some s.0 = named_has_id h.snap_seq h.snaps name s.0 rising s.1 in
    subst (IsViewOf h) s.2
    (record { shape = shape_of_snap s.0; is = ap (option_map shape_of_snap) by_id; size = refl; no_parent = none.snap s.0.id s.0 by_id })

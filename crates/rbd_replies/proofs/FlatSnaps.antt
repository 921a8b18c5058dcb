-- The flat snapshot of a name is the one with the id that a header lists under it, and as long as
-- the header says.
use Rattle.std.proofs.Common.{◌≡◌, ℕ, ◌<◌, Bool, true, false, cond, eqb, List, [], ◌∷◌, length, map, Option, Some, None, option_map, refl, sym, ap, ◌∙◌, subst, arith, eq-eqb}
use Rattle.std.specs.Prelude.{nat_eq}
use Rattle.std.specs.Cmp.Lexicographic.{pointwise}
use Rattle.std.proofs.lemmas.Option.{none-some, same_Some}
use Rattle.rbd_flat.specs.Flat.{FlatImage, FlatSnap, snap_in as flat_snap_in}
use Rattle.rbd_header.specs.Header.{snap_in}
use Rattle.rbd_kinds.specs.declared.header.HeaderView.{HeaderView}
use Rattle.rbd_kinds.specs.declared.header.SnapView.{SnapView}
use Rattle.rbd_kinds.specs.Form.{AreRising, RiseFrom}
use Rattle.rbd_kinds.specs.Header.{snap_named}
use Rattle.rbd_site.proofs.SnapLists.{are_rising}
use Rattle.rbd_stands.specs.Image.{SnapLine, line_of_flat, line_of_snap}
use Rattle.rbd_stands.specs.Reading.{IsToldBy, flat_snap_named}
use Rattle.rbd_replies.proofs.ReadNames.{named_has_id, differs}

abbrev AreAlike : List FlatSnap → List SnapView → Type 0
AreAlike flats snaps = map line_of_flat flats ≡ map line_of_snap snaps

one_id : (f : FlatSnap) (s : SnapView) → line_of_flat f ≡ line_of_snap s → f.id ≡ s.id
one_id f s same = ap (λ (l : SnapLine). l.id) same

-- ids rise in the flat image, as they do in the header
flat_above : (below most : ℕ) (flats : List FlatSnap) (snaps : List SnapView) (name : List ℕ) (to : FlatSnap) → AreAlike flats snaps → RiseFrom below most snaps
    → flat_snap_named flats name ≡ Some to → below < to.id
flat_above below most [] snaps name to alike rising is = absurd (none-some to is)
flat_above below most (f ∷ flats) [] name to alike rising is = absurd (cc)
flat_above below most (f ∷ flats) (s ∷ snaps) name to alike rising is =
    let rest : AreAlike flats snaps = cc in
    go (pointwise nat_eq f.name name) (flat_above s.id most flats snaps name to rest rising.1) is
  where
    line : line_of_flat f ≡ line_of_snap s
    line = cc

    go : (b : Bool) → (flat_snap_named flats name ≡ Some to → s.id < to.id) → cond b (Some f) (flat_snap_named flats name) ≡ Some to → below < to.id
    go true later e =
        let id : f.id ≡ s.id = one_id f s line in
        let above : below < s.id = rising.0 in
        subst (λ (t : FlatSnap). below < t.id) (same_Some f to e) (omega arith)
    go false later e =
        let first : below < s.id = rising.0 in
        let more : s.id < to.id = later e in
        omega arith

pub flat_has_id : (most : ℕ) (flats : List FlatSnap) (snaps : List SnapView) (name : List ℕ) (to : FlatSnap) → AreAlike flats snaps → AreRising most snaps
    → flat_snap_named flats name ≡ Some to → flat_snap_in flats to.id ≡ Some to
flat_has_id most [] snaps name to alike rising is = absurd (none-some to is)
flat_has_id most (f ∷ flats) [] name to alike rising is = absurd (cc)
flat_has_id most (f ∷ flats) (s ∷ snaps) name to alike rising is =
    go (pointwise nat_eq f.name name) (flat_has_id most flats snaps name to rest (are_rising s.id most snaps rising)) is
  where
    line : line_of_flat f ≡ line_of_snap s
    line = cc

    rest : AreAlike flats snaps
    rest = cc

    go : (b : Bool) → (flat_snap_named flats name ≡ Some to → flat_snap_in flats to.id ≡ Some to) → cond b (Some f) (flat_snap_named flats name) ≡ Some to
        → cond (eqb f.id to.id) (Some f) (flat_snap_in flats to.id) ≡ Some to
    go true later e = subst (λ (t : FlatSnap). cond (eqb f.id t.id) (Some f) (flat_snap_in flats t.id) ≡ Some t) (same_Some f to e) (ap (λ b. cond b (Some f) (flat_snap_in flats f.id)) (eq-eqb f.id f.id refl))
    go false later e =
        let id : f.id ≡ s.id = one_id f s line in
        let more : s.id < to.id = flat_above s.id most flats snaps name to rest rising e in
        let less : f.id < to.id = omega arith in
        ap (λ b. cond b (Some f) (flat_snap_in flats to.id)) (differs f.id to.id less) ∙ later e

some_size : (to : FlatSnap) (listed : SnapView) (o : Option FlatSnap) (p : Option SnapView) → option_map (λ (s : FlatSnap). length s.bytes) o ≡ option_map (λ (s : SnapView). s.size) p → o ≡ Some to → p ≡ Some listed
    → length to.bytes ≡ listed.size
some_size to listed None p same is listed_is = absurd (none-some to is)
some_size to listed (Some s) None same is listed_is = absurd (none-some listed listed_is)
some_size to listed (Some s) (Some t) same is listed_is =
    let one : s ≡ to = same_Some s to is in
    let other : t ≡ listed = same_Some t listed listed_is in
    let sizes : length s.bytes ≡ t.size = same_Some (length s.bytes) t.size same in
    ap (λ (x : FlatSnap). length x.bytes) (sym one) ∙ sizes ∙ ap (λ (x : SnapView). x.size) other

-- it is as long as the header says
pub as_long : (h : HeaderView) (i : FlatImage) (name : List ℕ) (listed : SnapView) (to : FlatSnap) → IsToldBy h i → AreRising h.snap_seq h.snaps
    → snap_named h.snaps name ≡ Some listed → flat_snap_named i.snaps name ≡ Some to → listed.id ≡ to.id → length to.bytes ≡ listed.size
as_long h i name listed to told rising is_listed is_to same =
    some_size to listed (flat_snap_in i.snaps to.id) (snap_in h.snaps to.id) (told.snap_sizes to.id) (flat_has_id h.snap_seq i.snaps h.snaps name to told.snaps rising is_to)
    (subst (λ t. snap_in h.snaps t ≡ Some listed) same (named_has_id h.snap_seq h.snaps name listed rising is_listed))

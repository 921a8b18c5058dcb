-- Pieces that have all bytes of their object, and objects of the head.
use Rattle.std.proofs.Common.{◌≡◌, ◌≢◌, ℕ, ◌+◌, ◌≤◌, ◌⊎◌, inl, inr, ◌↔◌, true, false, Bool, List, length, refl, sym, ap, ◌∙◌, subst, arith}
use Rattle.std.specs.Prelude.{◌==◌}
use Rattle.std.specs.List.{flat_map}
use Rattle.std.specs.Bool.{Decides}
use Rattle.std.proofs.lemmas.Bool.Decides.{eqb_tells, nat_tests}
use Rattle.std.proofs.lemmas.Slice.Eq.{slice_eq-Decides}
use Rattle.rbd_kinds.specs.declared.header.HeaderView.{HeaderView}
use Rattle.rbd_kinds.specs.declared.header.SnapContext.{SnapContext}
use Rattle.rbd_kinds.specs.declared.id.SiteId.{SiteId}
use Rattle.rbd_kinds.specs.declared.layout.Extent.{Extent}
use Rattle.rbd_kinds.specs.declared.layout.Part.{Part}
use Rattle.rbd_kinds.specs.Form.{IsHeaderInForm}
use Rattle.rbd_kinds.specs.Striping.{IsLayout}
use Rattle.rbd_layout.specs.declared.types.Piece.{Piece}
use Rattle.rbd_layout.specs.Pieces.{IsPartsOf, parts_at, piece_in, places_in, places_of}
use Rattle.rbd_layout.proofs.Bounds.{few_bytes}
use Rattle.rbd_layout.proofs.Listed.{all_places, parts_listed}
use Rattle.rbd_layout.proofs.Unique.{parts_alike}
use Rattle.rbd_header.specs.Header.{context_of}
use Rattle.rbd_machine.specs.Plan.{Plan}
use Rattle.rbd_pieces.specs.Zero.{head_of, is_inside, is_same, is_whole, zero_all, zero_by, zero_piece}

-- ---- all parts

pub parts_are_all : (h : HeaderView) (number : ℕ) (parts : List Part) → IsLayout h.layout → IsPartsOf h.layout (head_of h) number parts → parts ≡ (piece_in h.layout (head_of h) number).parts
parts_are_all h number parts is are =
    parts_alike h.layout (head_of h) number parts (piece_in h.layout (head_of h) number).parts are (parts_listed h.layout is (head_of h) number)

same_decides : (p q : Part) → Decides (is_same p q) (p ≡ q)
same_decides p q = (λ same. one same, λ is. subst (λ r. is_same p r ≡ true) is (itself p))
  where
    one : is_same p q ≡ true → p ≡ q
    one same =
        let offset : p.offset ≡ q.offset = grind (arith, nat_tests) in
        let at : p.at ≡ q.at = grind (arith, nat_tests) in
        let len : p.len ≡ q.len = grind (arith, nat_tests) in
        λ j. record { offset = offset j; at = at j; len = len j }

    itself : (p : Part) → is_same p p ≡ true
    itself p = grind (arith, nat_tests)

pub whole_decides : (h : HeaderView) (p : Piece) → Decides (is_whole h p) (p.parts ≡ (piece_in h.layout (head_of h) p.object).parts)
whole_decides h p = slice_eq-Decides same_decides p.parts (piece_in h.layout (head_of h) p.object).parts (is_whole h p) refl

pub whole_is_all : (h : HeaderView) (p : Piece) → IsLayout h.layout → (is_whole h p ≡ true) ↔ IsPartsOf h.layout (head_of h) p.object p.parts
whole_is_all h p is = (
  λ whole. subst (IsPartsOf h.layout (head_of h) p.object) (sym ((whole_decides h p).0 whole)) (parts_listed h.layout is (head_of h) p.object),
  λ are. (whole_decides h p).1 (parts_are_all h p.object p.parts is are),
)

-- ---- by sums

never_true : (b : Bool) → (b ≡ true → ⊥) → b ≡ false
never_true true never = absurd (never refl)
never_true false never = refl

-- An extent within the size has all bytes of an object where it has as many as the head.
pub whole_by_sums : (h : HeaderView) (e : Extent) (number : ℕ) → IsLayout h.layout → e.at + e.len ≤ h.size
    → (length (places_in h.layout e number) == length (places_in h.layout (head_of h) number)) ≡ is_whole h (piece_in h.layout e number)
whole_by_sums h e number is within = go (eqb_tells (length own) (length all))
  where
    own : List ℕ
    own = places_in h.layout e number

    all : List ℕ
    all = places_in h.layout (head_of h) number

    counted : is_whole h (piece_in h.layout e number) ≡ true → length own ≡ length all
    counted whole =
        ap length (sym (parts_listed h.layout is e number).cover
        ∙ ap (flat_map places_of) ((whole_decides h (piece_in h.layout e number)).0 whole)
        ∙ (parts_listed h.layout is (head_of h) number).cover)

    go : ((length own == length all ≡ true) × (length own ≡ length all)) ⊎ ((length own == length all ≡ false) × (length own ≢ length all))
        → (length own == length all) ≡ is_whole h (piece_in h.layout e number)
    go (inl (is_true, same)) =
        is_true ∙ sym ((whole_decides h (piece_in h.layout e number)).1 (ap (parts_at h.layout) (all_places h.layout e h.size number within same)))
    go (inr (is_false, differ)) =
        is_false ∙ sym (never_true (is_whole h (piece_in h.layout e number)) (λ whole. differ (counted whole)))

-- ---- how a piece begins

-- what lies within the size of a header in form ends early enough for the layout's sums
pub ends_early : (h : HeaderView) (e : Extent) → IsHeaderInForm h → e.at + e.len ≤ h.size → e.at + e.len ≤ 35184372088832
ends_early h e form within =
    let few : h.size ≤ 35184372088832 = few_bytes h.layout form.layout h.size form.objects in
    omega arith

-- where all bytes become zeros, the parts don't count: the object's number says it
pub parts_left_out : (site : SiteId) (image : ℕ) (context : SnapContext) (object : ℕ) (some others : List Part) (inside : Bool) (next : Plan)
    → zero_all site image context (record { object = object; parts = some }) inside next ≡ zero_all site image context (record { object = object; parts = others }) inside next
parts_left_out site image context object some others true next = refl
parts_left_out site image context object some others false next = refl

pub begun : (site : SiteId) (image : ℕ) (h : HeaderView) (context : SnapContext) (p : Piece) (whole inside : Bool) (next : Plan)
    → context ≡ context_of h → whole ≡ is_whole h p → inside ≡ is_inside h p.object
    → zero_by site image context p whole inside next ≡ zero_piece site image h p next
begun site image h context p whole inside next is is_all is_in =
    ap (λ c. zero_by site image c p whole inside next) is
    ∙ ap (λ b. zero_by site image (context_of h) p b inside next) is_all
    ∙ ap (λ b. zero_by site image (context_of h) p (is_whole h p) b next) is_in

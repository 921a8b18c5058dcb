-- The pieces that a new size zeros.
use Rattle.std.proofs.Common.{◌≡◌, ℕ, suc, ◌+◌, ◌-◌, ◌≤◌, ◌<◌, ◌&&◌, Bool, true, false, cond, List, [], ◌∷◌, ◌++◌, All, length, get_or, refl, ap, ◌∙◌, sym, subst, arith}
use Rattle.std.specs.Prelude.{filter}
use Rattle.std.proofs.lemmas.Bool.{le-leb, lt-leb}
use Rattle.std.proofs.lemmas.List.Elements.{All-map}
use Rattle.rbd_kinds.specs.declared.header.HeaderView.{HeaderView}
use Rattle.rbd_kinds.specs.declared.id.SiteId.{SiteId}
use Rattle.rbd_kinds.specs.declared.layout.Extent.{Extent}
use Rattle.rbd_kinds.specs.declared.layout.Part.{Part}
use Rattle.rbd_kinds.specs.Form.{IsHeaderInForm}
use Rattle.rbd_kinds.specs.Striping.{IsLayout, IsObjectCount, byte_at, object_of}
use Rattle.rbd_layout.specs.declared.types.Piece.{Piece}
use Rattle.rbd_layout.specs.Pieces.{IsPart, IsPieces, is_touched, piece_in, pieces_among, pieces_of}
use Rattle.rbd_layout.proofs.Derived.{counted_begin}
use Rattle.rbd_layout.proofs.Listed.{next_object, no_object_left, numbers, pieces_listed}
use Rattle.rbd_layout.proofs.Places.{first_below}
use Rattle.rbd_layout.proofs.Within.{lies_in}
use Rattle.rbd_machine.specs.Plan.{Plan}
use Rattle.rbd_pieces.specs.Shrink.{piece_has_bytes}
use Rattle.rbd_pieces.specs.Size.{growing, resize, resize_by, rest_of_zeros, shrinking, zero_pieces}
use Rattle.rbd_pieces.specs.Zero as zeros
use Rattle.rbd_pieces.specs.declared.zero_piece.ZeroPiece.{ZeroPiece}

-- ---- pieces that are made

-- The objects of pieces that end within the size are objects of the head.
pub pieces_of_head : (h : HeaderView) (e : Extent) (pieces : List Piece) → IsLayout h.layout → e.at + e.len ≤ h.size → IsPieces h.layout e pieces → All (λ (p : Piece). zeros.IsOfHead h p.object) pieces
pieces_of_head h e pieces is within are = λ k d below.
    of_head (get_or pieces k d) (are.touched k d below) (are.parts k d below).each
    (λ j p less. (lies_in h.layout e (get_or pieces k d).object (get_or pieces k d).parts (are.parts k d below) j p less).before)
  where
    of_head : (p : Piece) → 0 < length p.parts → All (IsPart h.layout p.object) p.parts → ((j : ℕ) (d : Part) → j < length p.parts → (get_or p.parts j d).at + (get_or p.parts j d).len ≤ e.at + e.len) → zeros.IsOfHead h p.object
    of_head p some each before =
        let none : Part = record { offset = 0; at = 0; len = 0 } in
        let first = get_or p.parts 0 none in
        let part = each 0 none some in
        let end : first.at + first.len ≤ e.at + e.len = before 0 none some in
        let long : 0 < first.len = part.some in
        let object : object_of h.layout (first.at + 0) ≡ p.object = (part.lies 0 long).0 in
        let least : byte_at h.layout (object_of h.layout (first.at + 0)) 0 ≤ first.at + 0 = first_below h.layout is (first.at + 0) in
        let there : byte_at h.layout p.object 0 ≤ first.at + 0 = subst (λ number. byte_at h.layout number 0 ≤ first.at + 0) object least in
        omega arith

pub counted_of_head : (h : HeaderView) (count object : ℕ) → IsHeaderInForm h → IsObjectCount h.layout h.size count → object < count → zeros.IsOfHead h object
counted_of_head h count object form is less = (counted_begin h.layout form.layout h.size count object is).0 less

pub objects_of_head : (h : HeaderView) (e : Extent) → IsLayout h.layout → e.at + e.len ≤ h.size → All (zeros.IsOfHead h) (numbers (pieces_of h.layout e))
objects_of_head h e is within =
    All-map (zeros.IsOfHead h) (λ (p : Piece). p.object) (pieces_of h.layout e)
    (λ k d below. pieces_of_head h e (pieces_of h.layout e) is within (pieces_listed h.layout is e) k d below)

pub first_number : (h : HeaderView) (object : ℕ) (objects : List ℕ) → All (zeros.IsOfHead h) (object ∷ objects) → zeros.IsOfHead h object
first_number h object objects each = each 0 object (omega arith)

pub rest_of_numbers : (h : HeaderView) (object : ℕ) (objects : List ℕ) → All (zeros.IsOfHead h) (object ∷ objects) → All (zeros.IsOfHead h) objects
rest_of_numbers h object objects each = λ k d below. each (suc k) d (omega arith)

pub rest_of_more : (made : List ZeroPiece) (z : ZeroPiece) (next : Plan) → rest_of_zeros (made ++ z ∷ []) next ≡ rest_of_zeros made (zeros.rest_of_zero z next)
rest_of_more [] z next = refl
rest_of_more (y ∷ made) z next = ap (zeros.rest_of_zero y) (rest_of_more made z next)

module _ (site : SiteId) (image : ℕ) (h : HeaderView) (bits : List ℕ) (e : Extent) where
  -- the pieces that are left to make, from an object on
  abbrev pub left : (object end : ℕ) → List Piece
  left object end = filter (piece_has_bytes h bits) (pieces_among h.layout e object (end - object))

  abbrev pub is_next : (object : ℕ) → Bool
  is_next object = piece_has_bytes h bits (piece_in h.layout e object) && is_touched (piece_in h.layout e object)

  next_left : (object end : ℕ) → object < end → left object end ≡ cond (is_next object) (piece_in h.layout e object ∷ left (object + 1) end) (left (object + 1) end)
  next_left object end less =
      ap (filter (piece_has_bytes h bits)) (next_object h.layout e object end less)
      ∙ push (is_touched p)
      ∙ both (is_touched p) (piece_has_bytes h bits p)
    where
      p : Piece
      p = piece_in h.layout e object

      behind : List Piece
      behind = pieces_among h.layout e (object + 1) (end - (object + 1))

      push : (t : Bool) → filter (piece_has_bytes h bits) (cond t (p ∷ behind) behind) ≡ cond t (filter (piece_has_bytes h bits) (p ∷ behind)) (filter (piece_has_bytes h bits) behind)
      push true = refl
      push false = refl

      both : (t b : Bool) → cond t (cond b (p ∷ left (object + 1) end) (left (object + 1) end)) (left (object + 1) end) ≡ cond (b && t) (p ∷ left (object + 1) end) (left (object + 1) end)
      both true true = refl
      both true false = refl
      both false true = refl
      both false false = refl

  pub passed_over : (made : List ZeroPiece) (object end : ℕ) (next : Plan) → object < end → is_next object ≡ false
      → rest_of_zeros made (zero_pieces site image h (left (object + 1) end) next) ≡ rest_of_zeros made (zero_pieces site image h (left object end) next)
  passed_over made object end next less none =
      ap (λ pieces. rest_of_zeros made (zero_pieces site image h pieces next))
      (sym (next_left object end less ∙ ap (λ b. cond b (piece_in h.layout e object ∷ left (object + 1) end) (left (object + 1) end)) none))

  pub added : (made : List ZeroPiece) (z : ZeroPiece) (object end : ℕ) (next : Plan) → object < end → is_next object ≡ true
      → ((rest : Plan) → zeros.rest_of_zero z rest ≡ zeros.zero_piece site image h (piece_in h.layout e object) rest)
      → rest_of_zeros (made ++ z ∷ []) (zero_pieces site image h (left (object + 1) end) next) ≡ rest_of_zeros made (zero_pieces site image h (left object end) next)
  added made z object end next less some is =
      rest_of_more made z (zero_pieces site image h (left (object + 1) end) next)
      ∙ ap (rest_of_zeros made) (is (zero_pieces site image h (left (object + 1) end) next))
      ∙ ap (λ pieces. rest_of_zeros made (zero_pieces site image h pieces next))
      (sym (next_left object end less ∙ ap (λ b. cond b (piece_in h.layout e object ∷ left (object + 1) end) (left (object + 1) end)) some))

  pub none_left : (object end : ℕ) → end ≤ object → left object end ≡ []
  none_left object end done = ap (filter (piece_has_bytes h bits)) (no_object_left h.layout e object end done)

-- ---- which way it goes

pub grows : (site : SiteId) (image : ℕ) (h : HeaderView) (to objects : ℕ) (next : Plan) → h.size ≤ to → growing site image to objects next ≡ resize site image h to objects next
grows site image h to objects next most = ap (λ b. resize_by b site image h to objects next) (sym (le-leb h.size to most))

pub shrinks : (site : SiteId) (image : ℕ) (h : HeaderView) (to objects : ℕ) (next : Plan) → to < h.size → shrinking site image h to next ≡ resize site image h to objects next
shrinks site image h to objects next less = ap (λ b. resize_by b site image h to objects next) (sym (lt-leb h.size to less))

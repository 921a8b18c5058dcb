-- Where a head is restored, and the pieces that it makes.
use Rattle.std.proofs.Common.{◌≡◌, ℕ, zero, suc, List, [], ◌∷◌, replicate, drop, All, get_or, Option, length, refl, sym, ap, ◌∙◌, arith}
use Rattle.rbd_kinds.specs.declared.header.HeaderView.{HeaderView}
use Rattle.rbd_kinds.specs.declared.id.SiteId.{SiteId}
use Rattle.rbd_kinds.specs.Striping.{IsLayout}
use Rattle.rbd_layout.specs.declared.types.Piece.{Piece}
use Rattle.rbd_layout.specs.Pieces.{IsPieces}
use Rattle.rbd_layout.proofs.Listed.{pieces_of_alone}
use Rattle.rbd_machine.specs.Plan.{Plan}
use Rattle.rbd_machine.specs.Steps.{IsGoing}
use Rattle.rbd_pieces.specs.Full.{trimmed_byte, cut_bytes, full_by, full_piece}
use Rattle.rbd_pieces.specs.Zero.{head_of}
use Rattle.rbd_pieces.specs.declared.full_piece.FullPiece.{FullPiece}
use Rattle.rbd_pieces.proofs.AllBytes.{whole_is_all}
use Rattle.rbd_pieces.proofs.Sizes.{pieces_of_head}
use Rattle.rbd_snap.specs.Restore.{HasWholeObject, Restoring, rest_from, rest_of_others}
use Rattle.rbd_snap.specs.Rollback.{restore_all, restore_pieces}
use Rattle.rbd_snap.specs.declared.restore.Stage.{Stage}
use Rattle.rbd_snap.specs.declared.restore.Stage.TheVariants as stage

-- ---- zeros

nothing_of_zeros : (n : ℕ) → cut_bytes (replicate n 0) ≡ []
nothing_of_zeros zero = refl
nothing_of_zeros (suc n) = ap (trimmed_byte 0) (nothing_of_zeros n)

pub zeros_are_none : (site : SiteId) (image : ℕ) (h : HeaderView) (p : Piece) (n : ℕ) (next : Plan) → full_piece site image h p [] next ≡ full_piece site image h p (replicate n 0) next
zeros_are_none site image h p n next = ap (λ left. full_by site image h p left next) (sym (nothing_of_zeros n))

-- ---- the head's pieces

pub objects_of_head : (h : HeaderView) (pieces : List Piece) → IsLayout h.layout → IsPieces h.layout (head_of h) pieces → All (HasWholeObject h) pieces
objects_of_head h pieces is are = λ k d below. record {
  head = pieces_of_head h (head_of h) pieces is (omega arith) are k d below;
  whole = (whole_is_all h (get_or pieces k d) is).1 (are.parts k d below);
}

pub first_object : (h : HeaderView) (p : Piece) (pieces : List Piece) → All (HasWholeObject h) (p ∷ pieces) → HasWholeObject h p
first_object h p pieces each = each 0 p (omega arith)

pub later_objects : (h : HeaderView) (p : Piece) (pieces : List Piece) → All (HasWholeObject h) (p ∷ pieces) → All (HasWholeObject h) pieces
later_objects h p pieces each = λ k d below. each (suc k) d (omega arith)

-- ---- from one object to the next

pub goes_to_next : (r : Restoring) (p : Piece) (others : List Piece) (next : Plan) → r.others ≡ p ∷ others
    → IsGoing (rest_of_others r next) (rest_from stage.Reading (record r { piece = p; others = others }) next)
goes_to_next r p others next are = record { live = tt; is = ap (λ pieces. restore_pieces r.site r.image r.header r.snap pieces next) (sym are) }

-- what is readied is no part of what is left
pub readied_apart : (s : Stage) (r : Restoring) (full : Option FullPiece) (next : Plan) → rest_from s (record r { readied = full }) next ≡ rest_from s r next
readied_apart stage.Reading r full next = refl
readied_apart (stage.Replacing f) r full next = refl

-- ---- where it begins

pub empty_where : (pieces left : List Piece) → pieces ≡ left → left ≡ drop 1 pieces → pieces ≡ []
empty_where [] left same dropped = refl
empty_where (p ∷ pieces) left same dropped =
    let longer : suc (length pieces) ≡ length left = ap length same in
    let as_long : length left ≡ length pieces = ap length dropped in
    absurd (omega (arith, longer, as_long))

module _ (site : SiteId) (image : ℕ) (h : HeaderView) (snap : ℕ) (is : IsLayout h.layout) (listed : List Piece) (are : IsPieces h.layout (head_of h) listed) where
  pub begins_with : (pieces : List Piece) (next : Plan) → listed ≡ pieces → restore_pieces site image h snap pieces next ≡ restore_all site image h snap next
  begins_with pieces next same = ap (λ pieces. restore_pieces site image h snap pieces next) (sym same ∙ pieces_of_alone h.layout is (head_of h) listed are)

-- Where one list of steps alone is that of a piece, one alone is that of several.
use Rattle.std.proofs.Common.{◌≡◌, ◌↔◌, ℕ, List, [], ◌∷◌, ◌++◌, refl, ap, ◌∙◌}
use Rattle.rbd_kinds.specs.declared.header.HeaderView.{HeaderView}
use Rattle.rbd_kinds.specs.declared.id.SiteId.{SiteId}
use Rattle.rbd_layout.specs.declared.types.Piece.{Piece}
use Rattle.rbd_machine.specs.Path.{Answered}
use Rattle.rbd_pieces.specs.Full.{IsReplaced, replaced}
use Rattle.rbd_pieces.specs.Size.{AreZeroed, pieces_zeroed}
use Rattle.rbd_pieces.specs.Zero.{IsZeroed, zeroed_steps}

module _ (site : SiteId) (image : ℕ) (h : HeaderView) where
  zeros_are : (pieces : List Piece) (steps : List Answered) → AreZeroed site image h pieces steps → steps ≡ pieces_zeroed site image h pieces
  zeros_are [] steps are = are
  zeros_are (p ∷ pieces) steps are =
      are.are ∙ ap (λ first. first ++ are.others) are.is_first ∙ ap (λ others. zeroed_steps site image h p ++ others) (zeros_are pieces are.others are.are_others)

  pub are_zeros : (pieces : List Piece) (steps : List Answered) → steps ≡ pieces_zeroed site image h pieces → AreZeroed site image h pieces steps
  are_zeros [] steps is = is
  are_zeros (p ∷ pieces) steps is = record {
    first = zeroed_steps site image h p;
    others = pieces_zeroed site image h pieces;
    is_first = refl;
    are_others = are_zeros pieces (pieces_zeroed site image h pieces) refl;
    are = is;
  }

pub zero_so : (site : SiteId) (image : ℕ) (h : HeaderView) (piece : Piece) (steps : List Answered) → IsZeroed site image h piece steps ↔ (steps ≡ zeroed_steps site image h piece)
zero_so site image h piece steps = (λ is. is, λ is. is)

pub full_so : (site : SiteId) (image : ℕ) (h : HeaderView) (piece : Piece) (bytes : List ℕ) (steps : List Answered)
    → IsReplaced site image h piece bytes steps ↔ (steps ≡ replaced site image h piece bytes)
full_so site image h piece bytes steps = (λ is. is, λ is. is)

pub zeros_so : (site : SiteId) (image : ℕ) (h : HeaderView) (pieces : List Piece) (steps : List Answered) → AreZeroed site image h pieces steps ↔ (steps ≡ pieces_zeroed site image h pieces)
zeros_so site image h pieces steps = (zeros_are site image h pieces steps, are_zeros site image h pieces steps)

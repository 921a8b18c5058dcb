-- A discard waits for its turns at the objects of its pieces.
use Rattle.std.proofs.Common.{ℕ, Bool, true, false, List, [], ◌∷◌, refl}
use Rattle.rbd_kinds.specs.declared.answer.Answer.{Answer}
use Rattle.rbd_kinds.specs.declared.answer.Answer.TheVariants as answer
use Rattle.rbd_kinds.specs.declared.header.HeaderView.{HeaderView}
use Rattle.rbd_kinds.specs.declared.header.SnapContext.{SnapContext}
use Rattle.rbd_kinds.specs.declared.id.SiteId.{SiteId}
use Rattle.rbd_layout.specs.declared.types.Piece.{Piece}
use Rattle.rbd_header.specs.Header.{context_of}
use Rattle.rbd_machine.specs.Label.{Label}
use Rattle.rbd_machine.specs.Plan.{Plan}
use Rattle.rbd_machine.specs.Steps.{applied, on_done}
use Rattle.rbd_machine.specs.Turns.{AreTurns}
use Rattle.rbd_data.specs.Write.{objects_of}
use Rattle.rbd_pieces.specs.Zero.{emptying, is_inside, is_whole, removing, setting, zero_by, zeroing}
use Rattle.rbd_data.specs.Discard.{zero_in_turns}

-- no operation of a piece is a turn
module _ (left : Label → List ℕ) (objects : List ℕ) where
  on_done_too : (next : Plan) → AreTurns left next objects → (a : Answer) → AreTurns left (on_done next a) objects
  on_done_too next are answer.Done = are
  on_done_too next are answer.Fenced = tt
  on_done_too next are _ = tt

  of_piece : (whole inside : Bool) (site : SiteId) (image : ℕ) (context : SnapContext) (p : Piece) (next : Plan) → AreTurns left next objects
      → AreTurns left (zero_by site image context p whole inside next) objects
  of_piece false false site image context p next are = on_done_too next are
  of_piece false true site image context p next are = on_done_too (zeroing site image context p true next) (on_done_too next are)
  of_piece true false site image context p next are =
      on_done_too (removing site image context p (setting site image context p 0 next))
      (on_done_too (setting site image context p 0 next) (on_done_too next are))
  of_piece true true site image context p next are = on_done_too (emptying site image context p next) (on_done_too next are)

pub turns_of_pieces : (left : Label → List ℕ) (pieces : List Piece) (site : SiteId) (image : ℕ) (h : HeaderView) → AreTurns left (zero_in_turns site image h pieces (applied site image)) (objects_of pieces)
turns_of_pieces left [] site image h = refl
turns_of_pieces left (p ∷ pieces) site image h = (
  refl,
  of_piece left (objects_of pieces) (is_whole h p) (is_inside h p.object) site image (context_of h) p (zero_in_turns site image h pieces (applied site image)) (turns_of_pieces left pieces site image h),
)

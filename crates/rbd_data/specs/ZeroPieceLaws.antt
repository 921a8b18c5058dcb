-- The laws of a discard's pieces: lemmas that the laws of an `impl` cite. They define nothing.
use Rattle.std.proofs.Common.{refl}
use Rattle.rbd_kinds.specs.declared.answer.Answer.{Answer}
use Rattle.rbd_kinds.specs.declared.machine.Fed.TheVariants as fed
use Rattle.rbd_machine.specs.Answers.{CanBeFed}
use Rattle.rbd_machine.specs.Plan.{Plan}
use Rattle.rbd_change.specs.OwnStep.{AsksByItself}
use Rattle.rbd_pieces.specs.Zero.{rest_from}
use Rattle.rbd_pieces.specs.declared.zero_piece.Stage.{Stage}
use Rattle.rbd_pieces.specs.declared.zero_piece.Stage.TheVariants as stage
use Rattle.rbd_pieces.specs.declared.zero_piece.ZeroPiece.{ZeroPiece}
use Rattle.rbd_pieces.proofs.ZerosTell.{zero_tells}
use Rattle.rbd_data.specs.Discard.{rest_of_piece, TellsPiece}
use Rattle.rbd_data.specs.declared.discard.DiscardTurn.{DiscardTurn}

-- at each stage there is an operation that it wants
asks_at : (s : Stage) (z : ZeroPiece) (next : Plan) → AsksByItself (rest_from s z next)
asks_at stage.Zeroing z next = refl
asks_at stage.RaisingToZero z next = refl
asks_at stage.ZeroingThere z next = refl
asks_at stage.RaisingToEmpty z next = refl
asks_at stage.Emptying z next = refl
asks_at stage.Marking z next = refl
asks_at stage.Removing z next = refl
asks_at stage.Lowering z next = refl

pub piece_asks : (t : DiscardTurn) (next : Plan) → AsksByItself (rest_of_piece t next)
piece_asks t next = asks_at t.piece.stage t.piece next

-- what it may be fed tells it how to go on
pub piece_tells : (t : DiscardTurn) (next : Plan) (a : Answer) → CanBeFed (rest_of_piece t next) (fed.Answer a)
    → TellsPiece t a
piece_tells t next a can = zero_tells t.piece.stage t.piece next a can

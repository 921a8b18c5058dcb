-- The laws of a write's pieces: lemmas that the laws of an `impl` cite. They define nothing.
use Rattle.std.proofs.Common.{refl}
use Rattle.rbd_kinds.specs.declared.answer.Answer.{Answer}
use Rattle.rbd_kinds.specs.declared.machine.Fed.TheVariants as fed
use Rattle.rbd_machine.specs.Answers.{CanBeFed}
use Rattle.rbd_machine.specs.Plan.{Plan}
use Rattle.rbd_change.specs.OwnStep.{AsksByItself}
use Rattle.rbd_pieces.specs.Write.{rest_from}
use Rattle.rbd_pieces.specs.declared.write_piece.Stage.{Stage}
use Rattle.rbd_pieces.specs.declared.write_piece.Stage.TheVariants as stage
use Rattle.rbd_pieces.specs.declared.write_piece.WritePiece.{WritePiece}
use Rattle.rbd_pieces.proofs.Tells.{write_tells}
use Rattle.rbd_data.specs.Write.{rest_of_piece, TellsPiece}
use Rattle.rbd_data.specs.declared.write.WriteTurn.{WriteTurn}

-- at each stage there is an operation that it wants
asks_at : (s : Stage) (w : WritePiece) (next : Plan) → AsksByItself (rest_from s w next)
asks_at stage.Raising w next = refl
asks_at stage.Writing w next = refl

pub piece_asks : (t : WriteTurn) (next : Plan) → AsksByItself (rest_of_piece t next)
piece_asks t next = asks_at t.piece.stage t.piece next

-- what it may be fed tells it how to go on
pub piece_tells : (t : WriteTurn) (next : Plan) (a : Answer) → CanBeFed (rest_of_piece t next) (fed.Answer a)
    → TellsPiece t a
piece_tells t next a can = write_tells t.piece.stage t.piece next a can

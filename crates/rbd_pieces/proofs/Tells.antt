-- What the answers that an operation can give tell a piece.
use Rattle.std.proofs.Common.{ℕ, List, Option}
use Rattle.rbd_kinds.specs.declared.answer.Answer.{Answer}
use Rattle.rbd_kinds.specs.declared.answer.Answer.TheVariants as answer
use Rattle.rbd_kinds.specs.declared.header.SnapContext.{SnapContext}
use Rattle.rbd_layout.specs.declared.types.Piece.{Piece}
use Rattle.rbd_kinds.specs.declared.machine.Fed.TheVariants as fed
use Rattle.rbd_machine.specs.Answers.{CanGive, CanBeFed}
use Rattle.rbd_machine.specs.Objects.{data_read, data_write, map_exists}
use Rattle.rbd_machine.specs.Plan.{Plan}
use Rattle.rbd_machine.specs.Steps.{TellsDone}
use Rattle.rbd_pieces.specs.Gather.{TellsBytes}
use Rattle.rbd_pieces.specs.Write.{rest_from}
use Rattle.rbd_pieces.specs.declared.write_piece.Stage.{Stage}
use Rattle.rbd_pieces.specs.declared.write_piece.Stage.TheVariants as stage
use Rattle.rbd_pieces.specs.declared.write_piece.WritePiece.{WritePiece}

pub read_tells : (image : ℕ) (snap : Option ℕ) (piece : Piece) (a : Answer) → CanGive (data_read image snap piece) a → TellsBytes a
read_tells image snap piece (answer.Bytes bytes) can = tt
read_tells image snap piece answer.Absent can = tt
read_tells image snap piece answer.Fenced can = tt
read_tells image snap piece _ can = let no = can.word in cc

raise_tells : (image object : ℕ) (a : Answer) → CanGive (map_exists image object) a → TellsDone a
raise_tells image object answer.Done can = tt
raise_tells image object answer.Absent can = tt
raise_tells image object answer.Fenced can = tt
raise_tells image object _ can = let no = can.word in cc

put_tells : (image : ℕ) (context : SnapContext) (piece : Piece) (bytes : List ℕ) (a : Answer) → CanGive (data_write image context piece bytes) a → TellsDone a
put_tells image context piece bytes answer.Done can = tt
put_tells image context piece bytes answer.Fenced can = tt
put_tells image context piece bytes _ can = let no = can.word in cc

pub write_tells : (s : Stage) (w : WritePiece) (next : Plan) (a : Answer) → CanBeFed (rest_from s w next) (fed.Answer a) → TellsDone a
write_tells stage.Raising w next a can = raise_tells w.image w.piece.object a can
write_tells stage.Writing w next a can = put_tells w.image w.context w.piece w.bytes a can

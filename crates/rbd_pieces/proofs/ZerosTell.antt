-- What the answers that an operation can give tell a part.
use Rattle.std.proofs.Common.{ℕ, List, Bool, true, false}
use Rattle.rbd_kinds.specs.declared.answer.Answer.{Answer}
use Rattle.rbd_kinds.specs.declared.answer.Answer.TheVariants as answer
use Rattle.rbd_kinds.specs.declared.header.SnapContext.{SnapContext}
use Rattle.rbd_kinds.specs.declared.machine.Fed.TheVariants as fed
use Rattle.rbd_layout.specs.declared.types.Piece.{Piece}
use Rattle.rbd_machine.specs.Answers.{CanGive, CanBeFed}
use Rattle.rbd_machine.specs.Plan.{Plan}
use Rattle.rbd_machine.specs.Steps.{TellsBits, TellsDone}
use Rattle.rbd_pieces.specs.Operations.{data_zero, data_empty, data_remove, data_write_full, header_set_size, map_get, map_resize, map_set}
use Rattle.rbd_pieces.specs.Full as full
use Rattle.rbd_pieces.specs.Size as size
use Rattle.rbd_pieces.specs.Zero.{rest_from}
use Rattle.rbd_pieces.specs.declared.full_piece.Way.{Way}
use Rattle.rbd_pieces.specs.declared.full_piece.Way.TheVariants as way
use Rattle.rbd_pieces.specs.declared.replace.Replace.{Replace}
use Rattle.rbd_pieces.specs.declared.replace.Stage as of_replace
use Rattle.rbd_pieces.specs.declared.replace.Stage.TheVariants as replacing
use Rattle.rbd_pieces.specs.declared.size.Size.{Size}
use Rattle.rbd_pieces.specs.declared.size.Stage as of_size
use Rattle.rbd_pieces.specs.declared.size.Stage.TheVariants as sizing
use Rattle.rbd_pieces.specs.declared.zero_piece.Stage.{Stage}
use Rattle.rbd_pieces.specs.declared.zero_piece.Stage.TheVariants as stage
use Rattle.rbd_pieces.specs.declared.zero_piece.ZeroPiece.{ZeroPiece}

set_tells : (image number state : ℕ) (a : Answer) → CanGive (map_set image number state) a → TellsDone a
set_tells image number state answer.Done can = tt
set_tells image number state answer.Absent can = tt
set_tells image number state answer.Fenced can = tt
set_tells image number state _ can = let no = can.word in cc

data_tells : (image : ℕ) (context : SnapContext) (must : Bool) (piece : Piece) (a : Answer) → CanGive (data_zero image context must piece) a → TellsDone a
data_tells image context must piece answer.Done can = tt
data_tells image context must piece answer.Absent can = tt
data_tells image context must piece answer.Fenced can = tt
data_tells image context true piece _ can = let no = can.word in cc
data_tells image context false piece _ can = let no = can.word in cc

empty_tells : (image : ℕ) (context : SnapContext) (number : ℕ) (a : Answer) → CanGive (data_empty image context number) a → TellsDone a
empty_tells image context number answer.Done can = tt
empty_tells image context number answer.Fenced can = tt
empty_tells image context number _ can = let no = can.word in cc

remove_tells : (image : ℕ) (context : SnapContext) (number : ℕ) (a : Answer) → CanGive (data_remove image context number) a → TellsDone a
remove_tells image context number answer.Done can = tt
remove_tells image context number answer.Fenced can = tt
remove_tells image context number _ can = let no = can.word in cc

pub zero_tells : (s : Stage) (z : ZeroPiece) (next : Plan) (a : Answer) → CanBeFed (rest_from s z next) (fed.Answer a) → TellsDone a
zero_tells stage.Zeroing z next a can = data_tells z.image z.context false z.piece a can
zero_tells stage.RaisingToZero z next a can = set_tells z.image z.piece.object 1 a can
zero_tells stage.ZeroingThere z next a can = data_tells z.image z.context true z.piece a can
zero_tells stage.RaisingToEmpty z next a can = set_tells z.image z.piece.object 1 a can
zero_tells stage.Emptying z next a can = empty_tells z.image z.context z.piece.object a can
zero_tells stage.Marking z next a can = set_tells z.image z.piece.object 2 a can
zero_tells stage.Removing z next a can = remove_tells z.image z.context z.piece.object a can
zero_tells stage.Lowering z next a can = set_tells z.image z.piece.object 0 a can

full_write_tells : (image : ℕ) (context : SnapContext) (number : ℕ) (bytes : List ℕ) (a : Answer) → CanGive (data_write_full image context number bytes) a → TellsDone a
full_write_tells image context number bytes answer.Done can = tt
full_write_tells image context number bytes answer.Fenced can = tt
full_write_tells image context number bytes _ can = let no = can.word in cc

replace_tells : (s : of_replace.Stage) (r : Replace) (next : Plan) (a : Answer) → CanBeFed (full.replace_from s r next) (fed.Answer a) → TellsDone a
replace_tells replacing.Raising r next a can = set_tells r.image r.object 1 a can
replace_tells replacing.Writing r next a can = full_write_tells r.image r.context r.object r.bytes a can

pub full_tells : (w : Way) (next : Plan) (a : Answer) → CanBeFed (full.rest_from w next) (fed.Answer a) → TellsDone a
full_tells (way.Replacing r) next a can = replace_tells r.stage r next a can
full_tells (way.Zeroing z) next a can = zero_tells z.stage z next a can

get_tells : (image : ℕ) (a : Answer) → CanGive (map_get image) a → TellsBits a
get_tells image (answer.Bits bits) can = tt
get_tells image answer.Absent can = tt
get_tells image answer.Fenced can = tt
get_tells image _ can = let no = can.word in cc

resize_tells : (image objects : ℕ) (a : Answer) → CanGive (map_resize image objects) a → TellsDone a
resize_tells image objects answer.Done can = tt
resize_tells image objects answer.Fenced can = tt
resize_tells image objects _ can = let no = can.word in cc

set_size_tells : (image to : ℕ) (a : Answer) → CanGive (header_set_size image to) a → TellsDone a
set_size_tells image to answer.Done can = tt
set_size_tells image to answer.Absent can = tt
set_size_tells image to answer.Fenced can = tt
set_size_tells image to _ can = let no = can.word in cc

pub size_tells : (s : of_size.Stage) (z : Size) (next : Plan) (a : Answer) → CanBeFed (size.rest_from s z next) (fed.Answer a) → size.Tells s a
size_tells (sizing.Growing objects to) z next a can = resize_tells z.image objects a can
size_tells (sizing.Looking shrink) z next a can = get_tells z.image a can
size_tells (sizing.Zeroing piece to) z next a can = zero_tells piece.stage piece (size.rest_of_zeros z.pieces.items (size.sizing z.site z.image to next)) a can
size_tells (sizing.Sizing to) z next a can = set_size_tells z.image to a can

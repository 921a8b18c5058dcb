-- The laws of the part of `resize`: lemmas that the laws of an `impl` cite. They define nothing.
use Rattle.std.proofs.Common.{refl}
use Rattle.rbd_kinds.specs.declared.answer.Answer.{Answer}
use Rattle.rbd_kinds.specs.declared.machine.Fed.TheVariants as fed
use Rattle.rbd_machine.specs.Answers.{CanBeFed}
use Rattle.rbd_machine.specs.Plan.{Plan}
use Rattle.rbd_change.specs.OwnStep.{AsksByItself}
use Rattle.rbd_pieces.specs.Size as size
use Rattle.rbd_pieces.specs.Zero as zero
use Rattle.rbd_pieces.specs.declared.size.Size.{Size}
use Rattle.rbd_pieces.specs.declared.size.Stage as of_size
use Rattle.rbd_pieces.specs.declared.size.Stage.TheVariants as size_stage
use Rattle.rbd_pieces.specs.declared.zero_piece.Stage as of_zero
use Rattle.rbd_pieces.specs.declared.zero_piece.Stage.TheVariants as zero_stage
use Rattle.rbd_pieces.specs.declared.zero_piece.ZeroPiece.{ZeroPiece}
use Rattle.rbd_pieces.proofs.ZerosTell.{size_tells}
use Rattle.rbd_image.specs.Resize.{rest_of_new_size, TellsNewSize}
use Rattle.rbd_image.specs.declared.resize.NewSize.{NewSize}

-- ---- at each stage there is an operation that it wants

pub zero_asks : (s : of_zero.Stage) (z : ZeroPiece) (next : Plan) → AsksByItself (zero.rest_from s z next)
zero_asks zero_stage.Zeroing z next = refl
zero_asks zero_stage.RaisingToZero z next = refl
zero_asks zero_stage.ZeroingThere z next = refl
zero_asks zero_stage.RaisingToEmpty z next = refl
zero_asks zero_stage.Emptying z next = refl
zero_asks zero_stage.Marking z next = refl
zero_asks zero_stage.Removing z next = refl
zero_asks zero_stage.Lowering z next = refl

pub size_asks : (s : of_size.Stage) (z : Size) (next : Plan) → AsksByItself (size.rest_from s z next)
size_asks (size_stage.Growing objects to) z next = refl
size_asks (size_stage.Looking shrink) z next = refl
size_asks (size_stage.Zeroing piece to) z next =
    zero_asks piece.stage piece (size.rest_of_zeros z.pieces.items (size.sizing z.site z.image to next))
size_asks (size_stage.Sizing to) z next = refl

pub new_size_asks : (n : NewSize) (next : Plan) → AsksByItself (rest_of_new_size n next)
new_size_asks n next = size_asks n.size.stage n.size next

-- ---- what it may be fed tells it how to go on

pub new_size_tells : (n : NewSize) (next : Plan) (a : Answer) → CanBeFed (rest_of_new_size n next) (fed.Answer a)
    → TellsNewSize n a
new_size_tells n next a can = size_tells n.size.stage n.size next a can

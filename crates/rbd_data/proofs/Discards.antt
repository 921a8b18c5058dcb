-- The object of a discard's piece, which is told by what is left of it.
use Rattle.std.proofs.Common.{◌≡◌, ℕ, Bool, true, false, refl, sym, ap, ◌∙◌}
use Rattle.rbd_kinds.specs.declared.header.HeaderView.{HeaderView}
use Rattle.rbd_kinds.specs.declared.header.SnapContext.{SnapContext}
use Rattle.rbd_kinds.specs.declared.id.SiteId.{SiteId}
use Rattle.rbd_kinds.specs.declared.map_op.MapOp.TheVariants as states
use Rattle.rbd_kinds.specs.declared.operation.Op.{Op}
use Rattle.rbd_kinds.specs.declared.operation.Op.TheVariants as op
use Rattle.rbd_kinds.specs.declared.reply.Reply.TheVariants as reply
use Rattle.rbd_layout.specs.declared.types.Piece.{Piece}
use Rattle.rbd_header.specs.Header.{context_of}
use Rattle.rbd_machine.specs.Plan.{Plan, Ask, Return}
use Rattle.rbd_pieces.specs.Zero.{rest_from, rest_of_zero, zero_by, zero_piece, is_inside, is_whole}
use Rattle.rbd_pieces.specs.declared.zero_piece.Stage.{Stage}
use Rattle.rbd_pieces.specs.declared.zero_piece.Stage.TheVariants as stage
use Rattle.rbd_pieces.specs.declared.zero_piece.ZeroPiece.{ZeroPiece}

-- the object of an operation that is asked for
abbrev object_of : Op → ℕ
object_of (op.Data image number o) = number
object_of (op.Map image (states.Set snap number state)) = number
object_of _ = 0

abbrev object_asked : Plan → ℕ
object_asked (Ask site why o next) = object_of o
object_asked _ = 0

object_left : (s : Stage) (z : ZeroPiece) (next : Plan) → object_asked (rest_from s z next) ≡ z.piece.object
object_left stage.Zeroing z next = refl
object_left stage.RaisingToZero z next = refl
object_left stage.ZeroingThere z next = refl
object_left stage.RaisingToEmpty z next = refl
object_left stage.Emptying z next = refl
object_left stage.Marking z next = refl
object_left stage.Removing z next = refl
object_left stage.Lowering z next = refl

object_zeroed : (whole inside : Bool) (site : SiteId) (image : ℕ) (context : SnapContext) (p : Piece) (next : Plan) → object_asked (zero_by site image context p whole inside next) ≡ p.object
object_zeroed false false site image context p next = refl
object_zeroed false true site image context p next = refl
object_zeroed true false site image context p next = refl
object_zeroed true true site image context p next = refl

-- what is left of a piece tells its object
pub same_object : (z : ZeroPiece) (site : SiteId) (image : ℕ) (h : HeaderView) (p : Piece)
    → ((next : Plan) → rest_of_zero z next ≡ zero_piece site image h p next) → z.piece.object ≡ p.object
same_object z site image h p is =
    let next = Return reply.Done in
    sym (object_left z.stage z next) ∙ ap object_asked (is next) ∙ object_zeroed (is_whole h p) (is_inside h p.object) site image (context_of h) p next

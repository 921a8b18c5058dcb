-- Objects that become what they were at a snapshot, one after another: where that stands.
use Rattle.std.specs.Prelude.{◌≡◌, ℕ, true, List, replicate, Option, Some, None}
use Rattle.rbd_kinds.specs.declared.answer.Answer.{Answer}
use Rattle.rbd_kinds.specs.declared.answer.Answer.TheVariants as answer
use Rattle.rbd_kinds.specs.declared.header.HeaderView.{HeaderView}
use Rattle.rbd_kinds.specs.declared.id.SiteId.{SiteId}
use Rattle.rbd_kinds.specs.Parts.{parts_len}
use Rattle.rbd_layout.specs.declared.types.Piece.{Piece}
use Rattle.rbd_machine.specs.Plan.{Plan}
use Rattle.rbd_machine.specs.Steps.{TellsDone}
use Rattle.rbd_pieces.specs.Gather.{TellsBytes}
use Rattle.rbd_pieces.specs.Full.{full_piece, rest_of_full}
use Rattle.rbd_pieces.specs.Zero.{IsOfHead, is_whole}
use Rattle.rbd_pieces.specs.declared.full_piece.FullPiece.{FullPiece}
use Rattle.rbd_snap.specs.Rollback.{restore, restore_pieces}
use Rattle.rbd_snap.specs.declared.restore.Stage.{Stage}
use Rattle.rbd_snap.specs.declared.restore.Stage.TheVariants as stage

-- The piece has all bytes that the head has in its object.
pub record HasWholeObject (h : HeaderView) (p : Piece) : Type 0 where
  pub head : IsOfHead h p.object
  pub whole : is_whole h p ≡ true

-- the piece of which the object becomes what it was at a snapshot, and those after it
pub record Restoring : Type 0 where
  pub site : SiteId
  pub image : ℕ
  pub header : HeaderView
  pub snap : ℕ
  pub piece : Piece
  pub others : List Piece
  pub stage : Stage
  -- what replaces the object, once there is memory for it
  pub readied : Option FullPiece

abbrev pub rest_of_others : Restoring → (next : Plan) → Plan
rest_of_others r next = restore_pieces r.site r.image r.header r.snap r.others next

abbrev pub rest_from : Stage → Restoring → (next : Plan) → Plan
rest_from stage.Reading r next = restore r.site r.image r.header r.snap r.piece (rest_of_others r next)
rest_from (stage.Replacing full) r next = rest_of_full full (rest_of_others r next)

-- what is left of one
abbrev pub rest_of_restore : Restoring → (next : Plan) → Plan
rest_of_restore r next = rest_from r.stage r next

-- where there is one at all
abbrev pub rest_of_some : Option Restoring → (next : Plan) → Plan
rest_of_some None next = next
rest_of_some (Some r) next = rest_of_restore r next

-- what its operation may be answered
abbrev pub Tells : Stage → Answer → Type 0
Tells stage.Reading = TellsBytes
Tells (stage.Replacing full) = TellsDone

-- ---- the memory that an answer needs: where bytes are told, what replaces the object

abbrev pub IsReplacedBy : Restoring → (bytes : List ℕ) → Option FullPiece → Type 0
IsReplacedBy r bytes None = ⊥
IsReplacedBy r bytes (Some full) =
    (next : Plan) → rest_of_full full next ≡ full_piece r.site r.image r.header r.piece bytes next

abbrev pub IsReadyAt : Stage → Restoring → Answer → Type 0
IsReadyAt stage.Reading r (answer.Bytes bytes) = IsReplacedBy r bytes r.readied
IsReadyAt stage.Reading r answer.Absent = IsReplacedBy r (replicate (parts_len r.piece.parts) 0) r.readied
IsReadyAt _ r a = Unit {0}

abbrev pub IsReady : Restoring → Answer → Type 0
IsReady r a = IsReadyAt r.stage r a

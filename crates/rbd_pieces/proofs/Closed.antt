-- Pieces go to no label of their own.
use Rattle.std.proofs.Common.{ℕ, List, [], ◌∷◌, ◌++◌, replicate, Option}
use Rattle.rbd_kinds.specs.declared.answer.Answer.{Answer}
use Rattle.rbd_kinds.specs.declared.answer.Answer.TheVariants as answer
use Rattle.rbd_kinds.specs.declared.header.HeaderView.{HeaderView}
use Rattle.rbd_kinds.specs.declared.id.SiteId.{SiteId}
use Rattle.rbd_kinds.specs.declared.layout.Part.{Part}
use Rattle.rbd_kinds.specs.Parts.{parts_len}
use Rattle.rbd_layout.specs.declared.types.Piece.{Piece}
use Rattle.rbd_header.specs.Header.{context_of}
use Rattle.rbd_machine.specs.Label.{Label}
use Rattle.rbd_machine.specs.Plan.{Plan, IsClosed}
use Rattle.rbd_machine.proofs.Closed.{closed_not_there, closed_on_done}
use Rattle.rbd_pieces.specs.Gather.{gather, on_bytes}
use Rattle.rbd_pieces.specs.Write.{write_piece, writing}

module _ (labels : Label → Plan) where
  pub closed_write : (site : SiteId) (image : ℕ) (h : HeaderView) (piece : Piece) (bytes : List ℕ) (next : Plan) → IsClosed labels next → IsClosed labels (write_piece site image h piece bytes next)
  closed_write site image h piece bytes next closed =
      closed_on_done labels (writing site image (context_of h) piece bytes next) (closed_on_done labels next closed)

  closed_on_bytes : (parts : List Part) (next : List ℕ → Plan) → ((bytes : List ℕ) → IsClosed labels (next bytes)) → (a : Answer) → IsClosed labels (on_bytes parts next a)
  closed_on_bytes parts next closed (answer.Bytes bytes) = closed bytes
  closed_on_bytes parts next closed answer.Absent = closed (replicate (parts_len parts) 0)
  closed_on_bytes parts next closed a = closed_not_there labels a

  pub closed_gather : (pieces : List Piece) (site : SiteId) (image : ℕ) (snap : Option ℕ) (read : List ℕ) (next : List ℕ → Plan)
      → ((bytes : List ℕ) → IsClosed labels (next bytes)) → IsClosed labels (gather site image snap pieces read next)
  closed_gather [] site image snap read next closed = closed read
  closed_gather (p ∷ pieces) site image snap read next closed =
      closed_on_bytes p.parts (λ bytes. gather site image snap pieces (read ++ bytes) next) (λ bytes. closed_gather pieces site image snap (read ++ bytes) next closed)

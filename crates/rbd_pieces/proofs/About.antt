-- The operations of pieces are of their image.
use Rattle.std.proofs.Common.{ℕ, List, [], ◌∷◌, ◌++◌, replicate, Option, refl}
use Rattle.rbd_kinds.specs.declared.answer.Answer.{Answer}
use Rattle.rbd_kinds.specs.declared.answer.Answer.TheVariants as answer
use Rattle.rbd_kinds.specs.declared.header.HeaderView.{HeaderView}
use Rattle.rbd_kinds.specs.declared.id.SiteId.{SiteId}
use Rattle.rbd_kinds.specs.declared.layout.Part.{Part}
use Rattle.rbd_kinds.specs.Parts.{parts_len}
use Rattle.rbd_layout.specs.declared.types.Piece.{Piece}
use Rattle.rbd_header.specs.Header.{context_of}
use Rattle.rbd_machine.specs.Plan.{Plan}
use Rattle.rbd_machine.proofs.About.{IsOfImage, of_not_there, of_on_done}
use Rattle.rbd_pieces.specs.Gather.{gather, on_bytes}
use Rattle.rbd_pieces.specs.Write.{write_piece, writing}

module _ (site : SiteId) (image : ℕ) where
  pub of_write : (h : HeaderView) (piece : Piece) (bytes : List ℕ) (next : Plan) → IsOfImage site image next → IsOfImage site image (write_piece site image h piece bytes next)
  of_write h piece bytes next of =
      (refl, refl, of_on_done site image (writing site image (context_of h) piece bytes next) (refl, refl, of_on_done site image next of))

  of_on_bytes : (parts : List Part) (next : List ℕ → Plan) → ((bytes : List ℕ) → IsOfImage site image (next bytes)) → (a : Answer) → IsOfImage site image (on_bytes parts next a)
  of_on_bytes parts next of (answer.Bytes bytes) = of bytes
  of_on_bytes parts next of answer.Absent = of (replicate (parts_len parts) 0)
  of_on_bytes parts next of a = of_not_there site image a

  pub of_gather : (pieces : List Piece) (snap : Option ℕ) (read : List ℕ) (next : List ℕ → Plan)
      → ((bytes : List ℕ) → IsOfImage site image (next bytes)) → IsOfImage site image (gather site image snap pieces read next)
  of_gather [] snap read next of = of read
  of_gather (p ∷ pieces) snap read next of =
      (refl, refl, of_on_bytes p.parts (λ bytes. gather site image snap pieces (read ++ bytes) next) (λ bytes. of_gather pieces snap (read ++ bytes) next of))

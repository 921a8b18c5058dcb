-- How many operations pieces have.
use Rattle.std.proofs.Common.{◌≡◌, ℕ, ◌+◌, suc, List, [], ◌∷◌, ◌++◌, length, replicate, Option, subst, arith}
use Rattle.rbd_kinds.specs.declared.answer.Answer.{Answer}
use Rattle.rbd_kinds.specs.declared.answer.Answer.TheVariants as answer
use Rattle.rbd_kinds.specs.declared.header.HeaderView.{HeaderView}
use Rattle.rbd_kinds.specs.declared.id.SiteId.{SiteId}
use Rattle.rbd_kinds.specs.declared.layout.Part.{Part}
use Rattle.rbd_layout.specs.declared.types.Piece.{Piece}
use Rattle.rbd_header.specs.Header.{context_of}
use Rattle.rbd_kinds.specs.Parts.{parts_len}
use Rattle.rbd_machine.specs.Path.{IsBounded}
use Rattle.rbd_machine.specs.Plan.{Plan}
use Rattle.rbd_machine.proofs.Bounds.{bounded_on_done}
use Rattle.rbd_pieces.specs.Gather.{gather, on_bytes}
use Rattle.rbd_pieces.specs.Write.{write_piece, writing}

pub bounded_write : (site : SiteId) (image : ℕ) (h : HeaderView) (piece : Piece) (bytes : List ℕ) (next : Plan) (n : ℕ) → IsBounded next n
    → IsBounded (write_piece site image h piece bytes next) (suc (suc n))
bounded_write site image h piece bytes next n b = bounded_on_done (writing site image (context_of h) piece bytes next) (suc n) (bounded_on_done next n b)

bounded_on_bytes : (parts : List Part) (next : List ℕ → Plan) (n : ℕ) → ((bytes : List ℕ) → IsBounded (next bytes) n) → (a : Answer) → IsBounded (on_bytes parts next a) n
bounded_on_bytes parts next n b (answer.Bytes bytes) = b bytes
bounded_on_bytes parts next n b answer.Absent = b (replicate (parts_len parts) 0)
bounded_on_bytes parts next n b answer.Fenced = tt
bounded_on_bytes parts next n b _ = tt

pub bounded_gather : (pieces : List Piece) (site : SiteId) (image : ℕ) (snap : Option ℕ) (read : List ℕ) (next : List ℕ → Plan) (n : ℕ)
    → ((bytes : List ℕ) → IsBounded (next bytes) n) → IsBounded (gather site image snap pieces read next) (n + length pieces)
bounded_gather [] site image snap read next n b = let same : n ≡ n + 0 = omega arith in subst (IsBounded (next read)) same (b read)
bounded_gather (p ∷ pieces) site image snap read next n b =
    let same : suc (n + length pieces) ≡ n + suc (length pieces) = omega arith in
    subst (IsBounded (gather site image snap (p ∷ pieces) read next)) same
    (bounded_on_bytes p.parts (λ bytes. gather site image snap pieces (read ++ bytes) next) (n + length pieces) (λ bytes. bounded_gather pieces site image snap (read ++ bytes) next n b))

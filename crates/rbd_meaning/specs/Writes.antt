-- `write` and `fill`: what refuses one, what has been written when it is done, and what its replies
-- mean.
use Rattle.std.specs.Prelude.{◌≡◌, ◌⊎◌, ℕ, List, [], ◌∷◌, ◌++◌, Option, None}
use Rattle.rbd_kinds.specs.declared.answer.Answer.TheVariants as answer
use Rattle.rbd_kinds.specs.declared.header.HeaderView.{HeaderView}
use Rattle.rbd_kinds.specs.declared.id.SiteId.{SiteId}
use Rattle.rbd_kinds.specs.declared.layout.Extent.{Extent}
use Rattle.rbd_commands.specs.declared.refusal.Refusal.{Refusal}
use Rattle.rbd_kinds.specs.declared.reply.Reply.{Reply}
use Rattle.rbd_kinds.specs.declared.reply.Reply.TheVariants as reply
use Rattle.rbd_layout.specs.Pieces.{pieces_of}
use Rattle.rbd_layout.specs.declared.types.Piece.{Piece}
use Rattle.rbd_parts.specs.Parts.{bytes_for}
use Rattle.rbd_header.specs.Header.{context_of}
use Rattle.rbd_machine.specs.About.{look_up}
use Rattle.rbd_machine.specs.Objects.{data_write, map_exists}
use Rattle.rbd_machine.specs.Path.{Answered, found, looked_at}
use Rattle.rbd_machine.specs.Refused.{by_fence, AreLooks, IsRefused}
use Rattle.rbd_machine.specs.Steps.{or_else, non_primary}
use Rattle.rbd_meaning.specs.Partly.{IsBeginningOf}
use Rattle.rbd_meaning.specs.Range.{extent_at, out_of_range}
use Rattle.rbd_pieces.specs.Pieces.{ArePieces}

abbrev pub write_refuses : Extent → HeaderView → Option Refusal
write_refuses e h = or_else (non_primary h.role) (out_of_range e h.size)

-- the state of a piece's object was raised in the head's map
abbrev pub state_raised : SiteId → (image : ℕ) → Piece → Answered
state_raised site image p = record { site = site; op = map_exists image p.object; answer = answer.Done }

-- a piece that was written, under the snapshot context of a header
abbrev pub piece_written : SiteId → (image : ℕ) → HeaderView → (at : ℕ) → (bytes : List ℕ) → Piece → Answered
piece_written site image h at bytes p =
    record { site = site; op = data_write image (context_of h) p (bytes_for p.parts at bytes); answer = answer.Done }

-- a piece was written: the state of its object was raised, and then its bytes were written
abbrev pub IsWritten : SiteId → (image : ℕ) → HeaderView → (at : ℕ) → (bytes : List ℕ) → Piece → List Answered → Type 0
IsWritten site image h at bytes p steps = steps ≡ state_raised site image p ∷ piece_written site image h at bytes p ∷ []

-- the pieces were written, one after another
abbrev pub AreWritten : SiteId → (image : ℕ) → HeaderView → (at : ℕ) → (bytes : List ℕ) → List Piece → List Answered
    → Type 0
AreWritten site image h at bytes pieces steps = ArePieces (IsWritten site image h at bytes) pieces steps

-- the operations by which they were, each piece's behind its object's state
abbrev pub pieces_written : SiteId → (image : ℕ) → HeaderView → (at : ℕ) → (bytes : List ℕ) → List Piece → List Answered
pieces_written site image h at bytes [] = []
pieces_written site image h at bytes (p ∷ pieces) =
    state_raised site image p ∷ piece_written site image h at bytes p ∷ pieces_written site image h at bytes pieces

-- Nothing was done for the pieces that are left, or the first of them was begun, and not ended.
abbrev pub IsPieceBegun : SiteId → (image : ℕ) → HeaderView → (at : ℕ) → (bytes : List ℕ) → (left : List Piece)
    → (begun : List Answered) → Type 0
IsPieceBegun site image h at bytes [] begun = begun ≡ []
IsPieceBegun site image h at bytes (p ∷ left) begun = IsBeginningOf (IsWritten site image h at bytes p) begun

-- The request found its image and looked at the header twice, and neither look refused it. Then, by
-- its look under the lock, it wrote each piece of its extent, and did nothing else.
pub record WritesWhole (site : SiteId) (name : List ℕ) (at : ℕ) (bytes : List ℕ) (steps : List Answered) : Type 0 where
  pub image : ℕ
  pub first : HeaderView
  pub own : HeaderView
  pub may_wait : write_refuses (extent_at at bytes) first ≡ None
  pub may : write_refuses (extent_at at bytes) own ≡ None
  pub written : List Answered
  pub are_written : AreWritten site image own at bytes (pieces_of own.layout (extent_at at bytes)) written
  pub are : steps ≡ found site name image ∷ looked_at site image first ∷ looked_at site image own ∷ written

-- The same, up to some of its pieces: the first of them were written, and at most the next one was
-- begun.
pub record WritesSome (site : SiteId) (name : List ℕ) (at : ℕ) (bytes : List ℕ) (steps : List Answered) : Type 0 where
  pub image : ℕ
  pub first : HeaderView
  pub own : HeaderView
  pub may_wait : write_refuses (extent_at at bytes) first ≡ None
  pub may : write_refuses (extent_at at bytes) own ≡ None
  pub written : List Piece
  pub left : List Piece
  pub pieces : pieces_of own.layout (extent_at at bytes) ≡ written ++ left
  pub written_steps : List Answered
  pub are_written : AreWritten site image own at bytes written written_steps
  pub begun : List Answered
  pub is_begun : IsPieceBegun site image own at bytes left begun
  pub are : steps ≡ found site name image ∷ looked_at site image first ∷ looked_at site image own
      ∷ (written_steps ++ begun)

-- The request was refused, and had only looked before, or written its first pieces.
pub record RefusesWrite (site : SiteId) (name : List ℕ) (at : ℕ) (bytes : List ℕ) (steps : List Answered)
    (x : Refusal) : Type 0 where
  pub refused : IsRefused site (look_up name) (write_refuses (extent_at at bytes)) by_fence steps x
  pub so_far : AreLooks refused.by.before ⊎ WritesSome site name at bytes refused.by.before

abbrev pub WriteMeans : SiteId → (image : List ℕ) → (at : ℕ) → (bytes : List ℕ) → List Answered → Reply → Type 0
WriteMeans site image at bytes steps reply.Done = WritesWhole site image at bytes steps
WriteMeans site image at bytes steps (reply.Refused x) = RefusesWrite site image at bytes steps x
WriteMeans site image at bytes steps _ = ⊥

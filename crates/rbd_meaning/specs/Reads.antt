-- `read`: what refuses one, when it shows bytes, and what its replies mean. It shows them in one
-- pass, between two looks at a header that didn't change, however often it began again before.
use Rattle.std.specs.Prelude.{◌≡◌, ◌≤◌, ℕ, List, [], ◌∷◌, ◌++◌, length, replicate, Option, Some, None}
use Rattle.rbd_kinds.specs.declared.answer.Answer.{Answer}
use Rattle.rbd_kinds.specs.declared.answer.Answer.TheVariants as answer
use Rattle.rbd_kinds.specs.declared.header.HeaderView.{HeaderView}
use Rattle.rbd_kinds.specs.declared.header_op.HeaderOp.TheVariants as header
use Rattle.rbd_kinds.specs.declared.id.SiteId.{SiteId}
use Rattle.rbd_kinds.specs.declared.layout.Extent.{Extent}
use Rattle.rbd_kinds.specs.declared.layout.Part.{Part}
use Rattle.rbd_kinds.specs.declared.operation.Op.TheVariants as op
use Rattle.rbd_commands.specs.declared.refusal.Refusal.{Refusal}
use Rattle.rbd_commands.specs.declared.refusal.Refusal.TheVariants as refusal
use Rattle.rbd_kinds.specs.declared.reply.Reply.{Reply}
use Rattle.rbd_kinds.specs.declared.reply.Reply.TheVariants as reply
use Rattle.rbd_layout.specs.Pieces.{pieces_of}
use Rattle.rbd_layout.specs.declared.types.Piece.{Piece}
use Rattle.rbd_kinds.specs.Parts.{parts_len}
use Rattle.rbd_header.specs.Header.{view_of}
use Rattle.rbd_header.specs.declared.view.View.{View}
use Rattle.rbd_machine.specs.About.{look_up}
use Rattle.rbd_machine.specs.Objects.{data_read}
use Rattle.rbd_machine.specs.Passes.{steps_of_passes}
use Rattle.rbd_machine.specs.Path.{Answered, found, looked_at}
use Rattle.rbd_machine.specs.Refused.{never, IsRefused}
use Rattle.rbd_meaning.specs.Arrange.{bytes_of_extent}
use Rattle.rbd_meaning.specs.Range.{out_of_range}
use Rattle.rbd_pieces.specs.Pieces.{ArePieces}

-- ---- what it refuses: a snapshot that isn't listed, and an extent outside the view

abbrev pub view_refuses : Extent → Option View → Option Refusal
view_refuses e None = Some refusal.NoSnap
view_refuses e (Some view) = out_of_range e view.size

abbrev pub read_refuses : (snap : Option (List ℕ)) → Extent → HeaderView → Option Refusal
read_refuses snap e h = view_refuses e (view_of h snap)

-- ---- a pass

-- what an answer shows of the parts of an object
abbrev pub bytes_shown : List Part → Answer → Option (List ℕ)
bytes_shown parts (answer.Bytes bytes) = Some bytes
bytes_shown parts answer.Absent = Some (replicate (parts_len parts) 0)
bytes_shown parts a = None

-- a piece was read at a view, and the answer shows its bytes
pub record IsShown (site : SiteId) (image : ℕ) (snap : Option ℕ) (p : Piece) (steps : List Answered) : Type 0 where
  pub answer : Answer
  pub bytes : List ℕ
  pub shown : bytes_shown p.parts answer ≡ Some bytes
  pub are : steps ≡ record { site = site; op = data_read image snap p; answer = answer } ∷ []

-- the pieces were read at a view, one after another, and each was shown
abbrev pub AreRead : SiteId → (image : ℕ) → (snap : Option ℕ) → List Piece → List Answered → Type 0
AreRead site image snap pieces steps = ArePieces (IsShown site image snap) pieces steps

-- the bytes that the pieces showed, one piece after another
abbrev pub bytes_read : (site : SiteId) (image : ℕ) (snap : Option ℕ) (pieces : List Piece) (steps : List Answered)
    → AreRead site image snap pieces steps → List ℕ
bytes_read site image snap [] steps read = []
bytes_read site image snap (p ∷ pieces) steps read =
    read.is_first.bytes ++ bytes_read site image snap pieces read.others read.are_others

-- The request found its image and looked at the header, by which the extent fits into the view; it
-- read each piece of the extent there; and it looked again, and was told this.
pub record IsPassTo (site : SiteId) (name : List ℕ) (snap : Option (List ℕ)) (e : Extent) (steps : List Answered)
    (closing : Answer) : Type 0 where
  pub image : ℕ
  pub first : HeaderView
  pub view : View
  pub reads : List Answered
  pub viewed : view_of first snap ≡ Some view
  pub fits : out_of_range e view.size ≡ None
  pub are :
      steps
      ≡ found site name image ∷ looked_at site image first ∷
      (reads ++ record { site = site; op = op.Header image header.Get; answer = closing } ∷ [])
  pub read : AreRead site image view.snap (pieces_of first.layout e) reads

-- The closing look was told a header with the same generation. The bytes are what the pass read.
pub record ShowsBetween (site : SiteId) (name : List ℕ) (snap : Option (List ℕ)) (e : Extent) (steps : List Answered)
    (bytes : List ℕ) : Type 0 where
  pub closing : HeaderView
  pub pass : IsPassTo site name snap e steps (answer.Header closing)
  pub same : closing.generation ≡ pass.first.generation
  pub shows :
      bytes
      ≡ bytes_of_extent pass.first.layout e
      (bytes_read site pass.image pass.view.snap (pieces_of pass.first.layout e) pass.reads pass.read)

-- ---- beginning again

-- the header is gone, or has another generation
abbrev pub IsOther : (generation : ℕ) → Answer → Type 0
IsOther generation (answer.Header h) = h.generation ≡ generation → ⊥
IsOther generation answer.Absent = Unit {0}
IsOther generation _ = ⊥

-- The closing look was told another header, or none, and the read begins again.
pub record SeesAnother (site : SiteId) (name : List ℕ) (snap : Option (List ℕ)) (e : Extent)
    (steps : List Answered) : Type 0 where
  pub closing : Answer
  pub pass : IsPassTo site name snap e steps closing
  pub other : IsOther pass.first.generation closing

abbrev pub SeeOthers : SiteId → (name : List ℕ) → (snap : Option (List ℕ)) → Extent → (passes : List (List Answered))
    → Type 0
SeeOthers site name snap e [] = Unit {0}
SeeOthers site name snap e (pass ∷ passes) = SeesAnother site name snap e pass × SeeOthers site name snap e passes

-- ---- what its replies mean

-- However often the read began again, it shows what its last pass did.
pub record ShowsAtLast (site : SiteId) (name : List ℕ) (snap : Option (List ℕ)) (e : Extent) (steps : List Answered)
    (bytes : List ℕ) : Type 0 where
  pub passes : List (List Answered)
  pub pass : List Answered
  pub are : steps ≡ steps_of_passes passes ++ pass
  pub before : SeeOthers site name snap e passes
  pub shows : ShowsBetween site name snap e pass bytes

-- However often the read began again, its last pass refused it: at its first look at the latest,
-- but for the fence, which may come at any time.
pub record RefusedAtLast (site : SiteId) (name : List ℕ) (snap : Option (List ℕ)) (e : Extent) (steps : List Answered)
    (x : Refusal) : Type 0 where
  pub passes : List (List Answered)
  pub pass : List Answered
  pub are : steps ≡ steps_of_passes passes ++ pass
  pub before : SeeOthers site name snap e passes
  pub by : IsRefused site (look_up name) (read_refuses snap e) never pass x
  pub early : (x ≡ refusal.Fenced → ⊥) → length pass ≤ 2

abbrev pub ReadMeans : SiteId → (image : List ℕ) → (snap : Option (List ℕ)) → Extent → List Answered → Reply → Type 0
ReadMeans site image snap e steps (reply.Bytes bytes) = ShowsAtLast site image snap e steps bytes
ReadMeans site image snap e steps (reply.Refused x) = RefusedAtLast site image snap e steps x
ReadMeans site image snap e steps _ = ⊥

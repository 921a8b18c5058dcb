-- A write waits for its turns at the objects of its pieces.
use Rattle.std.proofs.Common.{ℕ, List, [], ◌∷◌, refl}
use Rattle.rbd_kinds.specs.declared.answer.Answer.{Answer}
use Rattle.rbd_kinds.specs.declared.answer.Answer.TheVariants as answer
use Rattle.rbd_kinds.specs.declared.header.HeaderView.{HeaderView}
use Rattle.rbd_kinds.specs.declared.id.SiteId.{SiteId}
use Rattle.rbd_header.specs.Header.{context_of}
use Rattle.rbd_layout.specs.declared.types.Piece.{Piece}
use Rattle.rbd_parts.specs.Parts.{bytes_for}
use Rattle.rbd_machine.specs.Label.{Label}
use Rattle.rbd_machine.specs.Plan.{Plan}
use Rattle.rbd_machine.specs.Steps.{applied, on_done}
use Rattle.rbd_machine.specs.Turns.{AreTurns}
use Rattle.rbd_pieces.specs.Write.{writing}
use Rattle.rbd_data.specs.Write.{write_pieces, objects_of}

turns_on_done : (left : Label → List ℕ) (next : Plan) (objects : List ℕ) → AreTurns left next objects → (a : Answer) → AreTurns left (on_done next a) objects
turns_on_done left next objects are answer.Done = are
turns_on_done left next objects are answer.Fenced = tt
turns_on_done left next objects are _ = tt

pub turns_of_pieces : (left : Label → List ℕ) (pieces : List Piece) (site : SiteId) (image : ℕ) (h : HeaderView) (at : ℕ) (bytes : List ℕ)
    → AreTurns left (write_pieces site image h at bytes pieces (applied site image)) (objects_of pieces)
turns_of_pieces left [] site image h at bytes = refl
turns_of_pieces left (p ∷ pieces) site image h at bytes =
    let put = bytes_for p.parts at bytes in
    let next = write_pieces site image h at bytes pieces (applied site image) in
    (refl, turns_on_done left (writing site image (context_of h) p put next) (objects_of pieces) (turns_on_done left next (objects_of pieces) (turns_of_pieces left pieces site image h at bytes)))

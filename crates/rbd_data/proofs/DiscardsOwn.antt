-- The operations of a discard are its own.
use Rattle.std.proofs.Common.{ℕ, Bool, true, false, List, [], ◌∷◌, refl}
use Rattle.rbd_kinds.specs.declared.sharing.Sharing.TheVariants as sharing
use Rattle.rbd_kinds.specs.declared.header.HeaderView.{HeaderView}
use Rattle.rbd_kinds.specs.declared.header.SnapContext.{SnapContext}
use Rattle.rbd_kinds.specs.declared.id.SiteId.{SiteId}
use Rattle.rbd_kinds.specs.declared.layout.Extent.{Extent}
use Rattle.rbd_kinds.specs.declared.machine.Fed.{Fed}
use Rattle.rbd_layout.specs.Pieces.{pieces_of}
use Rattle.rbd_layout.specs.declared.types.Piece.{Piece}
use Rattle.rbd_header.specs.Header.{context_of}
use Rattle.rbd_machine.specs.About.{AreOwn, look_up}
use Rattle.rbd_machine.specs.Path.{Answered, IsWalk}
use Rattle.rbd_machine.specs.Plan.{Plan, Goto}
use Rattle.rbd_machine.specs.Steps.{on_id, joining, applied}
use Rattle.rbd_machine.proofs.About.{IsOfImage, of_on_done, of_joining, by_on_id, are_own}
use Rattle.rbd_meaning.specs.Writes.{write_refuses}
use Rattle.rbd_pieces.specs.Zero.{emptying, is_inside, is_whole, removing, setting, zero_by, zeroing}
use Rattle.rbd_data.specs.Discard.{discard, zero, zero_in_turns}

module _ (site : SiteId) (image : ℕ) where
  of_piece : (whole inside : Bool) (context : SnapContext) (p : Piece) (next : Plan) → IsOfImage site image next → IsOfImage site image (zero_by site image context p whole inside next)
  of_piece false false context p next of = (refl, refl, of_on_done site image next of)
  of_piece false true context p next of = (refl, refl, of_on_done site image (zeroing site image context p true next) (refl, refl, of_on_done site image next of))
  of_piece true false context p next of = (
    refl,
    refl,
    of_on_done site image (removing site image context p (setting site image context p 0 next))
        (refl, refl, of_on_done site image (setting site image context p 0 next) (refl, refl, of_on_done site image next of)),
  )
  of_piece true true context p next of = (refl, refl, of_on_done site image (emptying site image context p next) (refl, refl, of_on_done site image next of))

  of_pieces : (pieces : List Piece) (h : HeaderView) → IsOfImage site image (zero_in_turns site image h pieces (applied site image))
  of_pieces [] h = tt
  of_pieces (p ∷ pieces) h = of_piece (is_whole h p) (is_inside h p.object) (context_of h) p (zero_in_turns site image h pieces (applied site image)) (of_pieces pieces h)

pub discard_is_own : (site : SiteId) (name : List ℕ) (e : Extent) (feds : List Fed) (steps : List Answered) (last : Plan) → IsWalk Goto (discard site name e) feds steps last → AreOwn site (look_up name) steps
discard_is_own site name e feds steps last walk =
    let way = joining site sharing.Discard (write_refuses e) (zero site e) in
    are_own site (look_up name) (on_id way)
    (by_on_id site way (λ image. of_joining site image sharing.Discard (write_refuses e) (zero site e) (λ h. of_pieces site image (pieces_of h.layout e) h)))
    feds steps last walk

-- The operations of requests are their own.
use Rattle.std.proofs.Common.{ℕ, List, [], ◌∷◌, Bool, true, false, cond, eqb, Option, Some, None, refl}
use Rattle.rbd_kinds.specs.declared.sharing.Sharing.TheVariants as sharing
use Rattle.rbd_kinds.specs.declared.answer.Answer.{Answer}
use Rattle.rbd_kinds.specs.declared.answer.Answer.TheVariants as answer
use Rattle.rbd_kinds.specs.declared.header.HeaderView.{HeaderView}
use Rattle.rbd_kinds.specs.declared.id.SiteId.{SiteId}
use Rattle.rbd_kinds.specs.declared.layout.Extent.{Extent}
use Rattle.rbd_kinds.specs.declared.machine.Fed.{Fed}
use Rattle.rbd_kinds.specs.declared.reply.Reply.TheVariants as reply
use Rattle.rbd_layout.specs.Pieces.{pieces_of}
use Rattle.rbd_layout.specs.declared.types.Piece.{Piece}
use Rattle.rbd_parts.specs.Parts.{bytes_for}
use Rattle.rbd_header.specs.Header.{view_of}
use Rattle.rbd_header.specs.declared.view.View.{View}
use Rattle.rbd_machine.specs.About.{AreOwn, look_up}
use Rattle.rbd_machine.specs.Label as label
use Rattle.rbd_machine.specs.Path.{Answered, IsWalk}
use Rattle.rbd_machine.specs.Plan.{Plan, Return, Goto}
use Rattle.rbd_machine.specs.Steps.{on_id, joining, applied}
use Rattle.rbd_machine.proofs.About.{IsOfImage, of_not_there, of_on_header, of_unless, of_joining, by_on_id, are_own}
use Rattle.rbd_meaning.specs.Range.{extent_at, out_of_range}
use Rattle.rbd_meaning.specs.Writes.{write_refuses}
use Rattle.rbd_pieces.proofs.About.{of_write, of_gather}
use Rattle.rbd_data.specs.Read.{pass, looking, read_by_header, viewing, gathering, closing, on_closing}
use Rattle.rbd_data.specs.Seen.{Seen, seen_at, shown_bytes}
use Rattle.rbd_data.specs.Write.{put_plan, write, write_pieces}

module _ (site : SiteId) (name : List ℕ) where
  -- ---- writes

  of_pieces : (pieces : List Piece) (image : ℕ) (h : HeaderView) (at : ℕ) (bytes : List ℕ) → IsOfImage site image (write_pieces site image h at bytes pieces (applied site image))
  of_pieces [] image h at bytes = tt
  of_pieces (p ∷ pieces) image h at bytes =
      of_write site image h p (bytes_for p.parts at bytes) (write_pieces site image h at bytes pieces (applied site image)) (of_pieces pieces image h at bytes)

  pub write_is_own : (at : ℕ) (bytes : List ℕ) (feds : List Fed) (steps : List Answered) (last : Plan) → IsWalk Goto (write site name at bytes) feds steps last → AreOwn site (look_up name) steps
  write_is_own at bytes feds steps last walk =
      let way = joining site sharing.Shared (write_refuses (extent_at at bytes)) (put_plan site at bytes) in
      are_own site (look_up name) (on_id way)
      (by_on_id site way (λ image. of_joining site image sharing.Shared (write_refuses (extent_at at bytes)) (put_plan site at bytes) (λ h. of_pieces (pieces_of h.layout (extent_at at bytes)) image h at bytes)))
      feds steps last walk

  -- ---- reads

  of_closing : (image : ℕ) (seen : Seen) (read : List ℕ) (a : Answer) → IsOfImage site image (on_closing seen read a)
  of_closing image seen read (answer.Header h) = go (eqb h.generation seen.generation)
    where
      go : (b : Bool) → IsOfImage site image (cond b (Return (reply.Bytes (shown_bytes seen read))) (Goto label.Begin))
      go true = tt
      go false = tt
  of_closing image seen read answer.Absent = tt
  of_closing image seen read a = of_not_there site image a

  of_viewing : (e : Extent) (image : ℕ) (h : HeaderView) (view : Option View) → IsOfImage site image (viewing site image h e view)
  of_viewing e image h None = tt
  of_viewing e image h (Some view) =
      of_unless site image (out_of_range e view.size) (gathering site image h e view)
      (of_gather site image (pieces_of h.layout e) view.snap [] (closing site image (seen_at h e)) (λ read. (refl, refl, of_closing image (seen_at h e) read)))

  pub pass_is_own : (snap : Option (List ℕ)) (e : Extent) (feds : List Fed) (steps : List Answered) (last : Plan) → IsWalk Goto (pass site name snap e) feds steps last → AreOwn site (look_up name) steps
  pass_is_own snap e feds steps last walk =
      are_own site (look_up name) (on_id (looking site snap e))
      (by_on_id site (looking site snap e) (λ image. (refl, refl, of_on_header site image (read_by_header site snap e image) (λ h. of_viewing e image h (view_of h snap)))))
      feds steps last walk

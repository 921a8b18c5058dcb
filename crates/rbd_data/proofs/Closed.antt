-- The labels of requests stand at operations.
use Rattle.std.proofs.Common.{ℕ, List, [], ◌∷◌, replicate, Bool, true, false, cond, eqb, Option, Some, None}
use Rattle.rbd_kinds.specs.declared.sharing.Sharing.TheVariants as sharing
use Rattle.rbd_kinds.specs.declared.answer.Answer.{Answer}
use Rattle.rbd_kinds.specs.declared.answer.Answer.TheVariants as answer
use Rattle.rbd_commands.specs.declared.command.Command.{Command}
use Rattle.rbd_commands.specs.declared.command.Command.TheVariants as command
use Rattle.rbd_kinds.specs.declared.header.HeaderView.{HeaderView}
use Rattle.rbd_kinds.specs.declared.id.SiteId.{SiteId}
use Rattle.rbd_kinds.specs.declared.layout.Extent.{Extent}
use Rattle.rbd_kinds.specs.declared.reply.Reply.TheVariants as reply
use Rattle.rbd_layout.specs.Pieces.{pieces_of}
use Rattle.rbd_layout.specs.declared.types.Piece.{Piece}
use Rattle.rbd_parts.specs.Parts.{bytes_for}
use Rattle.rbd_header.specs.Header.{view_of}
use Rattle.rbd_header.specs.declared.view.View.{View}
use Rattle.rbd_machine.specs.Label as label
use Rattle.rbd_machine.specs.Plan.{Return, Goto, IsClosed}
use Rattle.rbd_machine.specs.Steps.{applied}
use Rattle.rbd_machine.proofs.Closed.{closed_not_there, closed_on_id, closed_on_header, closed_unless, closed_change}
use Rattle.rbd_meaning.specs.Range.{extent_at, out_of_range}
use Rattle.rbd_meaning.specs.Writes.{write_refuses}
use Rattle.rbd_pieces.proofs.Closed.{closed_write, closed_gather}
use Rattle.rbd_data.specs.Read.{pass, read_labels, looking, read_by_header, viewing, gathering, closing, on_closing}
use Rattle.rbd_data.specs.Seen.{Seen, seen_at, shown_bytes}
use Rattle.rbd_data.specs.Write.{put_plan, write, write_pieces, write_plan}

-- ---- writes

closed_pieces : (pieces : List Piece) (site : SiteId) (image : ℕ) (h : HeaderView) (at : ℕ) (bytes : List ℕ) → IsClosed Goto (write_pieces site image h at bytes pieces (applied site image))
closed_pieces [] site image h at bytes = tt
closed_pieces (p ∷ pieces) site image h at bytes =
    closed_write Goto site image h p (bytes_for p.parts at bytes) (write_pieces site image h at bytes pieces (applied site image)) (closed_pieces pieces site image h at bytes)

pub closed_write_request : (site : SiteId) (name : List ℕ) (at : ℕ) (bytes : List ℕ) → IsClosed Goto (write site name at bytes)
closed_write_request site name at bytes =
    closed_change Goto site name sharing.Shared (write_refuses (extent_at at bytes)) (put_plan site at bytes) (λ image h. closed_pieces (pieces_of h.layout (extent_at at bytes)) site image h at bytes)

pub closed_write_plan : (site : SiteId) (c : Command) → IsClosed Goto (write_plan site c)
closed_write_plan site (command.Write image at bytes) = closed_write_request site image at bytes
closed_write_plan site (command.Fill image at len byte) = closed_write_request site image at (replicate len byte)
closed_write_plan site _ = tt

-- ---- reads

module _ (site : SiteId) (name : List ℕ) (snap : Option (List ℕ)) (e : Extent) where
  closed_closing : (seen : Seen) (read : List ℕ) (a : Answer) → IsClosed (read_labels site name snap e) (on_closing seen read a)
  closed_closing seen read (answer.Header h) = go (eqb h.generation seen.generation)
    where
      go : (b : Bool) → IsClosed (read_labels site name snap e) (cond b (Return (reply.Bytes (shown_bytes seen read))) (Goto label.Begin))
      go true = tt
      go false = tt
  closed_closing seen read answer.Absent = tt
  closed_closing seen read a = closed_not_there (read_labels site name snap e) a

  closed_viewing : (image : ℕ) (h : HeaderView) (view : Option View) → IsClosed (read_labels site name snap e) (viewing site image h e view)
  closed_viewing image h None = tt
  closed_viewing image h (Some view) =
      closed_unless (read_labels site name snap e) (out_of_range e view.size) (gathering site image h e view)
      (closed_gather (read_labels site name snap e) (pieces_of h.layout e) site image view.snap [] (closing site image (seen_at h e)) (closed_closing (seen_at h e)))

  pub closed_pass : IsClosed (read_labels site name snap e) (pass site name snap e)
  closed_pass =
      closed_on_id (read_labels site name snap e) (looking site snap e) (λ image.
      closed_on_header (read_labels site name snap e) (read_by_header site snap e image) (λ h. closed_viewing image h (view_of h snap)))

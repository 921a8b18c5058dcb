-- How many operations requests have.
use Rattle.std.proofs.Common.{◌≡◌, ℕ, ◌+◌, ◌≤◌, suc, List, [], ◌∷◌, length, Bool, true, false, cond, eqb, Option, Some, None, subst, ◌*◌, add-mul, arith}
use Rattle.rbd_kinds.specs.declared.sharing.Sharing.TheVariants as sharing
use Rattle.rbd_kinds.specs.declared.answer.Answer.TheVariants as answer
use Rattle.rbd_kinds.specs.declared.header.HeaderView.{HeaderView}
use Rattle.rbd_kinds.specs.declared.id.SiteId.{SiteId}
use Rattle.rbd_kinds.specs.declared.layout.Extent.{Extent}
use Rattle.rbd_kinds.specs.declared.machine.Fed.{Fed}
use Rattle.rbd_kinds.specs.declared.reply.Reply.TheVariants as reply
use Rattle.rbd_layout.specs.Pieces.{pieces_of}
use Rattle.rbd_layout.specs.declared.types.Piece.{Piece}
use Rattle.rbd_parts.specs.Parts.{bytes_for}
use Rattle.rbd_header.specs.Header.{view_of}
use Rattle.rbd_header.specs.declared.view.View.{View}
use Rattle.rbd_machine.specs.Path.{Answered, IsBounded, IsWalk}
use Rattle.rbd_machine.specs.Plan.{Plan, Return, Goto}
use Rattle.rbd_machine.specs.Label as label
use Rattle.rbd_machine.specs.Passes.{jumps}
use Rattle.rbd_machine.proofs.Passed.{walk_bounded}
use Rattle.rbd_machine.specs.Steps.{applied}
use Rattle.rbd_machine.proofs.Bounds.{bounded_change, bounded_more, bounded_on_id, bounded_on_header, bounded_unless}
use Rattle.rbd_meaning.specs.Range.{extent_at, out_of_range}
use Rattle.rbd_meaning.specs.Writes.{write_refuses}
use Rattle.rbd_pieces.proofs.Bounded.{bounded_write, bounded_gather}
use Rattle.rbd_data.specs.Read.{pass, read_labels, looking, read_by_header, viewing, gathering, closing}
use Rattle.rbd_data.specs.Seen.{Seen, seen_at, shown_bytes}
use Rattle.rbd_data.specs.Write.{put_plan, write, write_pieces}

-- ---- writes

bounded_pieces : (pieces : List Piece) (site : SiteId) (image : ℕ) (h : HeaderView) (at : ℕ) (bytes : List ℕ) → IsBounded (write_pieces site image h at bytes pieces (applied site image)) (2 * length pieces)
bounded_pieces [] site image h at bytes = tt
bounded_pieces (p ∷ pieces) site image h at bytes =
    let two_more : suc (suc (2 * length pieces)) ≡ 2 * length (p ∷ pieces) = omega arith in
    subst (IsBounded (write_pieces site image h at bytes (p ∷ pieces) (applied site image))) two_more
    (bounded_write site image h p (bytes_for p.parts at bytes) (write_pieces site image h at bytes pieces (applied site image)) (2 * length pieces) (bounded_pieces pieces site image h at bytes))

pub bounded_put : (site : SiteId) (at : ℕ) (bytes : List ℕ) (image : ℕ) (h : HeaderView) → IsBounded (put_plan site at bytes image h) (2 * length (pieces_of h.layout (extent_at at bytes)))
bounded_put site at bytes image h = bounded_pieces (pieces_of h.layout (extent_at at bytes)) site image h at bytes

pub bounded_write_request : (site : SiteId) (name : List ℕ) (at : ℕ) (bytes : List ℕ) (most : ℕ) → ((h : HeaderView) → length (pieces_of h.layout (extent_at at bytes)) ≤ most) → IsBounded (write site name at bytes) (2 * most + 3)
bounded_write_request site name at bytes most few =
    let three_more : suc (suc (suc (2 * most))) ≡ 2 * most + 3 = omega arith in
    subst (IsBounded (write site name at bytes)) three_more
    (bounded_change site (write_refuses (extent_at at bytes)) (put_plan site at bytes) (2 * most)
    (λ image h.
    let n = length (pieces_of h.layout (extent_at at bytes)) in
    let less : n ≤ most = few h in
    bounded_more (put_plan site at bytes image h) (2 * n) (2 * most) (omega arith) (bounded_put site at bytes image h)) name sharing.Shared)

-- ---- reads

pub bounded_closing : (site : SiteId) (image : ℕ) (seen : Seen) (read : List ℕ) → IsBounded (closing site image seen read) 1
bounded_closing site image seen read (answer.Header h) = go (eqb h.generation seen.generation)
  where
    go : (b : Bool) → IsBounded (cond b (Return (reply.Bytes (shown_bytes seen read))) (Goto label.Begin)) 0
    go true = tt
    go false = tt
bounded_closing site image seen read answer.Absent = tt
bounded_closing site image seen read answer.Fenced = tt
bounded_closing site image seen read _ = tt

bounded_viewing : (site : SiteId) (image : ℕ) (h : HeaderView) (e : Extent) (view : Option View) (most : ℕ) → length (pieces_of h.layout e) ≤ most → IsBounded (viewing site image h e view) (suc most)
bounded_viewing site image h e None most few = tt
bounded_viewing site image h e (Some view) most few =
    bounded_unless (out_of_range e view.size) (gathering site image h e view) (suc most)
    (bounded_more (gathering site image h e view) (1 + length (pieces_of h.layout e)) (suc most) (omega arith)
    (bounded_gather (pieces_of h.layout e) site image view.snap [] (closing site image (seen_at h e)) 1 (bounded_closing site image (seen_at h e))))

pub bounded_pass : (site : SiteId) (name : List ℕ) (snap : Option (List ℕ)) (e : Extent) (most : ℕ) → ((h : HeaderView) → length (pieces_of h.layout e) ≤ most) → IsBounded (pass site name snap e) (most + 3)
bounded_pass site name snap e most few =
    let three_more : suc (suc (suc most)) ≡ most + 3 = omega arith in
    subst (IsBounded (pass site name snap e)) three_more
    (bounded_on_id (looking site snap e) (suc (suc most))
    (λ image. bounded_on_header (read_by_header site snap e image) (suc most) (λ h. bounded_viewing site image h e (view_of h snap) most (few h))))

pub bounded_read : (site : SiteId) (name : List ℕ) (snap : Option (List ℕ)) (e : Extent) (most : ℕ) (feds : List Fed) (steps : List Answered) (last : Plan)
    → ((h : HeaderView) → length (pieces_of h.layout e) ≤ most) → IsWalk (read_labels site name snap e) (pass site name snap e) feds steps last
    → length steps ≤ (1 + jumps (read_labels site name snap e) (pass site name snap e) feds) * (most + 3)
bounded_read site name snap e most feds steps last few walk =
    let n = most + 3 in
    let again = jumps (read_labels site name snap e) (pass site name snap e) feds in
    let one = bounded_pass site name snap e most few in
    let short : length steps ≤ n + again * n = walk_bounded (read_labels site name snap e) n (λ label. one) feds (pass site name snap e) n steps last one walk in
    let each : (1 + again) * n ≡ 1 * n + again * n = add-mul 1 again n in
    omega arith

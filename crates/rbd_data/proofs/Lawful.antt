-- The plans do what they may.
use Rattle.std.proofs.Common.{◌≡◌, ℕ, ◌+◌, ◌-◌, List, [], ◌∷◌, length, map, replicate, All, Bool, true, false, cond, eqb, Option, Some, None, refl, ap, sym, subst, ◌∙◌, arith}
use Rattle.std.proofs.lemmas.List.{length-append}
use Rattle.std.proofs.lemmas.List.Elements.{All-head, All-tail}
use Rattle.rbd_kinds.specs.declared.sharing.Sharing.TheVariants as sharing
use Rattle.rbd_kinds.specs.declared.answer.Answer.{Answer}
use Rattle.rbd_kinds.specs.declared.answer.Answer.TheVariants as answer
use Rattle.rbd_commands.specs.declared.command.Command.{Command}
use Rattle.rbd_commands.specs.declared.command.Command.TheVariants as command
use Rattle.rbd_kinds.specs.declared.directory_op.DirectoryOp.TheVariants as directory
use Rattle.rbd_kinds.specs.declared.header.HeaderView.{HeaderView}
use Rattle.rbd_kinds.specs.declared.header_op.HeaderOp.TheVariants as header
use Rattle.rbd_kinds.specs.declared.id.SiteId.{SiteId}
use Rattle.rbd_kinds.specs.declared.layout.Extent.{Extent}
use Rattle.rbd_kinds.specs.declared.layout.Part.{Part}
use Rattle.rbd_kinds.specs.declared.operation.Op.TheVariants as op
use Rattle.rbd_kinds.specs.declared.reply.Reply.TheVariants as reply
use Rattle.rbd_kinds.specs.Parts.{parts_len}
use Rattle.rbd_layout.specs.Pieces.{pieces_of}
use Rattle.rbd_layout.specs.declared.types.Piece.{Piece}
use Rattle.rbd_parts.specs.Contents.{window}
use Rattle.rbd_parts.specs.Parts.{bytes_for, parts_of, shifted}
use Rattle.rbd_parts.proofs.ContentsLemmas.{length-window}
use Rattle.rbd_header.specs.Header.{context_of, view_of}
use Rattle.rbd_header.specs.declared.view.View.{View}
use Rattle.rbd_machine.specs.Knowledge.{Knowledge, nothing_known, learned, learned_own, known_after_wait}
use Rattle.rbd_machine.specs.Label.{Label}
use Rattle.rbd_machine.specs.Label as label
use Rattle.rbd_machine.specs.Lawful.{IsLawful, IsLawfulRequest}
use Rattle.rbd_machine.specs.Objects.{data_write, map_exists}
use Rattle.rbd_machine.specs.Plan.{Return, Goto, Standing}
use Rattle.rbd_machine.specs.Steps.{applied, non_primary}
use Rattle.rbd_machine.specs.Wait as wait
use Rattle.rbd_machine.proofs.AtLeast.{jump_lawful, lawful_by_more, learned_at_least}
use Rattle.rbd_machine.proofs.Lawful.{under_lock_known, own_is_found, or_else_none, lawful_not_there, lawful_look, lawful_on_id, lawful_unless, lawful_change}
use Rattle.rbd_meaning.specs.Range.{extent_at, out_of_range}
use Rattle.rbd_meaning.specs.Writes.{write_refuses}
use Rattle.rbd_pieces.proofs.Lawful.{lawful_write, lawful_gather}
use Rattle.rbd_pieces.specs.Known.{OwnsByHeader, IsPieceOf}
use Rattle.rbd_pieces.proofs.Below.{pieces_below}
use Rattle.rbd_pieces.proofs.ZerosLawful.{may_raise, raised_last}
use Rattle.rbd_data.specs.Read.{IsReadOf, pass, looking, read_by_header, viewing, gathering, closing, on_closing}
use Rattle.rbd_data.specs.Seen.{Seen, seen_at, shown_bytes}
use Rattle.rbd_data.specs.Write.{put_plan, write, write_pieces, write_plan}
use Rattle.rbd_data.proofs.Writes.{within_size}

-- ---- the pieces of a write

-- as many bytes as the parts have
long_enough : (parts : List Part) (from : ℕ) (bytes : List ℕ) → length (bytes_for parts from bytes) ≡ parts_len parts
long_enough [] from bytes = refl
long_enough (p ∷ parts) from bytes =
    length-append (window bytes (p.at - from) p.len) (parts_of (map (shifted from) parts) bytes)
    ∙ ap (λ n. n + length (parts_of (map (shifted from) parts) bytes)) (length-window bytes (p.at - from) p.len)
    ∙ ap (λ n. p.len + n) (long_enough parts from bytes)

module _ (known_at : Label → Knowledge) where
  -- from anything known by which it owns the image
  lawful_pieces : (pieces : List Piece) (k : Knowledge) (site : SiteId) (image : ℕ) (h : HeaderView) (at : ℕ) (bytes : List ℕ) → OwnsByHeader k site image sharing.Shared h → All (IsPieceOf h) pieces
      → IsLawful known_at k (write_pieces site image h at bytes pieces (applied site image))
  lawful_pieces [] k site image h at bytes owns below = tt
  lawful_pieces (p ∷ pieces) k site image h at bytes owns below =
      let turned = known_after_wait k (wait.Turn p.object) in
      let raised = learned turned site (map_exists image p.object) answer.Done in
      let put = bytes_for p.parts at bytes in
      let is = All-head (IsPieceOf h) p pieces below in
      lawful_write known_at turned site image h p put (write_pieces site image h at bytes pieces (applied site image))
      (may_raise site image h p is sharing.Shared turned owns refl 0 (omega arith))
      (record {
        sharing = sharing.Shared;
        header = h;
        is = owns;
        meets = record { under = refl; within = is.parts; long = long_enough p.parts at bytes; at_turn = refl; raised = raised_last turned site image p.object };
      })
      (lawful_pieces pieces (learned raised site (data_write image (context_of h) p put) answer.Done) site image h at bytes owns (All-tail (IsPieceOf h) p pieces below))

  lawful_write_request : (site : SiteId) (name : List ℕ) (at : ℕ) (bytes : List ℕ) → IsLawful known_at nothing_known (write site name at bytes)
  lawful_write_request site name at bytes =
      lawful_change known_at site name sharing.Shared (write_refuses (extent_at at bytes)) (put_plan site at bytes) (λ image h form may.
      lawful_pieces (pieces_of h.layout (extent_at at bytes)) (under_lock_known sharing.Shared None site image h) site image h at bytes (own_is_found sharing.Shared None site image h)
      (pieces_below h (extent_at at bytes) form.layout (within_size (extent_at at bytes) h.size (or_else_none (non_primary h.role) (out_of_range (extent_at at bytes) h.size) may))))

  pub lawful_write_plan : (site : SiteId) (c : Command) → IsLawful known_at nothing_known (write_plan site c)
  lawful_write_plan site (command.Write image at bytes) = lawful_write_request site image at bytes
  lawful_write_plan site (command.Fill image at len byte) = lawful_write_request site image at (replicate len byte)
  lawful_write_plan site _ = tt

-- ---- reads: where they begin again nothing is known

abbrev pub nothing_at : Label → Knowledge
nothing_at label = nothing_known

lawful_closing : (site : SiteId) (image : ℕ) (seen : Seen) (read : List ℕ) (a : Answer) → IsLawful nothing_at (learned_own nothing_known site (op.Header image header.Get) a) (on_closing seen read a)
lawful_closing site image seen read (answer.Header h) = go (eqb h.generation seen.generation)
  where
    go : (b : Bool) → IsLawful nothing_at nothing_known (cond b (Return (reply.Bytes (shown_bytes seen read))) (Goto label.Begin))
    go true = tt
    go false = jump_lawful nothing_at label.Begin tt
lawful_closing site image seen read answer.Absent = jump_lawful nothing_at label.Begin tt
lawful_closing site image seen read a = lawful_not_there nothing_at (learned_own nothing_known site (op.Header image header.Get) a) a

lawful_viewing : (site : SiteId) (image : ℕ) (h : HeaderView) (e : Extent) (view : Option View) → IsLawful nothing_at nothing_known (viewing site image h e view)
lawful_viewing site image h e None = tt
lawful_viewing site image h e (Some view) =
    lawful_unless nothing_at nothing_known (out_of_range e view.size) (gathering site image h e view) (λ fits.
    lawful_gather nothing_at nothing_known (pieces_of h.layout e) site image view.snap [] (closing site image (seen_at h e)) (λ read. (
      tt,
      λ a can.
          lawful_by_more nothing_at (on_closing (seen_at h e) read a) (learned nothing_known site (op.Header image header.Get) a) (learned_own nothing_known site (op.Header image header.Get) a)
          (learned_at_least nothing_known site (op.Header image header.Get) a refl) (lawful_closing site image (seen_at h e) read a),
    )))

pub lawful_pass : (site : SiteId) (name : List ℕ) (snap : Option (List ℕ)) (e : Extent) → IsLawful nothing_at nothing_known (pass site name snap e)
lawful_pass site name snap e = (
  tt,
  λ found can. lawful_on_id nothing_at (learned nothing_known site (op.Directory (directory.Find name))) (looking site snap e) (λ image. (
    tt,
    lawful_look nothing_at site image nothing_known (read_by_header site snap e image) (λ h form standalone.
        lawful_viewing site image h e (view_of h snap)),
  )) found,
)

pub lawful_read : (site : SiteId) (c : Command) (standing : Standing) → IsReadOf site c standing → IsLawfulRequest standing
lawful_read site (command.Read image snap at len) standing is =
    subst IsLawfulRequest (sym is) (record {
      known_at = nothing_at;
      plan = lawful_pass site image snap (record { at = at; len = len });
      labels = λ label fit. lawful_pass site image snap (record { at = at; len = len });
    })
lawful_read site _ standing is = absurd is

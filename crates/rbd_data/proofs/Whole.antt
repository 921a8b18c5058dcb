-- A write that is done, step by step.
use Rattle.std.proofs.Common.{ℕ, List, [], ◌∷◌, refl, ap, ◌∙◌}
use Rattle.rbd_kinds.specs.declared.sharing.Sharing.TheVariants as sharing
use Rattle.rbd_kinds.specs.declared.header.HeaderView.{HeaderView}
use Rattle.rbd_kinds.specs.declared.id.SiteId.{SiteId}
use Rattle.rbd_kinds.specs.declared.journal.JournalEvent.TheVariants as event
use Rattle.rbd_kinds.specs.declared.machine.Fed.{Fed}
use Rattle.rbd_kinds.specs.declared.reply.Reply.TheVariants as reply
use Rattle.rbd_layout.specs.Pieces.{pieces_of}
use Rattle.rbd_layout.specs.declared.types.Piece.{Piece}
use Rattle.rbd_parts.specs.Parts.{bytes_for}
use Rattle.rbd_header.specs.Header.{context_of}
use Rattle.rbd_machine.specs.Path.{Answered, IsWalk}
use Rattle.rbd_machine.specs.Plan.{Return, Goto}
use Rattle.rbd_machine.specs.Wait as wait
use Rattle.rbd_machine.specs.declared.reason.Reason.TheVariants as reason
use Rattle.rbd_machine.specs.Steps.{on_done, applied}
use Rattle.rbd_machine.specs.Objects.{data_write, map_exists}
use Rattle.rbd_pieces.specs.Write.{write_piece, writing}
use Rattle.rbd_data.specs.Write.{put_plan, write, write_pieces}
use Rattle.rbd_machine.proofs.Walked.{ended, went_on, awaited, noted, told_done, changed}
use Rattle.rbd_meaning.specs.Range.{extent_at}
use Rattle.rbd_meaning.specs.Writes.{AreWritten, WritesWhole, state_raised, piece_written, write_refuses}

-- ---- the pieces

written : (pieces : List Piece) (site : SiteId) (image : ℕ) (h : HeaderView) (at : ℕ) (bytes : List ℕ) (feds : List Fed) (steps : List Answered)
    → IsWalk Goto (write_pieces site image h at bytes pieces (applied site image)) feds steps (Return reply.Done) → AreWritten site image h at bytes pieces steps
written [] site image h at bytes feds steps walk =
    let a = awaited (Return reply.Done) tt (wait.Applied site image) (Return reply.Done) feds steps walk in
    (ended reply.Done a.more steps (Return reply.Done) a.walk).0
written (p ∷ pieces) site image h at bytes feds steps walk =
    let next = write_pieces site image h at bytes pieces (applied site image) in
    let put = bytes_for p.parts at bytes in
    let later = writing site image (context_of h) p put next in
    let t = awaited (Return reply.Done) tt (wait.Turn p.object) (write_piece site image h p put next) feds steps walk in
    let r = went_on (Return reply.Done) tt site reason.Own (map_exists image p.object) (on_done later) t.more steps t.walk in
    let s = told_done (Return reply.Done) tt later r.answer r.more r.rest r.walk in
    let w = went_on (Return reply.Done) tt site reason.Own (data_write image (context_of h) p put) (on_done next) r.more r.rest s.walk in
    let d = told_done (Return reply.Done) tt next w.answer w.more w.rest w.walk in
    record {
      first = state_raised site image p ∷ piece_written site image h at bytes p ∷ [];
      others = w.rest;
      is_first = refl;
      are_others = written pieces site image h at bytes w.more w.rest d.walk;
      are =
          r.are ∙ ap (λ a. record { site = site; op = map_exists image p.object; answer = a } ∷ r.rest) s.is
          ∙ ap (λ steps. state_raised site image p ∷ steps) (w.are ∙ ap (λ a. record { site = site; op = data_write image (context_of h) p put; answer = a } ∷ w.rest) d.is);
    }

-- ---- the whole

pub write_is_whole : (site : SiteId) (name : List ℕ) (at : ℕ) (bytes : List ℕ) (feds : List Fed) (steps : List Answered)
    → IsWalk Goto (write site name at bytes) feds steps (Return reply.Done) → WritesWhole site name at bytes steps
write_is_whole site name at bytes feds steps walk =
    let c = changed (Return reply.Done) tt site name sharing.Shared (write_refuses (extent_at at bytes)) (put_plan site at bytes) feds steps walk in
    let pieces = pieces_of c.own.layout (extent_at at bytes) in
    let e = noted (Return reply.Done) tt site c.image (event.Write at bytes) (write_pieces site c.image c.own at bytes pieces (applied site c.image)) c.more c.rest c.walk in
    record {
      image = c.image;
      first = c.first;
      own = c.own;
      may_wait = c.may_wait;
      may = c.may;
      written = c.rest;
      are_written = written pieces site c.image c.own at bytes e.more c.rest e.walk;
      are = c.are;
    }

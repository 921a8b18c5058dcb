-- What a write has done when it is refused, step by step.
use Rattle.std.proofs.Common.{◌≡◌, ◌⊎◌, inl, inr, ℕ, List, [], ◌∷◌, ◌++◌, Option, Some, None, refl, ap, sym, subst, ◌∙◌}
use Rattle.rbd_kinds.specs.declared.sharing.Sharing.TheVariants as sharing
use Rattle.rbd_kinds.specs.declared.answer.Answer.{Answer}
use Rattle.rbd_kinds.specs.declared.answer.Answer.TheVariants as answer
use Rattle.rbd_kinds.specs.declared.header.HeaderView.{HeaderView}
use Rattle.rbd_kinds.specs.declared.header_op.HeaderOp.TheVariants as header
use Rattle.rbd_kinds.specs.declared.id.SiteId.{SiteId}
use Rattle.rbd_kinds.specs.declared.journal.JournalEvent.TheVariants as event
use Rattle.rbd_kinds.specs.declared.machine.Fed.{Fed}
use Rattle.rbd_kinds.specs.declared.operation.Op.{Op}
use Rattle.rbd_kinds.specs.declared.operation.Op.TheVariants as op
use Rattle.rbd_commands.specs.declared.refusal.Refusal.{Refusal}
use Rattle.rbd_kinds.specs.declared.reply.Reply.TheVariants as reply
use Rattle.rbd_layout.specs.Pieces.{pieces_of}
use Rattle.rbd_layout.specs.declared.types.Piece.{Piece}
use Rattle.rbd_parts.specs.Parts.{bytes_for}
use Rattle.rbd_header.specs.Header.{context_of}
use Rattle.rbd_machine.specs.About.{AreOwn, look_up}
use Rattle.rbd_machine.specs.Objects.{data_write, map_exists}
use Rattle.rbd_machine.specs.Path.{Answered, IsWalk, found, looked_at}
use Rattle.rbd_machine.specs.Plan.{Plan, Return, Goto}
use Rattle.rbd_machine.specs.Refused.{by_fence, AreLooks, IsRefusedBy}
use Rattle.rbd_machine.specs.Steps.{on_id, on_header, on_done, unless, joining, looking, looked, holding, under_lock, owned, applied}
use Rattle.rbd_machine.specs.Wait as wait
use Rattle.rbd_machine.specs.declared.reason.Reason.TheVariants as reason
use Rattle.rbd_machine.proofs.Walked.{ended, absent_ends, asked_to, awaited_to, noted_to}
use Rattle.rbd_meaning.specs.Range.{extent_at}
use Rattle.rbd_meaning.specs.Writes.{write_refuses, state_raised, piece_written, AreWritten, IsPieceBegun, WritesSome, RefusesWrite}
use Rattle.rbd_meaning.proofs.Ends.{same_front}
use Rattle.rbd_pieces.specs.Write.{write_piece, writing}
use Rattle.rbd_data.specs.Write.{put_plan, write, write_pieces}

-- up to a last operation it had only looked, or written its first pieces
pub record Stops (site : SiteId) (name : List ℕ) (at : ℕ) (bytes : List ℕ) (steps : List Answered) : Type 0 where
  pub before : List Answered
  pub last : Answered
  pub are : steps ≡ before ++ last ∷ []
  pub so_far : AreLooks before ⊎ WritesSome site name at bytes before

record PiecesStop (site : SiteId) (image : ℕ) (h : HeaderView) (at : ℕ) (bytes : List ℕ) (all : List Piece) (steps : List Answered) : Type 0 where
  pub written : List Piece
  pub left : List Piece
  pub begun : List Answered
  pub last : Answered
  pub pieces : all ≡ written ++ left
  pub is_begun : IsPieceBegun site image h at bytes left begun
  pub written_steps : List Answered
  pub are_written : AreWritten site image h at bytes written written_steps
  pub are : steps ≡ (written_steps ++ begun) ++ last ∷ []

module _ (x : Refusal) (site : SiteId) (name : List ℕ) (at : ℕ) (bytes : List ℕ) where
  abbrev Refused : Plan
  Refused = Return (reply.Refused x)

  abbrev refuses : HeaderView → Option Refusal
  refuses = write_refuses (extent_at at bytes)

  abbrev act : ℕ → HeaderView → Plan
  act = put_plan site at bytes

  refused_ends : (y : Refusal) (feds : List Fed) (steps : List Answered) → IsWalk Goto (Return (reply.Refused y)) feds steps Refused → steps ≡ []
  refused_ends y feds steps walk = (ended (reply.Refused y) feds steps Refused walk).0

  -- ---- the pieces

  abbrev bytes_of : Piece → List ℕ
  bytes_of p = bytes_for p.parts at bytes

  abbrev rest_of : (image : ℕ) → HeaderView → List Piece → Plan
  rest_of image h pieces = write_pieces site image h at bytes pieces (applied site image)

  abbrev asked : Op → Answer → Answered
  asked o a = record { site = site; op = o; answer = a }

  abbrev raise_of : (image : ℕ) → Piece → Op
  raise_of image p = map_exists image p.object

  abbrev write_of : (image : ℕ) → HeaderView → Piece → Op
  write_of image h p = data_write image (context_of h) p (bytes_of p)

  -- the piece whose state was raised
  piece_stops : (p : Piece) (pieces : List Piece) (image : ℕ) (h : HeaderView) (feds : List Fed) (rest steps : List Answered) → steps ≡ state_raised site image p ∷ rest
      → ((feds : List Fed) (steps : List Answered) → IsWalk Goto (rest_of image h pieces) feds steps Refused → PiecesStop site image h at bytes pieces steps)
      → IsWalk Goto (writing site image (context_of h) p (bytes_of p) (rest_of image h pieces)) feds rest Refused → PiecesStop site image h at bytes (p ∷ pieces) steps
  piece_stops p pieces image h feds rest steps raised on walk =
      let w = asked_to (reply.Refused x) site reason.Own (write_of image h p) (on_done (rest_of image h pieces)) feds rest walk in
      go w.answer w.more w.rest (raised ∙ ap (λ s. state_raised site image p ∷ s) w.are) w.walk
    where
      go : (a : Answer) (more : List Fed) (last : List Answered) → steps ≡ state_raised site image p ∷ asked (write_of image h p) a ∷ last → IsWalk Goto (on_done (rest_of image h pieces) a) more last Refused
          → PiecesStop site image h at bytes (p ∷ pieces) steps
      go answer.Done more last are w =
          let later = on more last w in
          record {
            written = p ∷ later.written;
            left = later.left;
            begun = later.begun;
            last = later.last;
            pieces = ap (λ q. p ∷ q) later.pieces;
            is_begun = later.is_begun;
            written_steps = state_raised site image p ∷ piece_written site image h at bytes p ∷ later.written_steps;
            are_written = record {
              first = state_raised site image p ∷ piece_written site image h at bytes p ∷ [];
              others = later.written_steps;
              is_first = refl;
              are_others = later.are_written;
              are = refl;
            };
            are = are ∙ ap (λ s. state_raised site image p ∷ piece_written site image h at bytes p ∷ s) later.are;
          }
      go a more last are w = record {
        written = [];
        left = p ∷ pieces;
        begun = state_raised site image p ∷ [];
        last = asked (write_of image h p) a;
        pieces = refl;
        is_begun = record { next = piece_written site image h at bytes p; rest = []; whole = refl };
        written_steps = [];
        are_written = refl;
        are = are ∙ ap (λ s. state_raised site image p ∷ asked (write_of image h p) a ∷ s) (absent_ends a more last Refused w);
      }

  pieces_stop : (pieces : List Piece) (image : ℕ) (h : HeaderView) (feds : List Fed) (steps : List Answered)
      → IsWalk Goto (rest_of image h pieces) feds steps Refused → PiecesStop site image h at bytes pieces steps
  pieces_stop [] image h feds steps walk =
      let a = awaited_to (reply.Refused x) (wait.Applied site image) (Return reply.Done) feds steps walk in
      let other : Refused ≡ Return reply.Done = (ended reply.Done a.more steps Refused a.walk).1 in
      cc
  pieces_stop (p ∷ pieces) image h feds steps walk =
      let t = awaited_to (reply.Refused x) (wait.Turn p.object) (write_piece site image h p (bytes_of p) (rest_of image h pieces)) feds steps walk in
      let r = asked_to (reply.Refused x) site reason.Own (raise_of image p) (on_done (writing site image (context_of h) p (bytes_of p) (rest_of image h pieces))) t.more steps t.walk in
      go r.answer r.more r.rest r.are r.walk (pieces_stop pieces image h)
    where
      go : (a : Answer) (more : List Fed) (rest : List Answered) → steps ≡ asked (raise_of image p) a ∷ rest
          → IsWalk Goto (on_done (writing site image (context_of h) p (bytes_of p) (rest_of image h pieces)) a) more rest Refused
          → ((feds : List Fed) (steps : List Answered) → IsWalk Goto (rest_of image h pieces) feds steps Refused → PiecesStop site image h at bytes pieces steps)
          → PiecesStop site image h at bytes (p ∷ pieces) steps
      go answer.Done more rest are r on = piece_stops p pieces image h more rest steps are on r
      go a more rest are r on = record {
        written = [];
        left = p ∷ pieces;
        begun = [];
        last = asked (raise_of image p) a;
        pieces = refl;
        is_begun = record { next = state_raised site image p; rest = piece_written site image h at bytes p ∷ []; whole = refl };
        written_steps = [];
        are_written = refl;
        are = are ∙ ap (λ s. asked (raise_of image p) a ∷ s) (absent_ends a more rest Refused r);
      }

  -- ---- the looks

  own_stops : (image : ℕ) (first own : HeaderView) → refuses first ≡ None → (feds : List Fed) (rest steps : List Answered)
      → steps ≡ found site name image ∷ looked_at site image first ∷ looked_at site image own ∷ rest
      → (r : Option Refusal) → refuses own ≡ r → IsWalk Goto (unless r (act image own)) feds rest Refused → Stops site name at bytes steps
  own_stops image first own may_wait feds rest steps are (Some y) is walk = record {
    before = found site name image ∷ looked_at site image first ∷ [];
    last = looked_at site image own;
    are = are ∙ ap (λ s. found site name image ∷ looked_at site image first ∷ looked_at site image own ∷ s) (refused_ends y feds rest walk);
    so_far = inl (refl, (refl, tt));
  }
  own_stops image first own may_wait feds rest steps are None may walk =
      let pieces = pieces_of own.layout (extent_at at bytes) in
      let n = noted_to (reply.Refused x) site image (event.Write at bytes) (write_pieces site image own at bytes pieces (applied site image)) feds rest walk in
      let stop = pieces_stop pieces image own n.more rest n.walk in
      record {
        before = found site name image ∷ looked_at site image first ∷ looked_at site image own ∷ (stop.written_steps ++ stop.begun);
        last = stop.last;
        are = are ∙ ap (λ s. found site name image ∷ looked_at site image first ∷ looked_at site image own ∷ s) stop.are;
        so_far = inr (record {
          image = image;
          first = first;
          own = own;
          may_wait = may_wait;
          may = may;
          written = stop.written;
          left = stop.left;
          pieces = stop.pieces;
          written_steps = stop.written_steps;
          are_written = stop.are_written;
          begun = stop.begun;
          is_begun = stop.is_begun;
          are = refl;
        });
      }

  look_stops : (image : ℕ) (first : HeaderView) (feds : List Fed) (rest steps : List Answered) → steps ≡ found site name image ∷ looked_at site image first ∷ rest
      → (r : Option Refusal) → refuses first ≡ r → IsWalk Goto (unless r (holding site refuses act image)) feds rest Refused → Stops site name at bytes steps
  look_stops image first feds rest steps are (Some y) is walk = record {
    before = found site name image ∷ [];
    last = looked_at site image first;
    are = are ∙ ap (λ s. found site name image ∷ looked_at site image first ∷ s) (refused_ends y feds rest walk);
    so_far = inl (refl, tt);
  }
  look_stops image first feds rest steps are None may_wait walk =
      let l = awaited_to (reply.Refused x) (wait.Hold site image) (under_lock site refuses act image) feds rest walk in
      let o = asked_to (reply.Refused x) site reason.Own (op.Header image header.Get) (on_header (owned refuses act image)) l.more rest l.walk in
      go o.answer o.more o.rest (are ∙ ap (λ s. found site name image ∷ looked_at site image first ∷ s) o.are) o.walk
    where
      go : (a : Answer) (more : List Fed) (last : List Answered) → steps ≡ found site name image ∷ looked_at site image first ∷ asked (op.Header image header.Get) a ∷ last
          → IsWalk Goto (on_header (owned refuses act image) a) more last Refused → Stops site name at bytes steps
      go (answer.Header own) more last are w = own_stops image first own may_wait more last steps are (refuses own) refl w
      go a more last are w = record {
        before = found site name image ∷ looked_at site image first ∷ [];
        last = asked (op.Header image header.Get) a;
        are = are ∙ ap (λ s. found site name image ∷ looked_at site image first ∷ asked (op.Header image header.Get) a ∷ s) (absent_ends a more last Refused w);
        so_far = inl (refl, (refl, tt));
      }

  found_stops : (image : ℕ) (feds : List Fed) (rest steps : List Answered) → steps ≡ found site name image ∷ rest
      → IsWalk Goto (joining site sharing.Shared refuses act image) feds rest Refused → Stops site name at bytes steps
  found_stops image feds rest steps are walk =
      let j = awaited_to (reply.Refused x) (wait.Join site image sharing.Shared) (looking site refuses act image) feds rest walk in
      let v = asked_to (reply.Refused x) site reason.Own (op.Header image header.Get) (on_header (looked site refuses act image)) j.more rest j.walk in
      go v.answer v.more v.rest (are ∙ ap (λ s. found site name image ∷ s) v.are) v.walk
    where
      go : (a : Answer) (more : List Fed) (last : List Answered) → steps ≡ found site name image ∷ asked (op.Header image header.Get) a ∷ last
          → IsWalk Goto (on_header (looked site refuses act image) a) more last Refused → Stops site name at bytes steps
      go (answer.Header first) more last are w = look_stops image first more last steps are (refuses first) refl w
      go a more last are w = record {
        before = found site name image ∷ [];
        last = asked (op.Header image header.Get) a;
        are = are ∙ ap (λ s. found site name image ∷ asked (op.Header image header.Get) a ∷ s) (absent_ends a more last Refused w);
        so_far = inl (refl, tt);
      }

  pub write_stops : (feds : List Fed) (steps : List Answered) → IsWalk Goto (write site name at bytes) feds steps Refused → Stops site name at bytes steps
  write_stops feds steps walk =
      let w = asked_to (reply.Refused x) site reason.Own (look_up name) (on_id (joining site sharing.Shared refuses act)) feds steps walk in
      go w.answer w.more w.rest w.are w.walk
    where
      go : (a : Answer) (more : List Fed) (rest : List Answered) → steps ≡ asked (look_up name) a ∷ rest → IsWalk Goto (on_id (joining site sharing.Shared refuses act) a) more rest Refused → Stops site name at bytes steps
      go (answer.Id image) more rest are w = found_stops image more rest steps are w
      go a more rest are w = record {
        before = [];
        last = asked (look_up name) a;
        are = are ∙ ap (λ s. asked (look_up name) a ∷ s) (absent_ends a more rest Refused w);
        so_far = inl tt;
      }

-- ---- where it was refused

pub refuses_write : (site : SiteId) (name : List ℕ) (at : ℕ) (bytes : List ℕ) (steps : List Answered) (x : Refusal) → AreOwn site (look_up name) steps
    → IsRefusedBy (write_refuses (extent_at at bytes)) by_fence steps x → Stops site name at bytes steps → RefusesWrite site name at bytes steps x
refuses_write site name at bytes steps x own by stops = record {
  refused = record { own = own; by = by };
  so_far =
      subst (λ before. AreLooks before ⊎ WritesSome site name at bytes before)
      (same_front stops.before by.before stops.last by.last (sym stops.are ∙ by.are)) stops.so_far;
}

-- A read is refused at its find or its first look, or by the fence.
use Rattle.std.proofs.Common.{◌≡◌, ℕ, suc, ◌≤◌, List, [], ◌∷◌, ◌++◌, length, Bool, true, false, cond, eqb, Option, Some, None, ap, subst, arith}
use Rattle.rbd_kinds.specs.declared.answer.Answer.{Answer}
use Rattle.rbd_kinds.specs.declared.answer.Answer.TheVariants as answer
use Rattle.rbd_kinds.specs.declared.directory_op.DirectoryOp.TheVariants as directory
use Rattle.rbd_kinds.specs.declared.header.HeaderView.{HeaderView}
use Rattle.rbd_kinds.specs.declared.header_op.HeaderOp.TheVariants as header
use Rattle.rbd_kinds.specs.declared.id.SiteId.{SiteId}
use Rattle.rbd_kinds.specs.declared.layout.Extent.{Extent}
use Rattle.rbd_kinds.specs.declared.machine.Fed.{Fed}
use Rattle.rbd_kinds.specs.declared.operation.Op.TheVariants as op
use Rattle.rbd_commands.specs.declared.refusal.Refusal.{Refusal}
use Rattle.rbd_commands.specs.declared.refusal.Refusal.TheVariants as refusal
use Rattle.rbd_kinds.specs.declared.reply.Reply.TheVariants as reply
use Rattle.rbd_layout.specs.Pieces.{pieces_of}
use Rattle.rbd_layout.specs.declared.types.Piece.{Piece}
use Rattle.rbd_header.specs.Header.{view_of}
use Rattle.rbd_header.specs.declared.view.View.{View}
use Rattle.rbd_machine.specs.Label as label
use Rattle.rbd_machine.specs.Objects.{data_read}
use Rattle.rbd_machine.specs.Path.{Answered, IsWalk}
use Rattle.rbd_machine.specs.Plan.{Plan, Return, Goto}
use Rattle.rbd_machine.specs.Refused.{IsGiven, AreGiven}
use Rattle.rbd_machine.specs.Steps.{on_id, on_header, not_there, unless}
use Rattle.rbd_machine.specs.declared.reason.Reason.TheVariants as reason
use Rattle.rbd_machine.proofs.Walked.{ended, asked_to, absent_ends, jump_ends_otherwise}
use Rattle.rbd_meaning.specs.Range.{out_of_range}
use Rattle.rbd_pieces.specs.Gather.{gather, on_bytes}
use Rattle.rbd_data.specs.Read.{pass, looking, read_by_header, viewing, gathering, closing, on_closing}
use Rattle.rbd_data.specs.Seen.{Seen, seen_at, shown_bytes}

module _ (x : Refusal) where
  abbrev Refused : Plan
  Refused = Return (reply.Refused x)

  fenced_by : (feds : List Fed) (steps : List Answered) → IsWalk Goto (Return (reply.Refused refusal.Fenced)) feds steps Refused → x ≡ refusal.Fenced
  fenced_by feds steps walk = let same = (ended (reply.Refused refusal.Fenced) feds steps Refused walk).1 in cc

  closing_fenced : (site : SiteId) (image : ℕ) (seen : Seen) (read : List ℕ) (feds : List Fed) (steps : List Answered)
      → AreGiven steps → IsWalk Goto (closing site image seen read) feds steps Refused → x ≡ refusal.Fenced
  closing_fenced site image seen read feds steps given walk =
      let w = asked_to (reply.Refused x) site reason.Own (op.Header image header.Get) (on_closing seen read) feds steps walk in
      go w.answer w.more w.rest (subst AreGiven w.are given).0 w.walk
    where
      at_header : (b : Bool) (more : List Fed) (rest : List Answered) → IsWalk Goto (cond b (Return (reply.Bytes (shown_bytes seen read))) (Goto label.Begin)) more rest Refused → x ≡ refusal.Fenced
      at_header true more rest w = let same = (ended (reply.Bytes (shown_bytes seen read)) more rest Refused w).1 in cc
      at_header false more rest w = absurd (jump_ends_otherwise (reply.Refused x) label.Begin more rest w)

      go : (a : Answer) (more : List Fed) (rest : List Answered) → IsGiven (op.Header image header.Get) a → IsWalk Goto (on_closing seen read a) more rest Refused → x ≡ refusal.Fenced
      go (answer.Header h) more rest can w = at_header (eqb h.generation seen.generation) more rest w
      go answer.Absent more rest can w = absurd (jump_ends_otherwise (reply.Refused x) label.Begin more rest w)
      go answer.Fenced more rest can w = fenced_by more rest w
      go _ more rest can w = let no = can.can.word in cc

  gather_fenced : (pieces : List Piece) (site : SiteId) (image : ℕ) (snap : Option ℕ) (got : List ℕ) (next : List ℕ → Plan)
      → ((bytes : List ℕ) (feds : List Fed) (steps : List Answered) → AreGiven steps → IsWalk Goto (next bytes) feds steps Refused → x ≡ refusal.Fenced)
      → (feds : List Fed) (steps : List Answered) → AreGiven steps → IsWalk Goto (gather site image snap pieces got next) feds steps Refused → x ≡ refusal.Fenced
  gather_fenced [] site image snap got next later feds steps given walk = later got feds steps given walk
  gather_fenced (p ∷ pieces) site image snap got next later feds steps given walk =
      let w = asked_to (reply.Refused x) site reason.Own (data_read image snap p) (on_bytes p.parts (λ more. gather site image snap pieces (got ++ more) next)) feds steps walk in
      let given_there = subst AreGiven w.are given in
      go w.answer w.more w.rest given_there.0 given_there.1 w.walk (λ bytes. gather_fenced pieces site image snap (got ++ bytes) next later w.more w.rest given_there.1)
    where
      go : (a : Answer) (more : List Fed) (rest : List Answered) → IsGiven (data_read image snap p) a → AreGiven rest
          → IsWalk Goto (on_bytes p.parts (λ bytes. gather site image snap pieces (got ++ bytes) next) a) more rest Refused
          → ((bytes : List ℕ) → IsWalk Goto (gather site image snap pieces (got ++ bytes) next) more rest Refused → x ≡ refusal.Fenced) → x ≡ refusal.Fenced
      go (answer.Bytes bytes) more rest can given w on = on bytes w
      go answer.Absent more rest can given w on = on _ w
      go answer.Fenced more rest can given w on = fenced_by more rest w
      go _ more rest can given w on = let no = can.can.word in cc

  -- ---- up to the first look

  stopped : (y : Refusal) (feds : List Fed) (steps : List Answered) → IsWalk Goto (Return (reply.Refused y)) feds steps Refused → length steps ≤ 0
  stopped y feds steps walk = let none : length steps ≡ 0 = ap length (ended (reply.Refused y) feds steps Refused walk).0 in omega arith

  absent : (a : Answer) (feds : List Fed) (steps : List Answered) → IsWalk Goto (not_there a) feds steps Refused → length steps ≤ 0
  absent a feds steps walk = let none : length steps ≡ 0 = ap length (absent_ends a feds steps Refused walk) in omega arith

  module _ (site : SiteId) (name : List ℕ) (snap : Option (List ℕ)) (e : Extent) (fenced : x ≡ refusal.Fenced → ⊥) where
    view_early : (image : ℕ) (h : HeaderView) (view : Option View) (feds : List Fed) (steps : List Answered) → AreGiven steps → IsWalk Goto (viewing site image h e view) feds steps Refused → length steps ≤ 0
    view_early image h None feds steps given walk = stopped _ feds steps walk
    view_early image h (Some view) feds steps given walk = go (out_of_range e view.size) walk
      where
        go : (r : Option Refusal) → IsWalk Goto (unless r (gathering site image h e view)) feds steps Refused → length steps ≤ 0
        go (Some r) w = stopped r feds steps w
        go None w =
            absurd (fenced (gather_fenced (pieces_of h.layout e) site image view.snap [] (closing site image (seen_at h e)) (closing_fenced site image (seen_at h e)) feds steps given w))

    look_early : (image : ℕ) (feds : List Fed) (steps : List Answered) → AreGiven steps → IsWalk Goto (looking site snap e image) feds steps Refused → length steps ≤ 1
    look_early image feds steps given walk =
        let w = asked_to (reply.Refused x) site reason.Own (op.Header image header.Get) (on_header (read_by_header site snap e image)) feds steps walk in
        let one_more : length steps ≡ suc (length w.rest) = ap length w.are in
        let short = go w.answer w.more w.rest (subst AreGiven w.are given).1 w.walk in
        omega arith
      where
        go : (a : Answer) (more : List Fed) (rest : List Answered) → AreGiven rest → IsWalk Goto (on_header (read_by_header site snap e image) a) more rest Refused → length rest ≤ 0
        go (answer.Header h) more rest given w = view_early image h (view_of h snap) more rest given w
        go a more rest given w = absent a more rest w

    pass_early : (feds : List Fed) (steps : List Answered) → AreGiven steps → IsWalk Goto (pass site name snap e) feds steps Refused → length steps ≤ 2
    pass_early feds steps given walk =
        let w = asked_to (reply.Refused x) site reason.Own (op.Directory (directory.Find name)) (on_id (looking site snap e)) feds steps walk in
        let one_more : length steps ≡ suc (length w.rest) = ap length w.are in
        let short = go w.answer w.more w.rest (subst AreGiven w.are given).1 w.walk in
        omega arith
      where
        go : (a : Answer) (more : List Fed) (rest : List Answered) → AreGiven rest → IsWalk Goto (on_id (looking site snap e) a) more rest Refused → length rest ≤ 1
        go (answer.Id image) more rest given w = look_early image more rest given w
        go a more rest given w = let none = absent a more rest w in omega arith

pub pass_refused_early : (site : SiteId) (name : List ℕ) (snap : Option (List ℕ)) (e : Extent) (x : Refusal) (feds : List Fed) (steps : List Answered)
    → AreGiven steps → IsWalk Goto (pass site name snap e) feds steps (Return (reply.Refused x)) → (x ≡ refusal.Fenced → ⊥) → length steps ≤ 2
pass_refused_early site name snap e x feds steps given walk fenced = pass_early x site name snap e fenced feds steps given walk

-- The passes of a read, step by step: those that saw another header, and the one that shows bytes.
use Rattle.std.proofs.Common.{◌≡◌, ℕ, ◌++◌, List, [], ◌∷◌, Bool, true, false, cond, eqb, Option, Some, None, refl, sym, ap, ◌∙◌, subst, append_assoc, append-nil, arith}
use Rattle.std.specs.Prelude.{replicate}
use Rattle.std.proofs.lemmas.Bool.Decides.{nat_tests}
use Rattle.rbd_kinds.specs.declared.answer.Answer.{Answer}
use Rattle.rbd_kinds.specs.declared.answer.Answer.TheVariants as answer
use Rattle.rbd_kinds.specs.declared.directory_op.DirectoryOp.TheVariants as directory
use Rattle.rbd_kinds.specs.declared.header.HeaderView.{HeaderView}
use Rattle.rbd_kinds.specs.declared.header_op.HeaderOp.TheVariants as header
use Rattle.rbd_kinds.specs.declared.layout.Part.{Part}
use Rattle.rbd_kinds.specs.declared.operation.Op.TheVariants as op
use Rattle.rbd_commands.specs.declared.refusal.Refusal.TheVariants as refusal
use Rattle.rbd_kinds.specs.declared.id.SiteId.{SiteId}
use Rattle.rbd_kinds.specs.declared.layout.Extent.{Extent}
use Rattle.rbd_kinds.specs.declared.machine.Fed.{Fed}
use Rattle.rbd_commands.specs.declared.refusal.Refusal.{Refusal}
use Rattle.rbd_kinds.specs.declared.reply.Reply.TheVariants as reply
use Rattle.rbd_layout.specs.Pieces.{pieces_of}
use Rattle.rbd_layout.specs.declared.types.Piece.{Piece}
use Rattle.rbd_kinds.specs.Parts.{parts_len}
use Rattle.rbd_header.specs.Header.{view_of}
use Rattle.rbd_header.specs.declared.view.View.{View}
use Rattle.rbd_machine.specs.Path.{Answered, IsWalk, found, looked_at}
use Rattle.rbd_machine.specs.Plan.{Plan, Return, Goto}
use Rattle.rbd_machine.specs.Label.{Label}
use Rattle.rbd_machine.specs.Label as label
use Rattle.rbd_machine.specs.Passes.{ArePasses, steps_of_passes}
use Rattle.rbd_machine.proofs.Passed.{walk_ends}
use Rattle.rbd_machine.specs.declared.reason.Reason.TheVariants as reason
use Rattle.rbd_machine.specs.Steps.{unless, on_id, on_header}
use Rattle.rbd_machine.proofs.Walked.{EndsUnrefused, ended, went_on, told_image, told_header, refusal_ends_otherwise, nothing_ends_otherwise, jump_ends_otherwise}
use Rattle.rbd_machine.specs.Objects.{data_read}
use Rattle.rbd_meaning.specs.Range.{out_of_range}
use Rattle.rbd_meaning.specs.Reads.{ShowsBetween, ShowsAtLast, IsPassTo, SeesAnother, SeeOthers, IsOther, AreRead, bytes_read, bytes_shown}
use Rattle.rbd_pieces.specs.Gather.{gather, on_bytes}
use Rattle.rbd_data.specs.Read.{pass, read_labels, looking, read_by_header, viewing, gathering, closing, on_closing}
use Rattle.rbd_data.specs.Seen.{Seen, seen_at, shown_bytes}

-- ---- what an answer told

record ToldBytes (last : Plan) (parts : List Part) (next : List ℕ → Plan) (a : Answer) (feds : List Fed) (steps : List Answered) : Type 0 where
  pub told : List ℕ
  pub is : bytes_shown parts a ≡ Some told
  pub walk : IsWalk Goto (next told) feds steps last

told_bytes : (last : Plan) → EndsUnrefused last → (parts : List Part) (next : List ℕ → Plan) (a : Answer) (feds : List Fed) (steps : List Answered)
    → IsWalk Goto (on_bytes parts next a) feds steps last → ToldBytes last parts next a feds steps
told_bytes last kind parts next (answer.Bytes told) feds steps walk = record { told = told; is = refl; walk = walk }
told_bytes last kind parts next answer.Absent feds steps walk = record { told = replicate (parts_len parts) 0; is = refl; walk = walk }
told_bytes last kind parts next a feds steps walk = absurd (nothing_ends_otherwise last kind a feds steps walk)

-- ---- the pieces

record Gathered (last : Plan) (site : SiteId) (image : ℕ) (snap : Option ℕ) (pieces : List Piece) (got : List ℕ) (next : List ℕ → Plan) (steps : List Answered) : Type 0 where
  pub reads : List Answered
  pub rest : List Answered
  pub more : List Fed
  pub are : steps ≡ reads ++ rest
  pub read : AreRead site image snap pieces reads
  pub walk : IsWalk Goto (next (got ++ bytes_read site image snap pieces reads read)) more rest last

gathered : (last : Plan) → EndsUnrefused last → (pieces : List Piece) (site : SiteId) (image : ℕ) (snap : Option ℕ) (got : List ℕ) (next : List ℕ → Plan) (feds : List Fed) (steps : List Answered)
    → IsWalk Goto (gather site image snap pieces got next) feds steps last → Gathered last site image snap pieces got next steps
gathered last kind [] site image snap got next feds steps walk = record {
  reads = [];
  rest = steps;
  more = feds;
  are = refl;
  read = refl;
  walk = subst (λ g. IsWalk Goto (next g) feds steps last) (sym (append-nil got)) walk;
}
gathered last kind (p ∷ pieces) site image snap got next feds steps walk =
    let k : List ℕ → Plan = λ more. gather site image snap pieces (got ++ more) next in
    let w = went_on last kind site reason.Own (data_read image snap p) (on_bytes p.parts k) feds steps walk in
    let t = told_bytes last kind p.parts k w.answer w.more w.rest w.walk in
    let later = gathered last kind pieces site image snap (got ++ t.told) next w.more w.rest t.walk in
    let step : Answered = record { site = site; op = data_read image snap p; answer = w.answer } in
    let shown = bytes_read site image snap pieces later.reads later.read in
    record {
      reads = step ∷ later.reads;
      rest = later.rest;
      more = later.more;
      are = w.are ∙ ap (λ s. step ∷ s) later.are;
      read = record {
        first = step ∷ [];
        others = later.reads;
        is_first = record { answer = w.answer; bytes = t.told; shown = t.is; are = refl };
        are_others = later.read;
        are = refl;
      };
      walk = subst (λ g. IsWalk Goto (next g) later.more later.rest last) (append_assoc got t.told shown) later.walk;
    }

-- ---- the closing look

-- it is the last step, and was told this
abbrev ClosingStep : SiteId → (image : ℕ) → Answer → Answered
ClosingStep site image a = record { site = site; op = op.Header image header.Get; answer = a }

record Closed (site : SiteId) (image : ℕ) (seen : Seen) (read : List ℕ) (steps : List Answered) (bytes : List ℕ) : Type 0 where
  pub closing : HeaderView
  pub are : steps ≡ looked_at site image closing ∷ []
  pub same : closing.generation ≡ seen.generation
  pub shows : bytes ≡ shown_bytes seen read

closed : (site : SiteId) (image : ℕ) (seen : Seen) (read : List ℕ) (feds : List Fed) (steps : List Answered) (bytes : List ℕ)
    → IsWalk Goto (closing site image seen read) feds steps (Return (reply.Bytes bytes)) → Closed site image seen read steps bytes
closed site image seen read feds steps bytes walk =
    let w = went_on (Return (reply.Bytes bytes)) tt site reason.Own (op.Header image header.Get) (on_closing seen read) feds steps walk in
    go w.answer w.more w.rest w.are w.walk
  where
    at_header : (h : HeaderView) (more : List Fed) (rest : List Answered) (b : Bool) → eqb h.generation seen.generation ≡ b → steps ≡ looked_at site image h ∷ rest
        → IsWalk Goto (cond b (Return (reply.Bytes (shown_bytes seen read))) (Goto label.Begin)) more rest (Return (reply.Bytes bytes)) → Closed site image seen read steps bytes
    at_header h more rest true same are w =
        let end = ended (reply.Bytes (shown_bytes seen read)) more rest (Return (reply.Bytes bytes)) w in
        let none : rest ≡ [] = end.0 in
        let reply = end.1 in
        record { closing = h; are = are ∙ ap (λ s. looked_at site image h ∷ s) none; same = grind (arith, nat_tests); shows = cc }
    at_header h more rest false same are w = absurd (jump_ends_otherwise (reply.Bytes bytes) label.Begin more rest w)

    go : (a : Answer) (more : List Fed) (rest : List Answered) → steps ≡ ClosingStep site image a ∷ rest
        → IsWalk Goto (on_closing seen read a) more rest (Return (reply.Bytes bytes)) → Closed site image seen read steps bytes
    go (answer.Header h) more rest are w = at_header h more rest (eqb h.generation seen.generation) refl are w
    go answer.Absent more rest are w = absurd (jump_ends_otherwise (reply.Bytes bytes) label.Begin more rest w)
    go a more rest are w = absurd (nothing_ends_otherwise (Return (reply.Bytes bytes)) tt a more rest w)

-- the header was another, or gone, and it went to the beginning
record Reopened (site : SiteId) (image : ℕ) (seen : Seen) (steps : List Answered) : Type 0 where
  pub closing : Answer
  pub are : steps ≡ ClosingStep site image closing ∷ []
  pub other : IsOther seen.generation closing

jumped : (label to : Label) (feds : List Fed) (steps : List Answered) → IsWalk Goto (Goto label) feds steps (Goto to) → steps ≡ []
jumped label to [] steps walk = walk.0
jumped label to (f ∷ more) steps walk = absurd walk

reopened : (site : SiteId) (image : ℕ) (seen : Seen) (read : List ℕ) (to : Label) (feds : List Fed) (steps : List Answered)
    → IsWalk Goto (closing site image seen read) feds steps (Goto to) → Reopened site image seen steps
reopened site image seen read to feds steps walk =
    let w = went_on (Goto to) tt site reason.Own (op.Header image header.Get) (on_closing seen read) feds steps walk in
    go w.answer w.more w.rest w.are w.walk
  where
    at_header : (h : HeaderView) (more : List Fed) (rest : List Answered) (b : Bool) → eqb h.generation seen.generation ≡ b → steps ≡ looked_at site image h ∷ rest
        → IsWalk Goto (cond b (Return (reply.Bytes (shown_bytes seen read))) (Goto label.Begin)) more rest (Goto to) → Reopened site image seen steps
    at_header h more rest true same are w = let end = (ended (reply.Bytes (shown_bytes seen read)) more rest (Goto to) w).1 in cc
    at_header h more rest false other are w = record {
      closing = answer.Header h;
      are = are ∙ ap (λ s. looked_at site image h ∷ s) (jumped label.Begin to more rest w);
      other = λ same. grind (arith, nat_tests);
    }

    go : (a : Answer) (more : List Fed) (rest : List Answered) → steps ≡ ClosingStep site image a ∷ rest
        → IsWalk Goto (on_closing seen read a) more rest (Goto to) → Reopened site image seen steps
    go (answer.Header h) more rest are w = at_header h more rest (eqb h.generation seen.generation) refl are w
    go answer.Absent more rest are w = record { closing = answer.Absent; are = are ∙ ap (λ s. ClosingStep site image answer.Absent ∷ s) (jumped label.Begin to more rest w); other = tt }
    go a more rest are w = absurd (nothing_ends_otherwise (Goto to) tt a more rest w)

-- ---- a pass, up to its closing look

record Passed (last : Plan) (site : SiteId) (name : List ℕ) (snap : Option (List ℕ)) (e : Extent) (steps : List Answered) : Type 0 where
  pub image : ℕ
  pub first : HeaderView
  pub view : View
  pub reads : List Answered
  pub rest : List Answered
  pub more : List Fed
  pub viewed : view_of first snap ≡ Some view
  pub fits : out_of_range e view.size ≡ None
  pub are : steps ≡ found site name image ∷ looked_at site image first ∷ (reads ++ rest)
  pub read : AreRead site image view.snap (pieces_of first.layout e) reads
  pub walk : IsWalk Goto (closing site image (seen_at first e) (bytes_read site image view.snap (pieces_of first.layout e) reads read)) more rest last

module _ (last : Plan) (kind : EndsUnrefused last) (site : SiteId) (name : List ℕ) (snap : Option (List ℕ)) (e : Extent) where
  passed : (feds : List Fed) (steps : List Answered) → IsWalk Goto (pass site name snap e) feds steps last → Passed last site name snap e steps
  passed feds steps walk =
      let w = went_on last kind site reason.Own (op.Directory (directory.Find name)) (on_id (looking site snap e)) feds steps walk in
      let i = told_image last kind (looking site snap e) w.answer w.more w.rest w.walk in
      let v = went_on last kind site reason.Own (op.Header i.image header.Get) (on_header (read_by_header site snap e i.image)) w.more w.rest i.walk in
      let h = told_header last kind (read_by_header site snap e i.image) v.answer v.more v.rest v.walk in
      let begins : steps ≡ found site name i.image ∷ looked_at site i.image h.header ∷ v.rest =
      w.are ∙ ap (λ a. record { site = site; op = op.Directory (directory.Find name); answer = a } ∷ w.rest) i.is
      ∙ ap (λ s. found site name i.image ∷ s) (v.are ∙ ap (λ a. record { site = site; op = op.Header i.image header.Get; answer = a } ∷ v.rest) h.is) in
      at_view i.image h.header v.more v.rest begins (view_of h.header snap) refl h.walk
    where
      at_range : (image : ℕ) (first : HeaderView) (more : List Fed) (rest : List Answered) (view : View) → steps ≡ found site name image ∷ looked_at site image first ∷ rest → view_of first snap ≡ Some view
          → (r : Option Refusal) → out_of_range e view.size ≡ r → IsWalk Goto (unless r (gathering site image first e view)) more rest last → Passed last site name snap e steps
      at_range image first more rest view begins viewed (Some r) fits w = absurd (refusal_ends_otherwise last kind r more rest w)
      at_range image first more rest view begins viewed None fits w =
          let g = gathered last kind (pieces_of first.layout e) site image view.snap [] (closing site image (seen_at first e)) more rest w in
          record {
            image = image;
            first = first;
            view = view;
            reads = g.reads;
            rest = g.rest;
            more = g.more;
            viewed = viewed;
            fits = fits;
            are = begins ∙ ap (λ s. found site name image ∷ looked_at site image first ∷ s) g.are;
            read = g.read;
            walk = g.walk;
          }

      at_view : (image : ℕ) (first : HeaderView) (more : List Fed) (rest : List Answered) → steps ≡ found site name image ∷ looked_at site image first ∷ rest
          → (view : Option View) → view_of first snap ≡ view → IsWalk Goto (viewing site image first e view) more rest last → Passed last site name snap e steps
      at_view image first more rest begins None viewed w = absurd (refusal_ends_otherwise last kind refusal.NoSnap more rest w)
      at_view image first more rest begins (Some view) viewed w = at_range image first more rest view begins viewed (out_of_range e view.size) refl w

-- ---- its two ends

-- it read all its pieces, and its closing look was told this
closed_by : (site : SiteId) (name : List ℕ) (snap : Option (List ℕ)) (e : Extent) (steps : List Answered) (last : Plan) (closing : Answer) (p : Passed last site name snap e steps)
    → p.rest ≡ ClosingStep site p.image closing ∷ [] → IsPassTo site name snap e steps closing
closed_by site name snap e steps last closing p is = record {
  image = p.image;
  first = p.first;
  view = p.view;
  reads = p.reads;
  viewed = p.viewed;
  fits = p.fits;
  are = p.are ∙ ap (λ s. found site name p.image ∷ looked_at site p.image p.first ∷ (p.reads ++ s)) is;
  read = p.read;
}

pass_shows : (site : SiteId) (name : List ℕ) (snap : Option (List ℕ)) (e : Extent) (feds : List Fed) (steps : List Answered) (bytes : List ℕ)
    → IsWalk Goto (pass site name snap e) feds steps (Return (reply.Bytes bytes)) → ShowsBetween site name snap e steps bytes
unfolding closed_by passed
pass_shows site name snap e feds steps bytes walk =
    let p = passed (Return (reply.Bytes bytes)) tt site name snap e feds steps walk in
    let c = closed site p.image (seen_at p.first e) (bytes_read site p.image p.view.snap (pieces_of p.first.layout e) p.reads p.read) p.more p.rest bytes p.walk in
    record {
      closing = c.closing;
      pass = closed_by site name snap e steps (Return (reply.Bytes bytes)) (answer.Header c.closing) p c.are;
      same = c.same;
      shows = c.shows;
    }

pass_sees_another : (site : SiteId) (name : List ℕ) (snap : Option (List ℕ)) (e : Extent) (to : Label) (feds : List Fed) (steps : List Answered)
    → IsWalk Goto (pass site name snap e) feds steps (Goto to) → SeesAnother site name snap e steps
unfolding closed_by passed
pass_sees_another site name snap e to feds steps walk =
    let p = passed (Goto to) tt site name snap e feds steps walk in
    let c = reopened site p.image (seen_at p.first e) (bytes_read site p.image p.view.snap (pieces_of p.first.layout e) p.reads p.read) to p.more p.rest p.walk in
    record {
      closing = c.closing;
      pass = closed_by site name snap e steps (Goto to) c.closing p c.are;
      other = c.other;
    }

-- ---- the read

-- a walk of a read: passes that saw another header, and a last one
pub record LastPass (site : SiteId) (name : List ℕ) (snap : Option (List ℕ)) (e : Extent) (steps : List Answered) (last : Plan) : Type 0 where
  pub passes : List (List Answered)
  pub final : List Answered
  pub feds : List Fed
  pub are : steps ≡ steps_of_passes passes ++ final
  pub before : SeeOthers site name snap e passes
  pub walk : IsWalk Goto (pass site name snap e) feds final last

module _ (site : SiteId) (name : List ℕ) (snap : Option (List ℕ)) (e : Extent) where
  -- it begins again as it began
  see_others : (passes : List (List Answered)) (plan left : Plan) → plan ≡ pass site name snap e → ArePasses (read_labels site name snap e) plan passes left
      → SeeOthers site name snap e passes × (left ≡ pass site name snap e)
  see_others [] plan left is same = (tt, same ∙ is)
  see_others (p ∷ passes) plan left is (goes, before) =
      let later = see_others passes (read_labels site name snap e goes.label) left refl before in
      ((pass_sees_another site name snap e goes.label goes.feds p (subst (λ q. IsWalk Goto q goes.feds p (Goto goes.label)) is goes.walk), later.0), later.1)

  pub last_pass : (feds : List Fed) (steps : List Answered) (last : Plan) → IsWalk (read_labels site name snap e) (pass site name snap e) feds steps last → LastPass site name snap e steps last
  last_pass feds steps last walk =
      let ends = walk_ends (read_labels site name snap e) feds (pass site name snap e) steps last walk in
      let begins = see_others ends.passes (pass site name snap e) ends.left refl ends.before in
      record {
        passes = ends.passes;
        final = ends.pass;
        feds = ends.feds;
        are = ends.are;
        before = begins.0;
        walk = subst (λ p. IsWalk Goto p ends.feds ends.pass last) begins.1 ends.walk;
      }

  pub read_shows : (feds : List Fed) (steps : List Answered) (bytes : List ℕ)
      → IsWalk (read_labels site name snap e) (pass site name snap e) feds steps (Return (reply.Bytes bytes)) → ShowsAtLast site name snap e steps bytes
  read_shows feds steps bytes walk =
      let l = last_pass feds steps (Return (reply.Bytes bytes)) walk in
      record { passes = l.passes; pass = l.final; are = l.are; before = l.before; shows = pass_shows site name snap e l.feds l.final bytes l.walk }

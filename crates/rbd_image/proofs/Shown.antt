-- Images that are made, what listings show, and names that change, step by step.
use Rattle.std.proofs.Common.{◌≡◌, ◌≤◌, ℕ, suc, length, arith, List, [], ◌∷◌, None, refl, ap, sym, ◌∙◌, subst}
use Rattle.rbd_kinds.specs.declared.answer.Answer.{Answer}
use Rattle.rbd_kinds.specs.declared.answer.Answer.TheVariants as answer
use Rattle.rbd_commands.specs.declared.command.Shape.{Shape}
use Rattle.rbd_kinds.specs.declared.directory_op.DirectoryOp.TheVariants as directory
use Rattle.rbd_kinds.specs.declared.header.HeaderView.{HeaderView}
use Rattle.rbd_kinds.specs.declared.header_op.HeaderOp.TheVariants as header
use Rattle.rbd_kinds.specs.declared.id.SiteId.{SiteId}
use Rattle.rbd_kinds.specs.declared.machine.Fed.{Fed}
use Rattle.rbd_kinds.specs.declared.map_op.MapOp.TheVariants as states
use Rattle.rbd_kinds.specs.declared.operation.Op.{Op}
use Rattle.rbd_kinds.specs.declared.operation.Op.TheVariants as op
use Rattle.rbd_commands.specs.declared.refusal.Refusal.{Refusal}
use Rattle.rbd_commands.specs.declared.refusal.Refusal.TheVariants as refusal
use Rattle.rbd_kinds.specs.declared.reply.Reply.{Reply}
use Rattle.rbd_kinds.specs.declared.reply.Reply.TheVariants as reply
use Rattle.rbd_kinds.specs.Form.{IsHeaderInForm}
use Rattle.rbd_kinds.specs.Striping.{IsObjectCount}
use Rattle.rbd_header.specs.Header.{new_header}
use Rattle.rbd_layout.specs.Asked.{layout_of, KeepsLimits}
use Rattle.rbd_machine.specs.Path.{Answered, IsWalk, found, looked_at}
use Rattle.rbd_machine.specs.Plan.{Plan, Return, Goto}
use Rattle.rbd_machine.specs.Refused.{AreGiven}
use Rattle.rbd_machine.specs.Steps.{on_id, on_header, on_done, on_bits}
use Rattle.rbd_machine.specs.declared.reason.Reason.TheVariants as reason
use Rattle.rbd_machine.proofs.Walked.{EndsUnrefused, ended, absent_ends, asked_to, went_on, told_image, told_header, told_done, refusal_ends_otherwise, nothing_ends_otherwise}
use Rattle.rbd_meaning.specs.Creates.{MakesOne}
use Rattle.rbd_meaning.specs.Count.{object_count}
use Rattle.rbd_meaning.specs.Listings.{ShowsHeader, ShowsUsed, names_told, renamed_to, used_among}
use Rattle.rbd_meaning.specs.Snaps.{map_told}
use Rattle.rbd_meaning.proofs.Counts.{counts}
use Rattle.rbd_image.specs.Create.{IsCreate, on_drawn, making, mapping, drawing}
use Rattle.rbd_image.specs.Listing.{counting, measuring, on_names, on_renamed, list_names, rename, showing, show_header, show_used}

-- ---- create

record Drawn (next : ℕ → Plan) (a : Answer) (feds : List Fed) (steps : List Answered) : Type 0 where
  pub image : ℕ
  pub is : a ≡ answer.Id image
  pub walk : IsWalk Goto (next image) feds steps (Return reply.Done)

drawn : (next : ℕ → Plan) (a : Answer) (feds : List Fed) (steps : List Answered) → IsWalk Goto (on_drawn next a) feds steps (Return reply.Done) → Drawn next a feds steps
drawn next (answer.Id image) feds steps walk = record { image = image; is = refl; walk = walk }
drawn next answer.Exists feds steps walk = absurd (refusal_ends_otherwise (Return reply.Done) tt refusal.ImageExists feds steps walk)
drawn next answer.Full feds steps walk = absurd (refusal_ends_otherwise (Return reply.Done) tt refusal.BadShape feds steps walk)
drawn next a feds steps walk = absurd (nothing_ends_otherwise (Return reply.Done) tt a feds steps walk)

-- an answer that is known, and what came then
pub answered_so : (site : SiteId) (o : Op) (a told : Answer) (rest more steps : List Answered)
    → steps ≡ record { site = site; op = o; answer = a } ∷ rest → a ≡ told → rest ≡ more → steps ≡ record { site = site; op = o; answer = told } ∷ more
answered_so site o a told rest more steps are is then =
    are ∙ ap (λ b. record { site = site; op = o; answer = b } ∷ rest) is ∙ ap (λ s. record { site = site; op = o; answer = told } ∷ s) then

makes_one : (site : SiteId) (name : List ℕ) (objects : ℕ) (h : HeaderView) (feds : List Fed) (steps : List Answered) → IsObjectCount h.layout h.size objects
    → IsWalk Goto (drawing site name objects h) feds steps (Return reply.Done) → MakesOne site name h steps
makes_one site name objects h feds steps counted walk =
    let w = went_on (Return reply.Done) tt site reason.Own (op.Directory (directory.Add name)) (on_drawn (mapping site objects h)) feds steps walk in
    let i = drawn (mapping site objects h) w.answer w.more w.rest w.walk in
    let r = went_on (Return reply.Done) tt site reason.Own (op.Map i.image (states.Resize objects)) (on_done (making site h i.image)) w.more w.rest i.walk in
    let t = told_done (Return reply.Done) tt (making site h i.image) r.answer r.more r.rest r.walk in
    let m = went_on (Return reply.Done) tt site reason.Own (op.Header i.image (header.Create h)) (on_done (Return reply.Done)) r.more r.rest t.walk in
    let d = told_done (Return reply.Done) tt (Return reply.Done) m.answer m.more m.rest m.walk in
    record {
      image = i.image;
      objects = objects;
      counted = counted;
      are =
          answered_so site _ w.answer (answer.Id i.image) w.rest _ steps w.are i.is
          (answered_so site _ r.answer answer.Done r.rest _ w.rest r.are t.is
          (answered_so site _ m.answer answer.Done m.rest [] r.rest m.are d.is (ended reply.Done m.more m.rest (Return reply.Done) d.walk).0));
    }

pub create_makes_one : (site : SiteId) (name : List ℕ) (size : ℕ) (shape : Shape) (plan : Plan) (feds : List Fed) (steps : List Answered)
    → IsCreate site name size shape plan → KeepsLimits (layout_of shape) size → IsWalk Goto plan feds steps (Return reply.Done) → MakesOne site name (new_header (layout_of shape) size) steps
create_makes_one site name size shape plan feds steps is keeps walk =
    makes_one site name is.objects (new_header (layout_of shape) size) feds steps (is.counted keeps) (subst (λ p. IsWalk Goto p feds steps (Return reply.Done)) (is.within keeps) walk)

pub create_keeps_limits : (site : SiteId) (name : List ℕ) (size : ℕ) (shape : Shape) (plan : Plan) (feds : List Fed) (steps : List Answered)
    → IsCreate site name size shape plan → (KeepsLimits (layout_of shape) size → ⊥) → IsWalk Goto plan feds steps (Return reply.Done) → ⊥
create_keeps_limits site name size shape plan feds steps is outside walk =
    refusal_ends_otherwise (Return reply.Done) tt refusal.BadShape feds steps (subst (λ p. IsWalk Goto p feds steps (Return reply.Done)) (is.outside outside) walk)

module _ (site : SiteId) (name : List ℕ) (objects : ℕ) (h : HeaderView) (x : Refusal) where
  abbrev Refused : Plan
  Refused = Return (reply.Refused x)

  one_more : (n : ℕ) (steps rest : List Answered) (first : Answered) → steps ≡ first ∷ rest → length rest ≤ n → length steps ≤ suc n
  one_more n steps rest first are short = let longer : length steps ≡ suc (length rest) = ap length are in omega arith

  none_left : (n : ℕ) (rest : List Answered) → rest ≡ [] → length rest ≤ n
  none_left n rest none = let no : length rest ≡ 0 = ap length none in omega arith

  at_made : (a : Answer) (more : List Fed) (rest : List Answered) → IsWalk Goto (on_done (Return reply.Done) a) more rest Refused → length rest ≤ 0
  at_made answer.Done more rest w = none_left 0 rest (ended _ more rest Refused w).0
  at_made a more rest w = none_left 0 rest (absent_ends a more rest Refused w)

  at_mapped : (image : ℕ) (a : Answer) (more : List Fed) (rest : List Answered) → IsWalk Goto (on_done (making site h image) a) more rest Refused → length rest ≤ 1
  at_mapped image answer.Done more rest w =
      let m = asked_to (reply.Refused x) site reason.Own (op.Header image (header.Create h)) (on_done (Return reply.Done)) more rest w in
      one_more 0 rest m.rest _ m.are (at_made m.answer m.more m.rest m.walk)
  at_mapped image a more rest w = none_left 1 rest (absent_ends a more rest Refused w)

  at_drawn : (a : Answer) (more : List Fed) (rest : List Answered) → IsWalk Goto (on_drawn (mapping site objects h) a) more rest Refused → length rest ≤ 2
  at_drawn (answer.Id image) more rest w =
      let m = asked_to (reply.Refused x) site reason.Own (op.Map image (states.Resize objects)) (on_done (making site h image)) more rest w in
      one_more 1 rest m.rest _ m.are (at_mapped image m.answer m.more m.rest m.walk)
  at_drawn answer.Exists more rest w = none_left 2 rest (ended _ more rest Refused w).0
  at_drawn answer.Full more rest w = none_left 2 rest (ended _ more rest Refused w).0
  at_drawn a more rest w = none_left 2 rest (absent_ends a more rest Refused w)

  pub create_has_few : (feds : List Fed) (steps : List Answered) → IsWalk Goto (drawing site name objects h) feds steps Refused → length steps ≤ 3
  create_has_few feds steps walk =
      let w = asked_to (reply.Refused x) site reason.Own (op.Directory (directory.Add name)) (on_drawn (mapping site objects h)) feds steps walk in
      one_more 2 steps w.rest _ w.are (at_drawn w.answer w.more w.rest w.walk)

-- ---- ls, info, snap ls

told_names : (site : SiteId) (names : List (List ℕ)) (a : Answer) (feds : List Fed) (rest : List Answered) → IsWalk Goto (on_names (λ told. Return (reply.Names told)) a) feds rest (Return (reply.Names names))
    → record { site = site; op = op.Directory directory.List; answer = a } ∷ rest ≡ names_told site names ∷ []
told_names site names (answer.Names told) feds rest walk =
    let end = ended (reply.Names told) feds rest (Return (reply.Names names)) walk in
    let none : rest ≡ [] = end.0 in
    let same : Return (reply.Names names) ≡ Return (reply.Names told) = end.1 in
    cc
told_names site names a feds rest walk = absurd (nothing_ends_otherwise (Return (reply.Names names)) tt a feds rest walk)

pub names_are_listed : (site : SiteId) (names : List (List ℕ)) (feds : List Fed) (steps : List Answered) → IsWalk Goto (list_names site) feds steps (Return (reply.Names names)) → steps ≡ names_told site names ∷ []
names_are_listed site names feds steps walk =
    let w = went_on (Return (reply.Names names)) tt site reason.Own (op.Directory directory.List) (on_names (λ told. Return (reply.Names told))) feds steps walk in
    w.are ∙ told_names site names w.answer w.more w.rest w.walk

pub header_is_shown : (site : SiteId) (name : List ℕ) (shown : HeaderView → Reply) (r : Reply) (feds : List Fed) (steps : List Answered)
    → EndsUnrefused (Return r) → IsWalk Goto (show_header site name shown) feds steps (Return r) → ShowsHeader site name shown r steps
header_is_shown site name shown r feds steps kind walk =
    let w = went_on (Return r) kind site reason.Own (op.Directory (directory.Find name)) (on_id (showing site shown)) feds steps walk in
    let i = told_image (Return r) kind (showing site shown) w.answer w.more w.rest w.walk in
    let v = went_on (Return r) kind site reason.Own (op.Header i.image header.Get) (on_header (λ h. Return (shown h))) w.more w.rest i.walk in
    let h = told_header (Return r) kind (λ h. Return (shown h)) v.answer v.more v.rest v.walk in
    let end = ended (shown h.header) v.more v.rest (Return r) h.walk in
    let none : v.rest ≡ [] = end.0 in
    let same : Return r ≡ Return (shown h.header) = end.1 in
    record {
      image = i.image;
      header = h.header;
      are =
          w.are ∙ ap (λ a. record { site = site; op = op.Directory (directory.Find name); answer = a } ∷ w.rest) i.is
          ∙ ap (λ s. found site name i.image ∷ s)
          (v.are ∙ ap (λ a. record { site = site; op = op.Header i.image header.Get; answer = a } ∷ v.rest) h.is
          ∙ ap (λ s. looked_at site i.image h.header ∷ s) none);
      shows = cc;
    }

-- ---- du

pub record ToldBits (last : Plan) (next : List ℕ → Plan) (a : Answer) (feds : List Fed) (steps : List Answered) : Type 0 where
  pub bits : List ℕ
  pub is : a ≡ answer.Bits bits
  pub walk : IsWalk Goto (next bits) feds steps last

pub told_bits : (last : Plan) → EndsUnrefused last → (next : List ℕ → Plan) (a : Answer) (feds : List Fed) (steps : List Answered) → IsWalk Goto (on_bits next a) feds steps last → ToldBits last next a feds steps
told_bits last kind next (answer.Bits bits) feds steps walk = record { bits = bits; is = refl; walk = walk }
told_bits last kind next a feds steps walk = absurd (nothing_ends_otherwise last kind a feds steps walk)

same_used : (used of shown objects : ℕ) → Return (reply.Used used of) ≡ Return (reply.Used shown objects) → used ≡ shown
same_used used of shown objects same = cc

same_objects : (used of shown objects : ℕ) → Return (reply.Used used of) ≡ Return (reply.Used shown objects) → of ≡ objects
same_objects used of shown objects same = cc

pub used_is_shown : (site : SiteId) (name : List ℕ) (used of : ℕ) (feds : List Fed) (steps : List Answered)
    → AreGiven steps → IsWalk Goto (show_used site name) feds steps (Return (reply.Used used of)) → ShowsUsed site name used of steps
used_is_shown site name used of feds steps given walk =
    let last = Return (reply.Used used of) in
    let w = went_on last tt site reason.Own (op.Directory (directory.Find name)) (on_id (measuring site)) feds steps walk in
    let i = told_image last tt (measuring site) w.answer w.more w.rest w.walk in
    let v = went_on last tt site reason.Own (op.Header i.image header.Get) (on_header (λ h. counting site i.image (object_count h.layout h.size))) w.more w.rest i.walk in
    let h = told_header last tt (λ h. counting site i.image (object_count h.layout h.size)) v.answer v.more v.rest v.walk in
    let objects = object_count h.header.layout h.header.size in
    let m = went_on last tt site reason.Own (op.Map i.image (states.Get None)) (on_bits (λ bits. Return (reply.Used (used_among objects bits) objects))) v.more v.rest h.walk in
    let b = told_bits last tt (λ bits. Return (reply.Used (used_among objects bits) objects)) m.answer m.more m.rest m.walk in
    let end = ended (reply.Used (used_among objects b.bits) objects) m.more m.rest last b.walk in
    let are : steps ≡ found site name i.image ∷ looked_at site i.image h.header ∷ map_told site i.image b.bits ∷ [] =
    answered_so site _ w.answer (answer.Id i.image) w.rest _ steps w.are i.is
    (answered_so site _ v.answer (answer.Header h.header) v.rest _ w.rest v.are h.is
    (answered_so site _ m.answer (answer.Bits b.bits) m.rest [] v.rest m.are b.is end.0)) in
    let told = subst AreGiven are given in
    let form : IsHeaderInForm h.header = told.1.0.can.form in
    let same_of : of ≡ objects = same_objects used of (used_among objects b.bits) objects end.1 in
    record {
      image = i.image;
      header = h.header;
      bits = b.bits;
      are = are;
      of_is = subst (IsObjectCount h.header.layout h.header.size) (sym same_of) (counts h.header.layout h.header.size form.layout);
      used_is = same_used used of (used_among objects b.bits) objects end.1 ∙ ap (λ n. used_among n b.bits) (sym same_of);
    }

-- ---- rename

renamed_so : (site : SiteId) (from to : List ℕ) (a : Answer) (feds : List Fed) (rest : List Answered) → IsWalk Goto (on_renamed a) feds rest (Return reply.Done)
    → record { site = site; op = op.Directory (directory.Rename from to); answer = a } ∷ rest ≡ renamed_to site from to ∷ []
renamed_so site from to answer.Done feds rest walk = ap (λ r. renamed_to site from to ∷ r) (ended reply.Done feds rest (Return reply.Done) walk).0
renamed_so site from to answer.Exists feds rest walk = absurd (refusal_ends_otherwise (Return reply.Done) tt refusal.ImageExists feds rest walk)
renamed_so site from to a feds rest walk = absurd (nothing_ends_otherwise (Return reply.Done) tt a feds rest walk)

pub name_is_changed : (site : SiteId) (from to : List ℕ) (feds : List Fed) (steps : List Answered) → IsWalk Goto (rename site from to) feds steps (Return reply.Done) → steps ≡ renamed_to site from to ∷ []
name_is_changed site from to feds steps walk =
    let w = went_on (Return reply.Done) tt site reason.Own (op.Directory (directory.Rename from to)) on_renamed feds steps walk in
    w.are ∙ renamed_so site from to w.answer w.more w.rest w.walk

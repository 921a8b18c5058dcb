-- What a request was fed up to an end that is no refusal, step by step.
use Rattle.std.proofs.Common.{◌≡◌, ℕ, List, [], ◌∷◌, Option, Some, None, refl, ap, ◌∙◌, subst}
use Rattle.rbd_kinds.specs.declared.sharing.Sharing.{Sharing}
use Rattle.rbd_kinds.specs.declared.answer.Answer.{Answer}
use Rattle.rbd_kinds.specs.declared.answer.Answer.TheVariants as answer
use Rattle.rbd_kinds.specs.declared.directory_op.DirectoryOp.TheVariants as directory
use Rattle.rbd_kinds.specs.declared.header.HeaderView.{HeaderView}
use Rattle.rbd_kinds.specs.declared.header_op.HeaderOp.TheVariants as header
use Rattle.rbd_kinds.specs.declared.operation.Op.TheVariants as op
use Rattle.rbd_kinds.specs.declared.id.SiteId.{SiteId}
use Rattle.rbd_kinds.specs.declared.journal.JournalEvent.{JournalEvent}
use Rattle.rbd_kinds.specs.declared.machine.Fed.{Fed}
use Rattle.rbd_kinds.specs.declared.machine.Fed.TheVariants as fed
use Rattle.rbd_kinds.specs.declared.operation.Op.{Op}
use Rattle.rbd_commands.specs.declared.refusal.Refusal.{Refusal}
use Rattle.rbd_kinds.specs.declared.reply.Reply.{Reply}
use Rattle.rbd_kinds.specs.declared.reply.Reply.TheVariants as reply
use Rattle.rbd_machine.specs.Path.{Answered, IsWalk, found, looked_at}
use Rattle.rbd_machine.specs.Plan.{Plan, Ask, Await, Note, Return, Goto}
use Rattle.rbd_machine.specs.Steps.{not_there, unless, on_id, on_header, on_bits, on_done, change_plan, joining, looking, looked, holding, under_lock, owned}
use Rattle.rbd_machine.specs.Label.{Label}
use Rattle.rbd_machine.specs.Wait.{Wait}
use Rattle.rbd_machine.specs.Wait as wait
use Rattle.rbd_machine.specs.declared.reason.Reason.{Reason}
use Rattle.rbd_machine.specs.declared.reason.Reason.TheVariants as reason
use Rattle.rbd_machine.proofs.Settled.{settled_goto}

-- what has ended goes no further
pub ended : (r : Reply) (feds : List Fed) (steps : List Answered) (last : Plan) → IsWalk Goto (Return r) feds steps last → (steps ≡ []) × (last ≡ Return r)
ended r [] steps last walk = walk
ended r (f ∷ more) steps last walk = absurd walk

pub jump_ends_otherwise : (r : Reply) (label : Label) (feds : List Fed) (steps : List Answered) → IsWalk Goto (Goto label) feds steps (Return r) → ⊥
jump_ends_otherwise r label [] steps walk = let same = walk.1 in cc
jump_ends_otherwise r label (f ∷ more) steps walk = absurd walk

-- It has ended and isn't refused, or goes to a label.
abbrev pub EndsUnrefused : Plan → Type 0
EndsUnrefused (Return (reply.Refused x)) = ⊥
EndsUnrefused (Return r) = Unit {0}
EndsUnrefused (Goto label) = Unit {0}
EndsUnrefused _ = ⊥

-- an operation, its answer, and what came then
pub record WentOn (last : Plan) (site : SiteId) (op : Op) (next : Answer → Plan) (steps : List Answered) : Type 0 where
  pub answer : Answer
  pub more : List Fed
  pub rest : List Answered
  pub are : steps ≡ record { site = site; op = op; answer = answer } ∷ rest
  pub walk : IsWalk Goto (next answer) more rest last

pub record ToldImage (last : Plan) (next : ℕ → Plan) (a : Answer) (feds : List Fed) (steps : List Answered) : Type 0 where
  pub image : ℕ
  pub is : a ≡ answer.Id image
  pub walk : IsWalk Goto (next image) feds steps last

pub record ToldHeader (last : Plan) (next : HeaderView → Plan) (a : Answer) (feds : List Fed) (steps : List Answered) : Type 0 where
  pub header : HeaderView
  pub is : a ≡ answer.Header header
  pub walk : IsWalk Goto (next header) feds steps last

pub record ToldBits (last : Plan) (next : List ℕ → Plan) (a : Answer) (feds : List Fed) (steps : List Answered) : Type 0 where
  pub bits : List ℕ
  pub is : a ≡ answer.Bits bits
  pub walk : IsWalk Goto (next bits) feds steps last

pub record ToldDone (last : Plan) (next : Plan) (a : Answer) (feds : List Fed) (steps : List Answered) : Type 0 where
  pub is : a ≡ answer.Done
  pub walk : IsWalk Goto next feds steps last

pub record Passed (last : Plan) (next : Plan) (steps : List Answered) : Type 0 where
  pub more : List Fed
  pub walk : IsWalk Goto next more steps last

-- a look that refused nothing
pub record WentPast (last : Plan) (refusal : Option Refusal) (next : Plan) (feds : List Fed) (steps : List Answered) : Type 0 where
  pub may : refusal ≡ None
  pub walk : IsWalk Goto next feds steps last

-- a change came to its look under the lock, and what it did then
pub record Changed (last : Plan) (site : SiteId) (name : List ℕ) (refuses : HeaderView → Option Refusal) (act : ℕ → HeaderView → Plan) (steps : List Answered) : Type 0 where
  pub image : ℕ
  pub first : HeaderView
  pub own : HeaderView
  pub may_wait : refuses first ≡ None
  pub may : refuses own ≡ None
  pub more : List Fed
  pub rest : List Answered
  pub are : steps ≡ found site name image ∷ looked_at site image first ∷ looked_at site image own ∷ rest
  pub walk : IsWalk Goto (act image own) more rest last

-- whatever end it is, but the operation itself
pub went_on_to : (last : Plan) (site : SiteId) (why : Reason) (op : Op) (next : Answer → Plan) (feds : List Fed) (steps : List Answered)
    → (last ≡ Ask site why op next → ⊥) → IsWalk Goto (Ask site why op next) feds steps last → WentOn last site op next steps
went_on_to last site why op next [] steps other walk = absurd (other walk.1)
went_on_to last site why op next (fed.Passed ∷ more) steps other walk = absurd walk
went_on_to last site why op next (fed.Answer a ∷ more) steps other (first, walk) = record {
  answer = a;
  more = more;
  rest = first.rest;
  are = first.is;
  walk = subst (λ p. IsWalk Goto p more first.rest last) (settled_goto (next a)) walk;
}

pub awaited_to : (r : Reply) (wait : Wait) (next : Plan) (feds : List Fed) (steps : List Answered) → IsWalk Goto (Await wait next) feds steps (Return r) → Passed (Return r) next steps
awaited_to r wait next [] steps walk = let same = walk.1 in cc
awaited_to r wait next (fed.Answer a ∷ more) steps walk = absurd walk
awaited_to r wait next (fed.Passed ∷ more) steps walk = record { more = more; walk = subst (λ p. IsWalk Goto p more steps (Return r)) (settled_goto next) walk }

pub noted_to : (r : Reply) (site : SiteId) (image : ℕ) (event : JournalEvent) (next : Plan) (feds : List Fed) (steps : List Answered) → IsWalk Goto (Note site image event next) feds steps (Return r) → Passed (Return r) next steps
noted_to r site image event next [] steps walk = let same = walk.1 in cc
noted_to r site image event next (fed.Answer a ∷ more) steps walk = absurd walk
noted_to r site image event next (fed.Passed ∷ more) steps walk = record { more = more; walk = subst (λ p. IsWalk Goto p more steps (Return r)) (settled_goto next) walk }

pub asked_to : (r : Reply) (site : SiteId) (why : Reason) (op : Op) (next : Answer → Plan) (feds : List Fed) (steps : List Answered) → IsWalk Goto (Ask site why op next) feds steps (Return r) → WentOn (Return r) site op next steps
asked_to r site why op next feds steps walk = went_on_to (Return r) site why op next feds steps (λ same. cc) walk

-- what isn't there ends it
pub absent_ends : (a : Answer) (feds : List Fed) (steps : List Answered) (last : Plan) → IsWalk Goto (not_there a) feds steps last → steps ≡ []
absent_ends answer.Fenced feds steps last walk = (ended _ feds steps last walk).0
absent_ends _ feds steps last walk = (ended _ feds steps last walk).0

module _ (last : Plan) (kind : EndsUnrefused last) where
  pub refusal_ends_otherwise : (x : Refusal) (feds : List Fed) (steps : List Answered) → IsWalk Goto (Return (reply.Refused x)) feds steps last → ⊥
  refusal_ends_otherwise x feds steps w = subst EndsUnrefused (ended (reply.Refused x) feds steps last w).1 kind

  pub nothing_ends_otherwise : (a : Answer) (feds : List Fed) (steps : List Answered) → IsWalk Goto (not_there a) feds steps last → ⊥
  nothing_ends_otherwise answer.Fenced feds steps w = refusal_ends_otherwise _ feds steps w
  nothing_ends_otherwise _ feds steps w = refusal_ends_otherwise _ feds steps w

  pub went_on : (site : SiteId) (why : Reason) (op : Op) (next : Answer → Plan) (feds : List Fed) (steps : List Answered) → IsWalk Goto (Ask site why op next) feds steps last → WentOn last site op next steps
  went_on site why op next feds steps walk = went_on_to last site why op next feds steps (λ same. subst EndsUnrefused same kind) walk

  pub awaited : (wait : Wait) (next : Plan) (feds : List Fed) (steps : List Answered) → IsWalk Goto (Await wait next) feds steps last → Passed last next steps
  awaited wait next [] steps walk = absurd (subst EndsUnrefused walk.1 kind)
  awaited wait next (fed.Answer a ∷ more) steps walk = absurd walk
  awaited wait next (fed.Passed ∷ more) steps walk = record { more = more; walk = subst (λ p. IsWalk Goto p more steps last) (settled_goto next) walk }

  pub noted : (site : SiteId) (image : ℕ) (event : JournalEvent) (next : Plan) (feds : List Fed) (steps : List Answered) → IsWalk Goto (Note site image event next) feds steps last → Passed last next steps
  noted site image event next [] steps walk = absurd (subst EndsUnrefused walk.1 kind)
  noted site image event next (fed.Answer a ∷ more) steps walk = absurd walk
  noted site image event next (fed.Passed ∷ more) steps walk = record { more = more; walk = subst (λ p. IsWalk Goto p more steps last) (settled_goto next) walk }

  pub told_image : (next : ℕ → Plan) (a : Answer) (feds : List Fed) (steps : List Answered) → IsWalk Goto (on_id next a) feds steps last → ToldImage last next a feds steps
  told_image next (answer.Id image) feds steps walk = record { image = image; is = refl; walk = walk }
  told_image next a feds steps walk = absurd (nothing_ends_otherwise a feds steps walk)

  pub told_header : (next : HeaderView → Plan) (a : Answer) (feds : List Fed) (steps : List Answered) → IsWalk Goto (on_header next a) feds steps last → ToldHeader last next a feds steps
  told_header next (answer.Header h) feds steps walk = record { header = h; is = refl; walk = walk }
  told_header next a feds steps walk = absurd (nothing_ends_otherwise a feds steps walk)

  pub told_bits : (next : List ℕ → Plan) (a : Answer) (feds : List Fed) (steps : List Answered) → IsWalk Goto (on_bits next a) feds steps last → ToldBits last next a feds steps
  told_bits next (answer.Bits bits) feds steps walk = record { bits = bits; is = refl; walk = walk }
  told_bits next a feds steps walk = absurd (nothing_ends_otherwise a feds steps walk)

  pub told_done : (next : Plan) (a : Answer) (feds : List Fed) (steps : List Answered) → IsWalk Goto (on_done next a) feds steps last → ToldDone last next a feds steps
  told_done next answer.Done feds steps walk = record { is = refl; walk = walk }
  told_done next a feds steps walk = absurd (nothing_ends_otherwise a feds steps walk)

  pub went_past : (refusal : Option Refusal) (next : Plan) (feds : List Fed) (steps : List Answered) → IsWalk Goto (unless refusal next) feds steps last → WentPast last refusal next feds steps
  went_past None next feds steps walk = record { may = refl; walk = walk }
  went_past (Some x) next feds steps walk = absurd (refusal_ends_otherwise x feds steps walk)

  pub changed : (site : SiteId) (name : List ℕ) (sharing : Sharing) (refuses : HeaderView → Option Refusal) (act : ℕ → HeaderView → Plan) (feds : List Fed) (steps : List Answered)
      → IsWalk Goto (change_plan site name sharing refuses act) feds steps last → Changed last site name refuses act steps
  changed site name sharing refuses act feds steps walk =
      let w = went_on site reason.Own (op.Directory (directory.Find name)) (on_id (joining site sharing refuses act)) feds steps walk in
      let i = told_image (joining site sharing refuses act) w.answer w.more w.rest w.walk in
      let j = awaited (wait.Join site i.image sharing) (looking site refuses act i.image) w.more w.rest i.walk in
      let v = went_on site reason.Own (op.Header i.image header.Get) (on_header (looked site refuses act i.image)) j.more w.rest j.walk in
      let h = told_header (looked site refuses act i.image) v.answer v.more v.rest v.walk in
      let m = went_past (refuses h.header) (holding site refuses act i.image) v.more v.rest h.walk in
      let l = awaited (wait.Hold site i.image) (under_lock site refuses act i.image) v.more v.rest m.walk in
      let o = went_on site reason.Own (op.Header i.image header.Get) (on_header (owned refuses act i.image)) l.more v.rest l.walk in
      let t = told_header (owned refuses act i.image) o.answer o.more o.rest o.walk in
      let n = went_past (refuses t.header) (act i.image t.header) o.more o.rest t.walk in
      record {
        image = i.image;
        first = h.header;
        own = t.header;
        may_wait = m.may;
        may = n.may;
        more = o.more;
        rest = o.rest;
        are =
            w.are ∙ ap (λ a. record { site = site; op = op.Directory (directory.Find name); answer = a } ∷ w.rest) i.is
            ∙ ap (λ s. found site name i.image ∷ s)
            (v.are ∙ ap (λ a. record { site = site; op = op.Header i.image header.Get; answer = a } ∷ v.rest) h.is
            ∙ ap (λ s. looked_at site i.image h.header ∷ s)
            (o.are ∙ ap (λ a. record { site = site; op = op.Header i.image header.Get; answer = a } ∷ o.rest) t.is));
        walk = n.walk;
      }

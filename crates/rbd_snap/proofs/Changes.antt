-- Changes of snapshots that are done, step by step.
use Rattle.std.proofs.Common.{◌≡◌, ℕ, ◌+◌, List, [], ◌∷◌, Option, Some, None, refl, ap, ◌∙◌}
use Rattle.rbd_kinds.specs.declared.sharing.Sharing.TheVariants as sharing
use Rattle.rbd_kinds.specs.declared.answer.Answer.{Answer}
use Rattle.rbd_kinds.specs.declared.answer.Answer.TheVariants as answer
use Rattle.rbd_commands.specs.declared.command.Command.TheVariants as command
use Rattle.rbd_kinds.specs.declared.header.SnapView.{SnapView}
use Rattle.rbd_kinds.specs.declared.header_op.HeaderOp.TheVariants as header
use Rattle.rbd_kinds.specs.declared.id.SiteId.{SiteId}
use Rattle.rbd_kinds.specs.declared.journal.JournalEvent.TheVariants as event
use Rattle.rbd_kinds.specs.declared.machine.Fed.{Fed}
use Rattle.rbd_kinds.specs.declared.map_op.MapOp.TheVariants as states
use Rattle.rbd_kinds.specs.declared.operation.Op.TheVariants as op
use Rattle.rbd_commands.specs.declared.refusal.Refusal.TheVariants as refusal
use Rattle.rbd_kinds.specs.declared.reply.Reply.TheVariants as reply
use Rattle.rbd_kinds.specs.Header.{snap_named}
use Rattle.rbd_machine.specs.Path.{Answered, IsWalk, found, looked_at}
use Rattle.rbd_machine.specs.Plan.{Plan, Return, Goto}
use Rattle.rbd_machine.specs.Wait as wait
use Rattle.rbd_machine.specs.declared.reason.Reason.TheVariants as reason
use Rattle.rbd_machine.specs.Steps.{applied, on_done, on_bits}
use Rattle.rbd_machine.proofs.Walked.{ended, went_on, awaited, noted, told_done, changed, refusal_ends_otherwise, nothing_ends_otherwise}
use Rattle.rbd_meaning.specs.Snaps.{create_refuses, remove_refuses, snap_removed, map_removed, IsGone, TakesOne, RemovesOne}
use Rattle.rbd_snap.specs.Snap.{on_snap, on_gone, taking_snap, putting, copying, take, unmapping, removing, remove_snap_plan, remove_listed, snap_plan}
use Rattle.rbd_image.proofs.Shown.{answered_so, told_bits}

-- that it counts as applied is no operation
applied_at_the_end : (site : SiteId) (image : ℕ) (feds : List Fed) (steps : List Answered) → IsWalk Goto (applied site image) feds steps (Return reply.Done) → steps ≡ []
applied_at_the_end site image feds steps walk =
    let a = awaited (Return reply.Done) tt (wait.Applied site image) (Return reply.Done) feds steps walk in
    (ended reply.Done a.more steps (Return reply.Done) a.walk).0

record ToldSnap (next : Plan) (a : Answer) (feds : List Fed) (steps : List Answered) : Type 0 where
  pub taken : ℕ
  pub is : a ≡ answer.Snap taken
  pub walk : IsWalk Goto next feds steps (Return reply.Done)

told_snap : (next : Plan) (a : Answer) (feds : List Fed) (steps : List Answered) → IsWalk Goto (on_snap next a) feds steps (Return reply.Done) → ToldSnap next a feds steps
told_snap next (answer.Snap taken) feds steps walk = record { taken = taken; is = refl; walk = walk }
told_snap next a feds steps walk = absurd (nothing_ends_otherwise (Return reply.Done) tt a feds steps walk)

record ToldGone (next : Plan) (a : Answer) (feds : List Fed) (steps : List Answered) : Type 0 where
  pub is : IsGone a
  pub walk : IsWalk Goto next feds steps (Return reply.Done)

told_gone : (next : Plan) (a : Answer) (feds : List Fed) (steps : List Answered) → IsWalk Goto (on_gone next a) feds steps (Return reply.Done) → ToldGone next a feds steps
told_gone next answer.Done feds steps walk = record { is = tt; walk = walk }
told_gone next answer.Absent feds steps walk = record { is = tt; walk = walk }
told_gone next a feds steps walk = absurd (nothing_ends_otherwise (Return reply.Done) tt a feds steps walk)

pub takes_one : (site : SiteId) (name snap : List ℕ) (feds : List Fed) (steps : List Answered) → IsWalk Goto (snap_plan site (command.SnapCreate name snap)) feds steps (Return reply.Done) → TakesOne site name snap steps
takes_one site name snap feds steps walk =
    let c = changed (Return reply.Done) tt site name sharing.Alone (create_refuses snap) (take site snap) feds steps walk in
    let next = c.own.snap_seq + 1 in
    let end = applied site c.image in
    let n = noted (Return reply.Done) tt site c.image (event.SnapCreate snap) (copying site snap c.image next end) c.more c.rest c.walk in
    let g = went_on (Return reply.Done) tt site reason.Own (op.Map c.image (states.Get None)) (on_bits (putting site snap c.image next end)) n.more c.rest n.walk in
    let b = told_bits (Return reply.Done) tt (putting site snap c.image next end) g.answer g.more g.rest g.walk in
    let p = went_on (Return reply.Done) tt site reason.Own (op.Map c.image (states.Put (Some next) b.bits)) (on_done (taking_snap site snap c.image end)) g.more g.rest b.walk in
    let d = told_done (Return reply.Done) tt (taking_snap site snap c.image end) p.answer p.more p.rest p.walk in
    let w = went_on (Return reply.Done) tt site reason.Own (op.Header c.image (header.SnapAdd snap)) (on_snap end) p.more p.rest d.walk in
    let t = told_snap end w.answer w.more w.rest w.walk in
    record {
      image = c.image;
      first = c.first;
      own = c.own;
      may_wait = c.may_wait;
      may = c.may;
      bits = b.bits;
      taken = t.taken;
      are =
          c.are ∙ ap (λ s. found site name c.image ∷ looked_at site c.image c.first ∷ looked_at site c.image c.own ∷ s)
          (answered_so site _ g.answer (answer.Bits b.bits) g.rest _ c.rest g.are b.is
          (answered_so site _ p.answer answer.Done p.rest _ g.rest p.are d.is
          (answered_so site _ w.answer (answer.Snap t.taken) w.rest [] p.rest w.are t.is (applied_at_the_end site c.image w.more w.rest t.walk))));
    }

record Listed (site : SiteId) (image : ℕ) (found : Option SnapView) (steps : List Answered) : Type 0 where
  pub listed : SnapView
  pub is : found ≡ Some listed
  pub gone : Answer
  pub is_gone : IsGone gone
  pub are : steps ≡ snap_removed site image listed.id ∷ map_removed site image listed.id gone ∷ []

removed : (site : SiteId) (snap : List ℕ) (image : ℕ) (found : Option SnapView) (feds : List Fed) (steps : List Answered) → IsWalk Goto (remove_listed site snap image found) feds steps (Return reply.Done) → Listed site image found steps
removed site snap image None feds steps walk = absurd (refusal_ends_otherwise (Return reply.Done) tt refusal.NoSnap feds steps walk)
removed site snap image (Some listed) feds steps walk =
    let n = noted (Return reply.Done) tt site image (event.SnapRemove snap) (removing site image listed.id (applied site image)) feds steps walk in
    let w = went_on (Return reply.Done) tt site reason.Own (op.Header image (header.SnapRemove listed.id)) (on_done (unmapping site image listed.id (applied site image))) n.more steps n.walk in
    let d = told_done (Return reply.Done) tt (unmapping site image listed.id (applied site image)) w.answer w.more w.rest w.walk in
    let u = went_on (Return reply.Done) tt site reason.Own (op.Map image (states.Remove (Some listed.id))) (on_gone (applied site image)) w.more w.rest d.walk in
    let g = told_gone (applied site image) u.answer u.more u.rest u.walk in
    record {
      listed = listed;
      is = refl;
      gone = u.answer;
      is_gone = g.is;
      are =
          answered_so site _ w.answer answer.Done w.rest _ steps w.are d.is
          (answered_so site _ u.answer u.answer u.rest [] w.rest u.are refl (applied_at_the_end site image u.more u.rest g.walk));
    }

pub removes_one : (site : SiteId) (name snap : List ℕ) (feds : List Fed) (steps : List Answered) → IsWalk Goto (snap_plan site (command.SnapRemove name snap)) feds steps (Return reply.Done) → RemovesOne site name snap steps
removes_one site name snap feds steps walk =
    let c = changed (Return reply.Done) tt site name sharing.Alone (remove_refuses snap) (remove_snap_plan site snap) feds steps walk in
    let l = removed site snap c.image (snap_named c.own.snaps snap) c.more c.rest c.walk in
    record {
      image = c.image;
      first = c.first;
      own = c.own;
      may_wait = c.may_wait;
      may = c.may;
      listed = l.listed;
      is_listed = l.is;
      gone = l.gone;
      is_gone = l.is_gone;
      are = c.are ∙ ap (λ s. found site name c.image ∷ looked_at site c.image c.first ∷ looked_at site c.image c.own ∷ s) l.are;
    }

-- How a change ends: on its way, or by what it does at its look under the lock.
use Rattle.std.proofs.Common.{◌≡◌, ◌⊎◌, inl, inr, ℕ, ◌≤◌, List, [], ◌∷◌, ◌++◌, length, Option, Some, None, refl, ap, ◌∙◌, subst, arith}
use Rattle.rbd_kinds.specs.declared.sharing.Sharing.{Sharing}
use Rattle.rbd_kinds.specs.declared.answer.Answer.{Answer}
use Rattle.rbd_kinds.specs.declared.answer.Answer.TheVariants as answer
use Rattle.rbd_kinds.specs.declared.header.HeaderView.{HeaderView}
use Rattle.rbd_kinds.specs.declared.header_op.HeaderOp.TheVariants as header
use Rattle.rbd_kinds.specs.declared.id.SiteId.{SiteId}
use Rattle.rbd_kinds.specs.declared.machine.Fed.{Fed}
use Rattle.rbd_kinds.specs.declared.operation.Op.{Op}
use Rattle.rbd_kinds.specs.declared.operation.Op.TheVariants as op
use Rattle.rbd_commands.specs.declared.refusal.Refusal.{Refusal}
use Rattle.rbd_commands.specs.declared.refusal.Refusal.TheVariants as refusal
use Rattle.rbd_kinds.specs.declared.reply.Reply.{Reply}
use Rattle.rbd_kinds.specs.declared.reply.Reply.TheVariants as reply
use Rattle.rbd_machine.specs.About.{look_up, owned_behind}
use Rattle.rbd_machine.specs.Path.{Answered, IsWalk, found, looked_at}
use Rattle.rbd_machine.specs.Plan.{Plan, Return, Goto}
use Rattle.rbd_machine.specs.Refused.{AreAllowed, AreGiven, AreLooks, IsGiven, IsRefusedBy, MayRefuse, refusal_by}
use Rattle.rbd_kinds.proofs.Results.{same_refusal}
use Rattle.rbd_machine.specs.Steps.{on_id, on_header, unless, change_plan, joining, looking, looked, holding, under_lock, owned}
use Rattle.rbd_machine.specs.Wait as wait
use Rattle.rbd_machine.specs.declared.reason.Reason.TheVariants as reason
use Rattle.rbd_machine.proofs.Walked.{Changed, ended, asked_to, awaited_to}

-- It was refused on its way, by its last operation, and had only looked.
pub record IsEarly (refuses : HeaderView → Option Refusal) (steps : List Answered) (r : Reply) : Type 0 where
  pub why : Refusal
  pub is : r ≡ reply.Refused why
  pub before : List Answered
  pub last : Answered
  pub are : steps ≡ before ++ last ∷ []
  pub looks : AreLooks before
  pub own : MayRefuse (owned_behind [] before) last
  pub allowed : AreAllowed refuses [] before
  pub refused : IsGiven last.op last.answer → refusal_by refuses last.op last.answer ≡ Some why
  pub few : length before ≤ 2

pub last_given : (before : List Answered) (last : Answered) → AreGiven (before ++ last ∷ []) → IsGiven last.op last.answer
last_given [] last given = given.0
last_given (s ∷ before) last given = last_given before last given.1

-- so its refusal is that of its last operation, whatever may be refused late
abbrev pub refused_early : (refuses : HeaderView → Option Refusal) (late : Refusal → Type 0) (steps : List Answered) (x : Refusal) → AreGiven steps → IsEarly refuses steps (reply.Refused x)
    → IsRefusedBy refuses late steps x
refused_early refuses late steps x given e = record {
  before = e.before;
  last = e.last;
  are = e.are;
  own = e.own;
  refused = e.refused (last_given e.before e.last (subst AreGiven e.are given)) ∙ ap Some (same_refusal x e.why e.is);
  allowed = e.allowed;
  unchanged = λ not_late. e.looks;
}

module _ (r : Reply) (site : SiteId) (name : List ℕ) (sharing : Sharing) (refuses : HeaderView → Option Refusal) (act : ℕ → HeaderView → Plan) (steps : List Answered) where
  abbrev Left : Type 0
  Left = Changed (Return r) site name refuses act steps ⊎ IsEarly refuses steps r

  abbrev asked : Op → Answer → Answered
  asked o a = record { site = site; op = o; answer = a }

  -- the end of a plan that refused
  stop : (why : Refusal) (before : List Answered) (last : Answered) (feds : List Fed) (rest : List Answered) → steps ≡ before ++ last ∷ rest → IsWalk Goto (Return (reply.Refused why)) feds rest (Return r)
      → AreLooks before → MayRefuse (owned_behind [] before) last → AreAllowed refuses [] before → (IsGiven last.op last.answer → refusal_by refuses last.op last.answer ≡ Some why) → length before ≤ 2 → Left
  stop why before last feds rest are walk looks own allowed refused few =
      let end = ended (reply.Refused why) feds rest (Return r) walk in
      let none : rest ≡ [] = end.0 in
      let same : Return r ≡ Return (reply.Refused why) = end.1 in
      inr (record {
        why = why;
        is = (let e : r ≡ reply.Refused why = cc in e);
        before = before;
        last = last;
        are = are ∙ ap (λ rest. before ++ last ∷ rest) none;
        looks = looks;
        own = own;
        allowed = allowed;
        refused = refused;
        few = few;
      })

  -- ---- the looks

  at_own : (image : ℕ) (first own : HeaderView) → refuses first ≡ None → (feds : List Fed) (rest : List Answered) → steps ≡ found site name image ∷ looked_at site image first ∷ looked_at site image own ∷ rest
      → (x : Option Refusal) → refuses own ≡ x → IsWalk Goto (unless x (act image own)) feds rest (Return r) → Left
  at_own image first own may_wait feds rest are (Some y) is walk =
      stop y (found site name image ∷ looked_at site image first ∷ []) (looked_at site image own) feds rest are walk (refl, (refl, tt)) (inr (inl refl)) (λ own. refl, (λ own. may_wait, tt)) (λ given. is) (omega arith)
  at_own image first own may_wait feds rest are None may walk =
      inl (record { image = image; first = first; own = own; may_wait = may_wait; may = may; more = feds; rest = rest; are = are; walk = walk })

  at_first : (image : ℕ) (first : HeaderView) (feds : List Fed) (rest : List Answered) → steps ≡ found site name image ∷ looked_at site image first ∷ rest
      → (x : Option Refusal) → refuses first ≡ x → IsWalk Goto (unless x (holding site refuses act image)) feds rest (Return r) → Left
  at_first image first feds rest are (Some y) is walk = stop y (found site name image ∷ []) (looked_at site image first) feds rest are walk (refl, tt) (inr (inl refl)) (λ own. refl, tt) (λ given. is) (omega arith)
  at_first image first feds rest are None may_wait walk =
      let l = awaited_to r (wait.Hold site image) (under_lock site refuses act image) feds rest walk in
      let o = asked_to r site reason.Own (op.Header image header.Get) (on_header (owned refuses act image)) l.more rest l.walk in
      go o.answer o.more o.rest (are ∙ ap (λ s. found site name image ∷ looked_at site image first ∷ s) o.are) o.walk
    where
      looks : AreLooks (found site name image ∷ looked_at site image first ∷ [])
      looks = (refl, (refl, tt))

      go : (a : Answer) (more : List Fed) (last : List Answered) → steps ≡ found site name image ∷ looked_at site image first ∷ asked (op.Header image header.Get) a ∷ last
          → IsWalk Goto (on_header (owned refuses act image) a) more last (Return r) → Left
      go (answer.Header own) more last are w = at_own image first own may_wait more last are (refuses own) refl w
      go answer.Fenced more last are w =
          stop refusal.Fenced (found site name image ∷ looked_at site image first ∷ []) (asked (op.Header image header.Get) answer.Fenced) more last are w looks (inr (inl refl)) (λ own. refl, (λ own. may_wait, tt)) (λ given. refl) (omega arith)
      go answer.Absent more last are w =
          stop refusal.NoImage (found site name image ∷ looked_at site image first ∷ []) (asked (op.Header image header.Get) answer.Absent) more last are w looks (inr (inl refl)) (λ own. refl, (λ own. may_wait, tt)) (λ given. refl) (omega arith)
      go _ more last are w = stop refusal.NoImage (found site name image ∷ looked_at site image first ∷ []) _ more last are w looks (inr (inl refl)) (λ own. refl, (λ own. may_wait, tt)) (λ given. let no = given.can.word in cc) (omega arith)

  at_found : (image : ℕ) (feds : List Fed) (rest : List Answered) → steps ≡ found site name image ∷ rest → IsWalk Goto (joining site sharing refuses act image) feds rest (Return r) → Left
  at_found image feds rest are walk =
      let j = awaited_to r (wait.Join site image sharing) (looking site refuses act image) feds rest walk in
      let v = asked_to r site reason.Own (op.Header image header.Get) (on_header (looked site refuses act image)) j.more rest j.walk in
      go v.answer v.more v.rest (are ∙ ap (λ s. found site name image ∷ s) v.are) v.walk
    where
      go : (a : Answer) (more : List Fed) (last : List Answered) → steps ≡ found site name image ∷ asked (op.Header image header.Get) a ∷ last
          → IsWalk Goto (on_header (looked site refuses act image) a) more last (Return r) → Left
      go (answer.Header first) more last are w = at_first image first more last are (refuses first) refl w
      go answer.Fenced more last are w = stop refusal.Fenced (found site name image ∷ []) (asked (op.Header image header.Get) answer.Fenced) more last are w (refl, tt) (inr (inl refl)) (λ own. refl, tt) (λ given. refl) (omega arith)
      go answer.Absent more last are w = stop refusal.NoImage (found site name image ∷ []) (asked (op.Header image header.Get) answer.Absent) more last are w (refl, tt) (inr (inl refl)) (λ own. refl, tt) (λ given. refl) (omega arith)
      go _ more last are w = stop refusal.NoImage (found site name image ∷ []) _ more last are w (refl, tt) (inr (inl refl)) (λ own. refl, tt) (λ given. let no = given.can.word in cc) (omega arith)

  pub change_ends : (feds : List Fed) → IsWalk Goto (change_plan site name sharing refuses act) feds steps (Return r) → Left
  change_ends feds walk =
      let w = asked_to r site reason.Own (look_up name) (on_id (joining site sharing refuses act)) feds steps walk in
      go w.answer w.more w.rest w.are w.walk
    where
      go : (a : Answer) (more : List Fed) (rest : List Answered) → steps ≡ asked (look_up name) a ∷ rest → IsWalk Goto (on_id (joining site sharing refuses act) a) more rest (Return r) → Left
      go (answer.Id image) more rest are w = at_found image more rest are w
      go answer.Fenced more rest are w = stop refusal.Fenced [] (asked (look_up name) answer.Fenced) more rest are w tt (inr tt) tt (λ given. refl) (omega arith)
      go answer.Absent more rest are w = stop refusal.NoImage [] (asked (look_up name) answer.Absent) more rest are w tt (inr tt) tt (λ given. refl) (omega arith)
      go _ more rest are w = stop refusal.NoImage [] _ more rest are w tt (inr tt) tt (λ given. let no = given.can.word in cc) (omega arith)

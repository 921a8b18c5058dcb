-- What a release does.
use Rattle.std.proofs.Common.{◌≡◌, ℕ, Bool, false, List, [], ◌∷◌, refl, sym, ap, ◌∙◌, subst}
use Rattle.rbd_kinds.specs.declared.answer.Answer.{Answer}
use Rattle.rbd_kinds.specs.declared.answer.Answer.TheVariants as answer
use Rattle.rbd_kinds.specs.declared.id.SiteId.{SiteId}
use Rattle.rbd_kinds.specs.declared.machine.Fed.{Fed}
use Rattle.rbd_kinds.specs.declared.machine.Fed.TheVariants as fed
use Rattle.rbd_kinds.specs.declared.reply.Reply.{Reply}
use Rattle.rbd_kinds.specs.declared.reply.Reply.TheVariants as reply
use Rattle.rbd_machine.specs.Path.{Answered, IsBounded, IsWalk}
use Rattle.rbd_machine.specs.Plan.{Plan, Return, Goto, IsClosed, past_label}
use Rattle.rbd_machine.specs.declared.reason.Reason.TheVariants as reason
use Rattle.rbd_machine.proofs.Walked.{ended, went_on_to}
use Rattle.rbd_lock.specs.Release.{release, on_dropped, LetsGo, TellsOfDrop}
use Rattle.rbd_lock.specs.Steps.{lock_drop, released_lock}
use Rattle.rbd_lock.specs.Waiting.{owned_by}

same_reply : (r s : Reply) → Return r ≡ Return s → r ≡ s
same_reply r s same = cc

module _ (site : SiteId) (image : ℕ) where
  abbrev dropped : Answer → Answered
  dropped a = record { site = site; op = lock_drop image; answer = a }

  record Ends (a : Answer) (rest : List Answered) (r : Reply) : Type 0 where
    pub done : r ≡ reply.Done
    pub tells : TellsOfDrop site image a rest

  ends_there : (rest : List Answered) (r : Reply) (feds : List Fed) → IsWalk Goto (Return reply.Done) feds rest (Return r) → (rest ≡ []) × (r ≡ reply.Done)
  ends_there rest r feds walk = let end = ended reply.Done feds rest (Return r) walk in (end.0, same_reply r reply.Done end.1)

  ends_behind : (a : Answer) (rest : List Answered) (r : Reply) (feds : List Fed) → IsWalk Goto (on_dropped site image a) feds rest (Return r) → Ends a rest r
  ends_behind answer.Done rest r feds walk =
      let w = went_on_to (Return r) site reason.Own (released_lock image) (λ a. Return reply.Done) feds rest (λ same. cc) walk in
      let end = ends_there w.rest r w.more w.walk in
      record { done = end.1; tells = (w.answer, w.are ∙ ap (λ more. record { site = site; op = released_lock image; answer = w.answer } ∷ more) end.0) }
  ends_behind a rest r feds walk = let end = ends_there rest r feds walk in record { done = end.1; tells = end.0 }

  pub release_ends : (feds : List Fed) (steps : List Answered) (r : Reply) → IsWalk Goto (release site image) feds steps (Return r)
      → (r ≡ reply.Done) × LetsGo site image steps
  release_ends feds steps r walk =
      let w = went_on_to (Return r) site reason.Own (lock_drop image) (on_dropped site image) feds steps (λ same. cc) walk in
      let e = ends_behind w.answer w.rest r w.more w.walk in
      (e.done, record { dropped = w.answer; behind = w.rest; are = w.are; tells = e.tells })

  bounded_on_dropped : (a : Answer) → IsBounded (on_dropped site image a) 1
  bounded_on_dropped answer.Done = λ a. tt
  bounded_on_dropped a = tt

  pub bounded_release : IsBounded (release site image) 2
  bounded_release = bounded_on_dropped

  closed_on_dropped : (a : Answer) → IsClosed Goto (on_dropped site image a)
  closed_on_dropped answer.Done = λ a. tt
  closed_on_dropped a = tt

  pub closed_release : IsClosed Goto (release site image)
  closed_release = closed_on_dropped

  -- ---- what the session counts

  -- whatever the notification is answered, nothing is taken
  owned_behind : (a : Answer) (rest : List Answered) (last : Plan) (feds : List Fed) → IsWalk Goto (past_label Goto (on_dropped site image a)) feds rest last → owned_by false rest ≡ false
  owned_behind answer.Done rest last [] walk = subst (λ s. owned_by false s ≡ false) (sym walk.0) refl
  owned_behind answer.Done rest last (fed.Passed ∷ more) walk = absurd walk
  owned_behind answer.Done rest last (fed.Answer b ∷ more) (first, walk) =
      let none = (ended reply.Done more first.rest last walk).0 in
      subst (λ s. owned_by false s ≡ false) (sym (first.is ∙ ap (λ r. record { site = site; op = released_lock image; answer = b } ∷ r) none)) refl
  owned_behind a rest last feds walk = subst (λ s. owned_by false s ≡ false) (sym (ended reply.Done feds rest last walk).0) refl

  -- it has done something
  abbrev HasStep : List Answered → Type 0
  HasStep [] = ⊥
  HasStep (s ∷ steps) = Unit {0}

  owned_past : (owned : Bool) (feds : List Fed) (steps : List Answered) (last : Plan) → HasStep steps → IsWalk Goto (release site image) feds steps last → owned_by owned steps ≡ false
  owned_past owned [] steps last some walk = absurd (subst HasStep walk.0 some)
  owned_past owned (fed.Passed ∷ more) steps last some walk = absurd walk
  owned_past owned (fed.Answer a ∷ more) steps last some (first, walk) =
      subst (λ s. owned_by owned s ≡ false) (sym first.is) (owned_behind a first.rest last more walk)

  pub release_owned : (owned : Bool) (feds : List Fed) (first : Answered) (more : List Answered) (last : Plan)
      → IsWalk Goto (release site image) feds (first ∷ more) last → owned_by owned (first ∷ more) ≡ false
  release_owned owned feds first more last walk = owned_past owned feds (first ∷ more) last tt walk

-- Plans whose operations are their own, step by step.
use Rattle.std.proofs.Common.{◌≡◌, inl, ℕ, List, [], ◌∷◌, Option, Some, None, refl, sym, subst}
use Rattle.rbd_kinds.specs.declared.sharing.Sharing.{Sharing}
use Rattle.rbd_kinds.specs.declared.answer.Answer.{Answer}
use Rattle.rbd_kinds.specs.declared.answer.Answer.TheVariants as answer
use Rattle.rbd_kinds.specs.declared.header.HeaderView.{HeaderView}
use Rattle.rbd_kinds.specs.declared.id.SiteId.{SiteId}
use Rattle.rbd_kinds.specs.declared.machine.Fed.{Fed}
use Rattle.rbd_kinds.specs.declared.machine.Fed.TheVariants as fed
use Rattle.rbd_kinds.specs.declared.operation.Op.{Op}
use Rattle.rbd_commands.specs.declared.refusal.Refusal.{Refusal}
use Rattle.rbd_machine.specs.About.{image_of, AreOfImage, AreOwn}
use Rattle.rbd_machine.specs.Ancestors.{HeaderSeen, seen_by}
use Rattle.rbd_machine.specs.Path.{Answered, IsWalk}
use Rattle.rbd_machine.specs.Plan.{Plan, Ask, Await, Note, Return, Goto, past_label}
use Rattle.rbd_machine.specs.Steps.{not_there, unless, on_id, on_header, on_done, own, joining, looked, holding, owned}
use Rattle.rbd_machine.proofs.Settled.{settled_goto}
use Rattle.rbd_machine.proofs.Walked.{ended}

module _ (site : SiteId) where
  -- each operation is of the image
  abbrev pub IsOfImage : (image : ℕ) → Plan → Type 0
  IsOfImage image (Ask s why o next) = (s ≡ site) × (image_of o ≡ Some image) × ((a : Answer) → IsOfImage image (next a))
  IsOfImage image (Await wait next) = IsOfImage image next
  IsOfImage image (Note s i event next) = IsOfImage image next
  IsOfImage image (Return r) = Unit {0}
  IsOfImage image (Goto label) = Unit {0}

  -- ---- steps

  module _ (image : ℕ) where
    pub of_not_there : (a : Answer) → IsOfImage image (not_there a)
    of_not_there answer.Fenced = tt
    of_not_there _ = tt

    pub of_on_header : (next : HeaderView → Plan) → ((h : HeaderView) → IsOfImage image (next h)) → (a : Answer) → IsOfImage image (on_header next a)
    of_on_header next of (answer.Header h) = of h
    of_on_header next of a = of_not_there a

    pub of_on_done : (next : Plan) → IsOfImage image next → (a : Answer) → IsOfImage image (on_done next a)
    of_on_done next of answer.Done = of
    of_on_done next of a = of_not_there a

    pub of_unless : (r : Option Refusal) (next : Plan) → IsOfImage image next → IsOfImage image (unless r next)
    of_unless None next of = of
    of_unless (Some r) next of = tt

    pub of_joining : (sharing : Sharing) (refuses : HeaderView → Option Refusal) (act : ℕ → HeaderView → Plan) → ((h : HeaderView) → IsOfImage image (act image h)) → IsOfImage image (joining site sharing refuses act image)
    of_joining sharing refuses act acts = (
      refl,
      refl,
      of_on_header (looked site refuses act image) (λ h.
          of_unless (refuses h) (holding site refuses act image)
          (refl, refl, of_on_header (owned refuses act image) (λ own. of_unless (refuses own) (act image own) (acts own)))),
    )

    of_settled : (plan : Plan) → IsOfImage image plan → IsOfImage image (past_label Goto plan)
    of_settled plan of = subst (IsOfImage image) (sym (settled_goto plan)) of

    of_image : (seen : List HeaderSeen) (feds : List Fed) (plan : Plan) (steps : List Answered) (last : Plan) → IsOfImage image plan → IsWalk Goto plan feds steps last → AreOfImage seen site image steps
    of_image seen [] plan steps last of walk = subst (AreOfImage seen site image) (sym walk.0) tt
    of_image seen (fed.Answer a ∷ more) (Ask s why o next) steps last (at, of, goes_on) (first, walk) =
        subst (AreOfImage seen site image) (sym first.is) (at, inl of, of_image (seen_by seen s o a) more (past_label Goto (next a)) first.rest last (of_settled (next a) (goes_on a)) walk)
    of_image seen (fed.Passed ∷ more) (Ask s why o next) steps last of walk = absurd walk
    of_image seen (fed.Passed ∷ more) (Await wait next) steps last of walk = of_image seen more (past_label Goto next) steps last (of_settled next of) walk
    of_image seen (fed.Answer a ∷ more) (Await wait next) steps last of walk = absurd walk
    of_image seen (fed.Passed ∷ more) (Note s i event next) steps last of walk = of_image seen more (past_label Goto next) steps last (of_settled next of) walk
    of_image seen (fed.Answer a ∷ more) (Note s i event next) steps last of walk = absurd walk
    of_image seen (f ∷ more) (Return r) steps last of walk = absurd walk
    of_image seen (f ∷ more) (Goto label) steps last of walk = absurd walk

  -- ---- the whole

  abbrev HasEnded : Plan → Type 0
  HasEnded (Return r) = Unit {0}
  HasEnded _ = ⊥

  -- An image that is told is gone by, and any other answer is the end.
  abbrev pub GoesByImage : Answer → Plan → Type 0
  GoesByImage (answer.Id image) next = IsOfImage image next
  GoesByImage _ next = HasEnded next

  ended_is_ended : (plan : Plan) (feds : List Fed) (steps : List Answered) (last : Plan) → HasEnded plan → IsWalk Goto (past_label Goto plan) feds steps last → steps ≡ []
  ended_is_ended (Return r) feds steps last has walk = (ended r feds steps last walk).0
  ended_is_ended (Ask s why o next) feds steps last has walk = absurd has
  ended_is_ended (Await wait next) feds steps last has walk = absurd has
  ended_is_ended (Note s i event next) feds steps last has walk = absurd has
  ended_is_ended (Goto label) feds steps last has walk = absurd has

  pub by_on_id : (next : ℕ → Plan) → ((image : ℕ) → IsOfImage image (next image)) → (a : Answer) → GoesByImage a (on_id next a)
  by_on_id next of (answer.Id image) = of image
  by_on_id next of answer.Fenced = tt
  by_on_id next of _ = tt

  first_of : (ask : Op) (a : Answer) (next : Plan) (feds : List Fed) (rest : List Answered) (last : Plan) → GoesByImage a next → IsWalk Goto (past_label Goto next) feds rest last
      → AreOwn site ask (record { site = site; op = ask; answer = a } ∷ rest)
  first_of ask (answer.Id image) next feds rest last by walk = go rest (of_image image [] feds (past_label Goto next) rest last (of_settled image next by) walk)
    where
      go : (rest : List Answered) → AreOfImage [] site image rest → AreOwn site ask (record { site = site; op = ask; answer = answer.Id image } ∷ rest)
      go [] are = (refl, refl)
      go (step ∷ rest) are = record { image = image; told = refl; are = are }
  first_of ask a next feds rest last by walk = subst (λ s. AreOwn site ask (record { site = site; op = ask; answer = a } ∷ s)) (sym (ended_is_ended next feds rest last by walk)) (refl, refl)

  pub are_own : (ask : Op) (next : Answer → Plan) → ((a : Answer) → GoesByImage a (next a)) → (feds : List Fed) (steps : List Answered) (last : Plan)
      → IsWalk Goto (own site ask next) feds steps last → AreOwn site ask steps
  are_own ask next by [] steps last walk = subst (AreOwn site ask) (sym walk.0) tt
  are_own ask next by (fed.Passed ∷ more) steps last walk = absurd walk
  are_own ask next by (fed.Answer a ∷ more) steps last (first, walk) = subst (AreOwn site ask) (sym first.is) (first_of ask a (next a) more first.rest last (by a) walk)

-- What follows from a row, without a look at any command.
use Rattle.std.proofs.Common.{◌≡◌, refl, sym, subst, ◌∙◌, ap, ℕ, not, Bool, true, false, ◌||◌, List, [], ◌∷◌, inl, inr, Some}
use Rattle.std.specs.List.{list_any}
use Rattle.rbd_kinds.specs.declared.answer.Answer.{Answer}
use Rattle.rbd_kinds.specs.declared.id.SiteId.{SiteId}
use Rattle.rbd_kinds.specs.declared.journal.JournalEvent.{JournalEvent}
use Rattle.rbd_kinds.specs.declared.machine.Fed.{Fed}
use Rattle.rbd_kinds.specs.declared.machine.Fed.TheVariants as fed
use Rattle.rbd_kinds.specs.declared.operation.Op.{Op}
use Rattle.rbd_kinds.specs.declared.operation_kind.OpKind.{OpKind}
use Rattle.rbd_kinds.specs.declared.sharing.Sharing.{Sharing}
use Rattle.rbd_kinds.specs.OperationKind.{kind_of}
use Rattle.rbd_machine.specs.Label.{Label}
use Rattle.rbd_machine.specs.Path.{Answered, IsWalk}
use Rattle.rbd_machine.specs.Plan.{Plan, Ask, Await, Note, Return, Goto, Standing, past_label}
use Rattle.rbd_machine.specs.Wait as wait
use Rattle.rbd_machine.specs.declared.reason.Reason.{Reason}
use Rattle.rbd_catalog.specs.Follows.{AreNoneOf, AreOfKinds, Follows, FollowsFrom, IsAmong, Outside, Progress}
use Rattle.rbd_catalog.specs.Profile.{Profile, has_none_of}

-- ---- wherever a request has come, the rest of its plan follows the row

pub record FollowsOn (p : Profile) (plan : Plan) : Type 0 where
  pub at : Progress
  pub is : Follows p at plan

module _ (p : Profile) (labels : Label → Plan) (begins : (label : Label) → Follows p Outside (labels label)) where
  settled_follows : (at : Progress) (plan : Plan) → Follows p at plan → FollowsOn p (past_label labels plan)
  settled_follows at (Ask site why op next) follows = record { at = at; is = follows }
  settled_follows at (Await wait next) follows = record { at = at; is = follows }
  settled_follows at (Note site image event next) follows = record { at = at; is = follows }
  settled_follows at (Return reply) follows = record { at = at; is = follows }
  settled_follows at (Goto label) follows = record { at = Outside; is = begins label }

  -- and each operation that was done on its way is of a kind of the row
  record CameAlong (steps : List Answered) (last : Plan) : Type 0 where
    on : FollowsOn p last
    kinds : AreOfKinds p.kinds steps

  walked : (plan : Plan) → FollowsOn p plan → (feds : List Fed) (steps : List Answered) (last : Plan) → IsWalk labels plan feds steps last → CameAlong steps last
  walked plan on [] steps last walk = record { on = subst (FollowsOn p) (sym walk.1) on; kinds = subst (AreOfKinds p.kinds) (sym walk.0) tt }
  walked (Ask site why op next) on (fed.Answer a ∷ more) steps last walk =
      let came = walked (past_label labels (next a)) (settled_follows on.at (next a) (on.is.1 a)) more walk.0.rest last walk.1 in
      record { on = came.on; kinds = subst (AreOfKinds p.kinds) (sym walk.0.is) (on.is.0.kind, came.kinds) }
  walked (Ask site why op next) on (fed.Passed ∷ more) steps last walk = absurd walk
  walked (Await wait next) on (fed.Passed ∷ more) steps last walk = walked (past_label labels next) (settled_follows _ next on.is.1) more steps last walk
  walked (Await wait next) on (fed.Answer a ∷ more) steps last walk = absurd walk
  walked (Note site image event next) on (fed.Passed ∷ more) steps last walk = walked (past_label labels next) (settled_follows _ next on.is.2) more steps last walk
  walked (Note site image event next) on (fed.Answer a ∷ more) steps last walk = absurd walk
  walked (Return reply) on (f ∷ more) steps last walk = absurd walk
  walked (Goto label) on (f ∷ more) steps last walk = absurd walk

module _ (p : Profile) (s : Standing) (from : FollowsFrom p s) (feds : List Fed) (steps : List Answered) where
  came_to : (last : Plan) → IsWalk s.labels s.plan feds steps last → CameAlong p s.labels from.labels steps last
  came_to last walk = walked p s.labels from.labels s.plan (record { at = Outside; is = from.plan }) feds steps last walk

  pub comes_to : (last : Plan) → IsWalk s.labels s.plan feds steps last → FollowsOn p last
  comes_to last walk = (came_to last walk).on

  pub done_kinds : (last : Plan) → IsWalk s.labels s.plan feds steps last → AreOfKinds p.kinds steps
  done_kinds last walk = (came_to last walk).kinds

  pub asked_kind : (site : SiteId) (why : Reason) (o : Op) (next : Answer → Plan) → IsWalk s.labels s.plan feds steps (Ask site why o next) → IsAmong (kind_of o) p.kinds
  asked_kind site why o next walk = (comes_to (Ask site why o next) walk).is.0.kind

  pub noted_event : (site : SiteId) (image : ℕ) (event : JournalEvent) (next : Plan) → IsWalk s.labels s.plan feds steps (Note site image event next) → p.event ≡ Some event
  noted_event site image event next walk = (comes_to (Note site image event next) walk).is.1

  pub joined_as : (site : SiteId) (image : ℕ) (sharing : Sharing) (next : Plan) → IsWalk s.labels s.plan feds steps (Await (wait.Join site image sharing) next) → p.joins ≡ Some sharing
  joined_as site image sharing next walk = (comes_to (Await (wait.Join site image sharing) next) walk).is.0.1

  pub never_leaves : (site : SiteId) (image : ℕ) (next : Plan) → IsWalk s.labels s.plan feds steps (Await (wait.Leave site image) next) → ⊥
  never_leaves site image next walk = (comes_to (Await (wait.Leave site image) next) walk).is.0

-- ---- who has none of some kinds asks for none of them

module _ (these : OpKind → Bool) where
  neither : (a b : Bool) → not (a || b) ≡ true → (a ≡ false) × (not b ≡ true)
  neither false b none = (refl, none)
  neither true b none = cc

  pub is_none : (kinds : List OpKind) → not (list_any these kinds) ≡ true → (k : OpKind) → IsAmong k kinds → these k ≡ false
  is_none [] none k any = absurd any
  is_none (x ∷ kinds) none k (inl is) = ap these is ∙ (neither (these x) (list_any these kinds) none).0
  is_none (x ∷ kinds) none k (inr any) = is_none kinds (neither (these x) (list_any these kinds) none).1 k any

  are_none : (kinds : List OpKind) → not (list_any these kinds) ≡ true → (steps : List Answered) → AreOfKinds kinds steps → AreNoneOf these steps
  are_none kinds none [] are = tt
  are_none kinds none (step ∷ steps) are = (is_none kinds none (kind_of step.op) are.0, are_none kinds none steps are.1)

pub none_done : (these : OpKind → Bool) (p : Profile) → has_none_of these p ≡ true → (s : Standing) → FollowsFrom p s → (feds : List Fed) (steps : List Answered) (last : Plan)
    → IsWalk s.labels s.plan feds steps last → AreNoneOf these steps
none_done these p none s from feds steps last walk = are_none these p.kinds none steps (done_kinds p s from feds steps last walk)

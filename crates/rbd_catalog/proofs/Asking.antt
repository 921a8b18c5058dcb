-- Who asks for nothing but some operations does so wherever it comes to; and what a row lets its
-- requests ask for is all that they ask for.
use Rattle.std.proofs.Common.{◌≡◌, false, true}
use Rattle.std.proofs.lemmas.Bool.{true≢false}
use Rattle.rbd_kinds.specs.declared.answer.Answer.{Answer}
use Rattle.rbd_kinds.specs.declared.header_op.HeaderOp.TheVariants as header
use Rattle.rbd_kinds.specs.declared.machine.Fed.TheVariants as fed
use Rattle.rbd_kinds.specs.declared.operation.Op.{Op}
use Rattle.rbd_kinds.specs.declared.operation.Op.TheVariants as op
use Rattle.rbd_kinds.specs.OperationKind.{kind_of}
use Rattle.rbd_machine.specs.Label.{Label}
use Rattle.rbd_machine.specs.Path.{at_operation}
use Rattle.rbd_machine.specs.Plan.{Plan, Ask, Await, Note, Return, Goto, Standing, plan_after}
use Rattle.rbd_machine.specs.declared.reason.Reason.{Reason}
use Rattle.rbd_catalog.specs.Asking.{AsksOnly, DoesOnly, IsNoLook}
use Rattle.rbd_catalog.specs.Follows.{Follows, FollowsFrom, MayAsk, Noted, Outside, Progress, TakesNoLock, behind}
use Rattle.rbd_catalog.specs.Profile.{Profile, has_none_of, looks_at_a_header}
use Rattle.rbd_catalog.proofs.Consequences.{is_none}

module _ (May : Op → Type 0) where
  -- ---- wherever it comes to

  module _ (labels : Label → Plan) (there : (label : Label) → AsksOnly May (labels label)) where
    only_at : (plan : Plan) → AsksOnly May plan → AsksOnly May (at_operation labels plan)
    only_at (Ask site why o next) only = only
    only_at (Await wait next) only = only_at next only
    only_at (Note site image event next) only = only_at next only
    only_at (Return reply) only = tt
    only_at (Goto label) only = there label

    pub only_after : (plan : Plan) (a : Answer) → AsksOnly May plan → AsksOnly May (at_operation labels (plan_after plan (fed.Answer a)))
    only_after (Ask site why o next) a only = only_at (next a) (only.1 a)
    only_after (Await wait next) a only = only_at next only
    only_after (Note site image event next) a only = only_at next only
    only_after (Return reply) a only = tt
    only_after (Goto label) a only = there label

  -- ---- who follows a row

  module _ (p : Profile) (lets : (at : Progress) (why : Reason) (o : Op) → MayAsk p at why o → May o) where
    only_by_row : (at : Progress) (plan : Plan) → Follows p at plan → AsksOnly May plan
    only_by_row at (Ask site why o next) follows = (lets at why o follows.0, λ a. only_by_row at (next a) (follows.1 a))
    only_by_row at (Await wait next) follows = only_by_row (behind at wait) next follows.1
    only_by_row at (Note site image event next) follows = only_by_row Noted next follows.2
    only_by_row at (Return reply) follows = tt
    only_by_row at (Goto label) follows = tt

    pub does_by_row : (s : Standing) → FollowsFrom p s → DoesOnly May s
    does_by_row s from = record { plan = only_by_row Outside s.plan from.plan; labels = λ label. only_by_row Outside (s.labels label) (from.labels label) }

-- it takes no lock
pub takes_no_lock : (p : Profile) (s : Standing) → FollowsFrom p s → DoesOnly TakesNoLock s
takes_no_lock p s from = does_by_row TakesNoLock p (λ at why o may. may.own) s from

-- where its row has no look at a header, it looks at none
no_look : (o : Op) → looks_at_a_header (kind_of o) ≡ false → IsNoLook o
no_look (op.Header image header.Get) none = absurd (true≢false none)
no_look (op.Header image o) none = tt
no_look o none = tt

pub looks_at_none : (p : Profile) (s : Standing) → has_none_of looks_at_a_header p ≡ true → FollowsFrom p s → DoesOnly IsNoLook s
looks_at_none p s none from = does_by_row IsNoLook p (λ at why o may. no_look o (is_none looks_at_a_header p.kinds none (kind_of o) may.kind)) s from

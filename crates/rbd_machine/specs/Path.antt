-- Paths: the operations of a request, with their answers, and how many they are.
use Rattle.std.specs.Prelude.{◌≡◌, ℕ, zero, suc, List, [], ◌∷◌}
use Rattle.rbd_kinds.specs.declared.answer.Answer.{Answer}
use Rattle.rbd_kinds.specs.declared.answer.Answer.TheVariants as answer
use Rattle.rbd_kinds.specs.declared.directory_op.DirectoryOp.TheVariants as directory
use Rattle.rbd_kinds.specs.declared.header.HeaderView.{HeaderView}
use Rattle.rbd_kinds.specs.declared.header_op.HeaderOp.TheVariants as header
use Rattle.rbd_kinds.specs.declared.id.SiteId.{SiteId}
use Rattle.rbd_kinds.specs.declared.machine.Fed.{Fed}
use Rattle.rbd_kinds.specs.declared.machine.Fed.TheVariants as fed
use Rattle.rbd_kinds.specs.declared.operation.Op.{Op}
use Rattle.rbd_kinds.specs.declared.operation.Op.TheVariants as op
use Rattle.rbd_machine.specs.Label.{Label}
use Rattle.rbd_machine.specs.Plan.{Plan, Ask, Await, Note, Return, Goto, past_label}

-- an operation that was done at a site, and its answer
pub record Answered : Type 0 where
  pub site : SiteId
  pub op : Op
  pub answer : Answer

-- an image was found by its name, and a header was looked at
abbrev pub found : SiteId → (name : List ℕ) → (image : ℕ) → Answered
found site name image = record { site = site; op = op.Directory (directory.Find name); answer = answer.Id image }

abbrev pub looked_at : SiteId → (image : ℕ) → HeaderView → Answered
looked_at site image h = record { site = site; op = op.Header image header.Get; answer = answer.Header h }

-- the plan at its next operation: what it waits for is passed over, and a label gone to
abbrev pub at_operation : (Label → Plan) → Plan → Plan
at_operation labels (Await wait next) = at_operation labels next
at_operation labels (Note site image event next) = at_operation labels next
at_operation labels (Goto label) = labels label
at_operation labels plan = plan

abbrev pub IsStep : Plan → Answered → Type 0
IsStep (Ask site why op next) step = (step.site ≡ site) × (step.op ≡ op)
IsStep _ step = ⊥

abbrev pub after_answer : Plan → Answer → Plan
after_answer (Ask site why op next) answer = next answer
after_answer plan answer = plan

-- Each operation is the one that the plan names after the answers before it.
abbrev pub IsPath : (Label → Plan) → Plan → List Answered → Type 0
IsPath labels plan [] = Unit {0}
IsPath labels plan (step ∷ more) =
    IsStep (at_operation labels plan) step × IsPath labels (after_answer (at_operation labels plan) step.answer) more

-- a path on which no label is gone to
abbrev pub IsPass : Plan → List Answered → Type 0
IsPass = IsPath Goto

-- What a request is fed, one thing after another, leads it from a plan to another; the steps are
-- the operations that it asked for, each with the answer that it was fed.
pub record IsFirstStep (site : SiteId) (op : Op) (answer : Answer) (steps : List Answered) : Type 0 where
  pub rest : List Answered
  pub is : steps ≡ record { site = site; op = op; answer = answer } ∷ rest

abbrev pub IsWalk : (Label → Plan) → Plan → List Fed → (steps : List Answered) → (last : Plan) → Type 0
IsWalk labels plan [] steps last = (steps ≡ []) × (last ≡ plan)
IsWalk labels (Ask site why op next) (fed.Answer answer ∷ more) steps last =
    (first : IsFirstStep site op answer steps) × IsWalk labels (past_label labels (next answer)) more first.rest last
IsWalk labels (Await wait next) (fed.Passed ∷ more) steps last = IsWalk labels (past_label labels next) more steps last
IsWalk labels (Note site image event next) (fed.Passed ∷ more) steps last =
    IsWalk labels (past_label labels next) more steps last
IsWalk labels plan (f ∷ more) steps last = ⊥

-- The plan has at most n operations, whatever they are answered, up to its end or to a label.
abbrev pub IsBounded : Plan → (n : ℕ) → Type 0
IsBounded (Ask site why op next) zero = ⊥
IsBounded (Ask site why op next) (suc n) = (answer : Answer) → IsBounded (next answer) n
IsBounded (Await wait next) n = IsBounded next n
IsBounded (Note site image event next) n = IsBounded next n
IsBounded (Return reply) n = Unit {0}
IsBounded (Goto label) n = Unit {0}

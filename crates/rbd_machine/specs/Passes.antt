-- Walks that go to labels: one pass after another, of which each is a walk without a jump.
use Rattle.std.specs.List.{flat_map}
use Rattle.std.specs.Prelude.{◌≡◌, ℕ, ◌+◌, List, [], ◌∷◌, ◌++◌}
use Rattle.rbd_kinds.specs.declared.machine.Fed.{Fed}
use Rattle.rbd_kinds.specs.declared.machine.Fed.TheVariants as fed
use Rattle.rbd_machine.specs.Label.{Label}
use Rattle.rbd_machine.specs.Path.{Answered, IsWalk}
use Rattle.rbd_machine.specs.Plan.{Plan, Ask, Await, Note, Goto, past_label}

-- A pass leads from a plan to a label by these steps.
pub record GoesTo (plan : Plan) (pass : List Answered) : Type 0 where
  pub label : Label
  pub feds : List Fed
  pub walk : IsWalk Goto plan feds pass (Goto label)

-- Passes, one after another, each to a label at which the next begins; the last goes to where a
-- plan is left.
abbrev pub ArePasses : (Label → Plan) → Plan → List (List Answered) → (left : Plan) → Type 0
ArePasses labels plan [] left = left ≡ plan
ArePasses labels plan (pass ∷ passes) left =
    (goes : GoesTo plan pass) × ArePasses labels (labels goes.label) passes left

abbrev pub steps_of_passes : List (List Answered) → List Answered
steps_of_passes = flat_map (λ pass. pass)

-- The steps of a walk are those of passes, each to a label, and then those of a walk without a
-- jump.
pub record EndsInPass (labels : Label → Plan) (plan : Plan) (steps : List Answered) (last : Plan) : Type 0 where
  pub passes : List (List Answered)
  pub left : Plan
  pub pass : List Answered
  pub feds : List Fed
  pub are : steps ≡ steps_of_passes passes ++ pass
  pub before : ArePasses labels plan passes left
  pub walk : IsWalk Goto left feds pass last

-- how often a walk goes to a label
abbrev pub jumps_at : Plan → ℕ
jumps_at (Goto label) = 1
jumps_at plan = 0

abbrev pub jumps : (Label → Plan) → Plan → List Fed → ℕ
jumps labels plan [] = 0
jumps labels (Ask site why op next) (fed.Answer answer ∷ more) =
    jumps_at (next answer) + jumps labels (past_label labels (next answer)) more
jumps labels (Await wait next) (fed.Passed ∷ more) = jumps_at next + jumps labels (past_label labels next) more
jumps labels (Note site image event next) (fed.Passed ∷ more) =
    jumps_at next + jumps labels (past_label labels next) more
jumps labels plan (f ∷ more) = 0

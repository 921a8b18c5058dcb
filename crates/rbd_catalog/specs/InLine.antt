-- How a change of an extent goes through the line of its image: behind its look-up it stays there,
-- and sets the state of each object, and changes it, at its turn.
use Rattle.std.specs.Prelude.{◌≡◌, ℕ, false, List, [], ◌∷◌, Option, Some, None}
use Rattle.rbd_commands.specs.declared.refusal.Refusal.{Refusal}
use Rattle.rbd_kinds.specs.declared.answer.Answer.{Answer}
use Rattle.rbd_kinds.specs.declared.data_op.DataOp.TheVariants as object
use Rattle.rbd_kinds.specs.declared.header.HeaderView.{HeaderView}
use Rattle.rbd_kinds.specs.declared.header_op.HeaderOp.TheVariants as header
use Rattle.rbd_kinds.specs.declared.id.SiteId.{SiteId}
use Rattle.rbd_kinds.specs.declared.machine.Fed.{Fed}
use Rattle.rbd_kinds.specs.declared.machine.Fed.TheVariants as fed
use Rattle.rbd_kinds.specs.declared.map_op.MapOp.TheVariants as states
use Rattle.rbd_kinds.specs.declared.operation.Op.{Op}
use Rattle.rbd_kinds.specs.declared.operation.Op.TheVariants as op
use Rattle.rbd_kinds.specs.declared.sharing.Sharing.{Sharing}
use Rattle.rbd_kinds.specs.Sharing.{is_alone}
use Rattle.rbd_machine.specs.Label.{Label}
use Rattle.rbd_machine.specs.Label as label
use Rattle.rbd_machine.specs.Plan.{Plan, Ask, Await, Note, Return, Goto, Standing, past_label}
use Rattle.rbd_machine.specs.Steps.{change_plan}
use Rattle.rbd_machine.specs.Wait as wait

-- a look at a header, or a change of the object whose turn it has, or of its state in the head's
-- map
abbrev pub IsAtTurn : SiteId → (image : ℕ) → (turn : Option ℕ) → SiteId → Op → Type 0
IsAtTurn site image turn s (op.Header i header.Get) = Unit {0}
IsAtTurn site image turn s (op.Map i (states.Set None number state)) = (s ≡ site) × (i ≡ image) × (turn ≡ Some number)
IsAtTurn site image turn s (op.Data i number (object.Read snap parts)) = ⊥
IsAtTurn site image turn s (op.Data i number o) = (s ≡ site) × (i ≡ image) × (turn ≡ Some number)
IsAtTurn site image turn s o = ⊥

-- a piece of the image begins again there
abbrev pub IsLabelOf : SiteId → (image : ℕ) → Label → Type 0
IsLabelOf site image (label.Piece s i h bits number) = (s ≡ site) × (i ≡ image)
IsLabelOf site image l = ⊥

-- Whatever it is answered, the plan looks at headers, and sets states and changes objects of the
-- image at their turns; it joins no line, and leaves none before it ends. It goes to labels of the
-- image alone, each with the turn that it has there.
abbrev pub KeepsTo : SiteId → (image : ℕ) → (turn_at : Label → Option ℕ) → (turn : Option ℕ) → Plan → Type 0
KeepsTo site image turn_at turn (Ask s why o next) = IsAtTurn site image turn s o
    × ((answer : Answer) → KeepsTo site image turn_at turn (next answer))
KeepsTo site image turn_at turn (Await (wait.Hold s i) next) = KeepsTo site image turn_at turn next
KeepsTo site image turn_at turn (Await (wait.Turn number) next) = KeepsTo site image turn_at (Some number) next
KeepsTo site image turn_at turn (Await (wait.Applied s i) next) = KeepsTo site image turn_at None next
KeepsTo site image turn_at turn (Await w next) = ⊥
KeepsTo site image turn_at turn (Note s i event next) = KeepsTo site image turn_at turn next
KeepsTo site image turn_at turn (Return reply) = Unit {0}
KeepsTo site image turn_at turn (Goto label) = IsLabelOf site image label × (turn ≡ turn_at label)

-- From each label of the image on a plan keeps to the line too, with the turn that it has there.
abbrev pub LabelsKeepTo : SiteId → (image : ℕ) → (turn_at : Label → Option ℕ) → (labels : Label → Plan) → Type 0
LabelsKeepTo site image turn_at labels = (label : Label) → IsLabelOf site image label
    → KeepsTo site image turn_at (turn_at label) (labels label)

-- the turn that it waited for last, behind what it was fed
abbrev pub turn_along : (labels : Label → Plan) → (turn : Option ℕ) → Plan → List Fed → Option ℕ
turn_along labels turn plan [] = turn
turn_along labels turn (Ask s why o next) (fed.Answer a ∷ more) =
    turn_along labels turn (past_label labels (next a)) more
turn_along labels turn (Await (wait.Turn number) next) (fed.Passed ∷ more) =
    turn_along labels (Some number) (past_label labels next) more
turn_along labels turn (Await (wait.Applied s i) next) (fed.Passed ∷ more) =
    turn_along labels None (past_label labels next) more
turn_along labels turn (Await w next) (fed.Passed ∷ more) = turn_along labels turn (past_label labels next) more
turn_along labels turn (Note s i event next) (fed.Passed ∷ more) = turn_along labels turn (past_label labels next) more
turn_along labels turn plan (f ∷ more) = turn

-- A change that goes beside others: it looks its image up first, joins the image's line, and behind
-- that keeps to it, whatever header it is told, however often it begins a piece again.
pub record ChangesInLine (home : SiteId) (s : Standing) : Type 0 where
  pub name : List ℕ
  pub sharing : Sharing
  pub shared : is_alone sharing ≡ false
  pub refuses : HeaderView → Option Refusal
  pub act : (image : ℕ) → HeaderView → Plan
  pub plan : s.plan ≡ change_plan home name sharing refuses act
  pub turn_at : Label → Option ℕ
  pub keeps : (image : ℕ) (h : HeaderView) (turn : Option ℕ) → KeepsTo home image turn_at turn (act image h)
  pub labels : (image : ℕ) → LabelsKeepTo home image turn_at s.labels

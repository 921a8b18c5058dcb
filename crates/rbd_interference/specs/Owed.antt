-- Requests that pay for each state that they set, before they do anything else.
use Rattle.std.specs.Prelude.{◌≡◌, ℕ, zero, suc, Bool, true, false, List, [], ◌∷◌, Option, Some, None}
use Rattle.rbd_kinds.specs.declared.answer.Answer.{Answer}
use Rattle.rbd_kinds.specs.declared.answer.Answer.TheVariants as answer
use Rattle.rbd_kinds.specs.declared.data_op.DataOp.{DataOp}
use Rattle.rbd_kinds.specs.declared.data_op.DataOp.TheVariants as object
use Rattle.rbd_kinds.specs.declared.id.SiteId.{SiteId}
use Rattle.rbd_kinds.specs.declared.map_op.MapOp.TheVariants as states
use Rattle.rbd_kinds.specs.declared.operation.Op.{Op}
use Rattle.rbd_kinds.specs.declared.operation.Op.TheVariants as op
use Rattle.rbd_machine.specs.Label.{Label}
use Rattle.rbd_machine.specs.Path.{Answered}
use Rattle.rbd_machine.specs.Plan.{Plan, Ask, Await, Note, Return, Goto, Standing}
use Rattle.rbd_machine.specs.Refused.{IsGiven}
use Rattle.rbd_machine.specs.Standalone.{TellsStandalone}

-- ---- what is owed

-- What is to be done next for an object whose state was set: it is made, it goes, or its state is
-- set to 0, since it went.
pub data Due : Type 0 where
  Made : Due
  Gone : Due
  Lowered : Due

-- an object of an image at a site, and what is owed there
pub record Spot : Type 0 where
  pub site : SiteId
  pub image : ℕ
  pub object : ℕ
  pub due : Due

-- What is owed once a state was set: nothing for state 0, since the object is absent; state 1 wants
-- the object made, and a greater one wants it removed.
abbrev pub due_by : (state : ℕ) → Option Due
due_by zero = None
due_by (suc zero) = Some Made
due_by (suc (suc state)) = Some Gone

-- behind the removal of an object
abbrev pub due_behind : Due → Option Due
due_behind Gone = Some Lowered
due_behind _ = None

abbrev pub owed_at : SiteId → (image object : ℕ) → Option Due → Option Spot
owed_at site image object None = None
owed_at site image object (Some due) = Some (record { site = site; image = image; object = object; due = due })

-- What is owed after an operation that was done: by a request that set a state in the head's map,
-- or that removed an object which had to go.
abbrev pub owed_by : Option Spot → SiteId → Op → Answer → Option Spot
owed_by owed site (op.Map image (states.Set None object state)) answer.Done = owed_at site image object (due_by state)
owed_by (Some p) site (op.Data image number (object.Remove context)) answer.Done =
    owed_at site image number (due_behind p.due)
owed_by owed site o a = None

-- behind operations, one after another
abbrev pub owed_after : Option Spot → List Answered → Option Spot
owed_after owed [] = owed
owed_after owed (step ∷ steps) = owed_after (owed_by owed step.site step.op step.answer) steps

abbrev pub owed_behind : List Answered → Option Spot
owed_behind steps = owed_after None steps

-- ---- what pays it

-- whether the object is there after an operation, whether it was before or not
abbrev pub makes : DataOp → Bool
makes (object.Write context false parts bytes) = true
makes (object.WriteFull context bytes) = true
makes (object.Empty context) = true
makes _ = false

-- whether the object isn't there after an operation
abbrev pub removes : DataOp → Bool
removes (object.Remove context) = true
removes _ = false

abbrev pub pays_due : Due → DataOp → Bool
pays_due Made o = makes o
pays_due Gone o = removes o
pays_due Lowered o = false

abbrev pub IsOnSpot : Spot → SiteId → (image number : ℕ) → Type 0
IsOnSpot p site image number = (site ≡ p.site) × (image ≡ p.image) × (number ≡ p.object)

-- the operation is the one that is owed
abbrev pub IsPayment : Spot → SiteId → Op → Type 0
IsPayment p site (op.Data image number o) = (pays_due p.due o ≡ true) × IsOnSpot p site image number
IsPayment p site (op.Map image (states.Set None number zero)) = (p.due ≡ Lowered) × IsOnSpot p site image number
IsPayment p site o = ⊥

-- ---- plans

-- Objects of the image are removed, one after another, and then its head's map.
abbrev pub IsClearing : SiteId → (image : ℕ) → Plan → Type 0
IsClearing site image (Ask at why (op.Data of number (object.Remove context)) next) = (at ≡ site) × (of ≡ image)
    × IsClearing site image (next answer.Done)
IsClearing site image (Ask at why (op.Map of (states.Remove None)) next) = (at ≡ site) × (of ≡ image)
IsClearing site image _ = ⊥

-- A request that owes nothing removes an object only with all of its image.
abbrev pub RemovesWhole : SiteId → Op → (next : Plan) → Type 0
RemovesWhole site (op.Data image number (object.Remove context)) next = IsClearing site image next
RemovesWhole site o next = Unit {0}

-- The request does next what it owes, whatever it is answered of what it can be, as long as no
-- image has a parent.
abbrev pub PaysItsStates : Option Spot → Plan → Type 0
PaysItsStates None (Ask site why o next) = RemovesWhole site o (next answer.Done)
    × ((a : Answer) → IsGiven o a → TellsStandalone a → PaysItsStates (owed_by None site o a) (next a))
PaysItsStates (Some p) (Ask site why o next) = IsPayment p site o
    × ((a : Answer) → IsGiven o a → TellsStandalone a → PaysItsStates (owed_by (Some p) site o a) (next a))
PaysItsStates None (Await wait next) = PaysItsStates None next
PaysItsStates None (Note site image event next) = PaysItsStates None next
PaysItsStates None (Return reply) = Unit {0}
PaysItsStates None (Goto label) = Unit {0}
PaysItsStates (Some p) _ = ⊥

-- the request pays its states from where it stands, and from each of its labels
pub record PaysFrom (owed : Option Spot) (s : Standing) : Type 0 where
  pub plan : PaysItsStates owed s.plan
  pub labels : (label : Label) → PaysItsStates None (s.labels label)

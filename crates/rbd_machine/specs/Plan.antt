-- What a request does: a plan of steps, and what it means to go on by it.
use Rattle.std.specs.Prelude.{◌≡◌, ℕ}
use Rattle.rbd_kinds.specs.declared.answer.Answer.{Answer}
use Rattle.rbd_kinds.specs.declared.id.SiteId.{SiteId}
use Rattle.rbd_kinds.specs.declared.journal.JournalEvent.{JournalEvent}
use Rattle.rbd_kinds.specs.declared.machine.Fed.{Fed}
use Rattle.rbd_kinds.specs.declared.machine.Fed.TheVariants as fed
use Rattle.rbd_kinds.specs.declared.machine.Flow.{Flow}
use Rattle.rbd_kinds.specs.declared.machine.Flow.TheVariants as flow
use Rattle.rbd_kinds.specs.declared.machine.Want.{Want}
use Rattle.rbd_kinds.specs.declared.machine.Want.TheVariants as want
use Rattle.rbd_kinds.specs.declared.operation.Op.{Op}
use Rattle.rbd_kinds.specs.declared.reply.Reply.{Reply}
use Rattle.rbd_kinds.specs.OperationKind.{kind_of}
use Rattle.rbd_machine.specs.Label.{Label}
use Rattle.rbd_machine.specs.Wait.{Wait, want_of}
use Rattle.rbd_machine.specs.declared.reason.Reason.{Reason}

-- What is left of a request: a finite tree of steps. A request that may begin a part again goes to
-- a label.
pub data Plan : Type 0 where
  -- an operation at a site, why it is asked for, and how it goes on after each answer
  Ask : SiteId → Reason → Op → (Answer → Plan) → Plan
  -- something else that it waits for, and how it goes on once it has it
  Await : Wait → Plan → Plan
  -- its event is to be noted in the journal of an image
  Note : SiteId → (image : ℕ) → JournalEvent → Plan → Plan
  -- it has ended
  Return : Reply → Plan
  Goto : Label → Plan

-- Where a request stands: the plan at each of its labels, and the plan that is left to do.
pub record Standing : Type 0 where
  pub labels : Label → Plan
  pub plan : Plan

-- a request that never begins a part again
abbrev pub without_labels : Plan → Standing
without_labels plan = record { labels = Goto; plan = plan }

-- ---- what it wants

-- It hasn't ended, and is no jump: there is something that it wants.
abbrev pub IsLive : Plan → Type 0
IsLive (Return reply) = ⊥
IsLive (Goto label) = ⊥
IsLive _ = Unit {0}

abbrev pub Wants : Plan → Want → Type 0
Wants (Ask site why op next) w = w ≡ want.Op site (kind_of op)
Wants (Await wait next) w = w ≡ want_of wait
Wants (Note site image event next) w = w ≡ want.Note site image
Wants _ w = Unit {0}

-- it wants an operation
abbrev pub IsAsking : Plan → Type 0
IsAsking (Ask site why op next) = Unit {0}
IsAsking _ = ⊥

-- the operation, where it wants one
abbrev pub Asks : Plan → Op → Type 0
Asks (Ask site why wanted next) op = op ≡ wanted
Asks _ op = Unit {0}

-- why it wants an operation, where it wants one
abbrev pub AsksBy : Plan → Reason → Type 0
AsksBy (Ask site why op next) r = r ≡ why
AsksBy _ r = Unit {0}

-- it wants an event noted
abbrev pub IsNoting : Plan → Type 0
IsNoting (Note site image event next) = Unit {0}
IsNoting _ = ⊥

-- ---- how it goes on

-- the plan after what it was fed
abbrev pub plan_after : Plan → Fed → Plan
plan_after (Ask site why op next) (fed.Answer answer) = next answer
plan_after (Await wait next) fed.Passed = next
plan_after (Note site image event next) fed.Passed = next
plan_after plan _ = plan

abbrev pub past_label : (Label → Plan) → Plan → Plan
past_label labels (Goto label) = labels label
past_label labels plan = plan

-- It stands where it was to go on, and wants something there.
pub record IsLeft (labels : Label → Plan) (to : Plan) (new : Standing) : Type 0 where
  pub live : IsLive new.plan
  pub stands : new ≡ record { labels = labels; plan = past_label labels to }

-- A machine that was to go on with a plan went on there, or is done with the plan's reply.
abbrev pub GoesOn : (Label → Plan) → (to : Plan) → Flow → (new : Standing) → Type 0
GoesOn labels to flow.More new = IsLeft labels to new
GoesOn labels to (flow.Done reply) new = to ≡ Return reply

-- Each label that is gone to stands at an operation.
abbrev pub IsClosed : (Label → Plan) → Plan → Type 0
IsClosed labels (Ask site why op next) = (answer : Answer) → IsClosed labels (next answer)
IsClosed labels (Await wait next) = IsClosed labels next
IsClosed labels (Note site image event next) = IsClosed labels next
IsClosed labels (Return reply) = Unit {0}
IsClosed labels (Goto label) = IsAsking (labels label)

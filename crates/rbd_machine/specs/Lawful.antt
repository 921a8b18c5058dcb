-- Requests that do only what they may by what they know.
use Rattle.std.specs.Prelude.{◌≡◌, true}
use Rattle.rbd_kinds.specs.declared.answer.Answer.{Answer}
use Rattle.rbd_kinds.specs.declared.machine.Fed.{Fed}
use Rattle.rbd_kinds.specs.declared.machine.Fed.TheVariants as fed
use Rattle.rbd_kinds.specs.AnswerForm.{IsInForm}
use Rattle.rbd_kinds.specs.declared.id.SiteId.{SiteId}
use Rattle.rbd_kinds.specs.declared.operation.Op.{Op}
use Rattle.rbd_machine.specs.Answers.{gives}
use Rattle.rbd_machine.specs.AtLeast.{KnowsAtLeast}
use Rattle.rbd_machine.specs.Knowledge.{Knowledge, nothing_known, learned, known_after_wait}
use Rattle.rbd_machine.specs.Label.{Label, IsFit}
use Rattle.rbd_machine.specs.Permits.{Permits}
use Rattle.rbd_machine.specs.Plan.{Plan, Ask, Await, Note, Return, Goto, Standing}
use Rattle.rbd_machine.specs.Possible.{IsPossible}
use Rattle.rbd_machine.specs.Standalone.{TellsStandalone}

-- What an operation can give to who knows this, as long as no image has a parent or a journal.
pub record CanTell (k : Knowledge) (site : SiteId) (o : Op) (a : Answer) : Type 0 where
  pub word : gives o a ≡ true
  pub form : IsInForm o a
  pub standalone : TellsStandalone a
  pub possible : IsPossible k site o a

-- Each operation is permitted by what is known where it is asked for, whatever the operations
-- before it were answered of what they can tell, and of what was possible by what was known before
-- each. A request goes to a label only where at least so much is known as at that label.
abbrev pub IsLawful : (at : Label → Knowledge) → Knowledge → Plan → Type 0
IsLawful at k (Ask site why op next) =
    Permits k site op
    × ((answer : Answer) → CanTell k site op answer → IsLawful at (learned k site op answer) (next answer))
IsLawful at k (Await wait next) = IsLawful at (known_after_wait k wait) next
IsLawful at k (Note site image event next) = IsLawful at k next
IsLawful at k (Return reply) = Unit {0}
IsLawful at k (Goto label) = IsFit label × KnowsAtLeast k (at label)

-- A request begins with nothing known, and is lawful from there and from each of its labels that is
-- fit.
pub record IsLawfulRequest (standing : Standing) : Type 0 where
  pub known_at : Label → Knowledge
  pub plan : IsLawful known_at nothing_known standing.plan
  pub labels : (label : Label) → IsFit label → IsLawful known_at (known_at label) (standing.labels label)

-- what is known after what it was fed
abbrev pub known_after : Knowledge → Plan → Fed → Knowledge
known_after k (Ask site why op next) (fed.Answer answer) = learned k site op answer
known_after k (Await wait next) fed.Passed = known_after_wait k wait
known_after k plan _ = k

-- Requests that wait for nothing: they only look, or make what nobody knows yet.
use Rattle.std.specs.Prelude.{◌≡◌, ℕ, false, None}
use Rattle.rbd_kinds.specs.declared.answer.Answer.{Answer}
use Rattle.rbd_kinds.specs.declared.id.SiteId.{SiteId}
use Rattle.rbd_machine.specs.Knowledge.{Knowledge, is_gone, own_of}
use Rattle.rbd_machine.specs.Label.{Label}
use Rattle.rbd_machine.specs.Plan.{Plan, Ask, Await, Note, Return, Goto, Standing}

abbrev pub IsCalm : Plan → Type 0
IsCalm (Ask site why op next) = (answer : Answer) → IsCalm (next answer)
IsCalm (Await wait next) = ⊥
IsCalm (Note site image event next) = ⊥
IsCalm (Return reply) = Unit {0}
IsCalm (Goto label) = Unit {0}

pub record IsCalmRequest (s : Standing) : Type 0 where
  pub plan : IsCalm s.plan
  pub labels : (label : Label) → IsCalm (s.labels label)

-- it waited for the lock of no image, and removed none
pub record OwnsNothing (k : Knowledge) : Type 0 where
  pub owns : (site : SiteId) (image : ℕ) → own_of k.owns site image ≡ None
  pub gone : (site : SiteId) (image : ℕ) → is_gone k.gone site image ≡ false

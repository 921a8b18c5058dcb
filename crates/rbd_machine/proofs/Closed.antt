-- Plans whose labels stand at operations, step by step.
use Rattle.std.proofs.Common.{ℕ, List, Option, Some, None}
use Rattle.rbd_kinds.specs.declared.sharing.Sharing.{Sharing}
use Rattle.rbd_kinds.specs.declared.answer.Answer.{Answer}
use Rattle.rbd_kinds.specs.declared.answer.Answer.TheVariants as answer
use Rattle.rbd_kinds.specs.declared.header.HeaderView.{HeaderView}
use Rattle.rbd_kinds.specs.declared.id.SiteId.{SiteId}
use Rattle.rbd_commands.specs.declared.refusal.Refusal.{Refusal}
use Rattle.rbd_machine.specs.Label.{Label}
use Rattle.rbd_machine.specs.Plan.{Plan, IsClosed}
use Rattle.rbd_machine.specs.Steps.{unless, not_there, on_id, on_header, on_bits, on_done, change_plan, looked, holding, owned, joining}

module _ (labels : Label → Plan) where
  pub closed_not_there : (a : Answer) → IsClosed labels (not_there a)
  closed_not_there answer.Fenced = tt
  closed_not_there _ = tt

  pub closed_on_id : (next : ℕ → Plan) → ((image : ℕ) → IsClosed labels (next image)) → (a : Answer) → IsClosed labels (on_id next a)
  closed_on_id next closed (answer.Id image) = closed image
  closed_on_id next closed a = closed_not_there a

  pub closed_on_header : (next : HeaderView → Plan) → ((h : HeaderView) → IsClosed labels (next h)) → (a : Answer) → IsClosed labels (on_header next a)
  closed_on_header next closed (answer.Header h) = closed h
  closed_on_header next closed a = closed_not_there a

  pub closed_on_bits : (next : List ℕ → Plan) → ((bits : List ℕ) → IsClosed labels (next bits)) → (a : Answer) → IsClosed labels (on_bits next a)
  closed_on_bits next closed (answer.Bits bits) = closed bits
  closed_on_bits next closed a = closed_not_there a

  pub closed_on_done : (next : Plan) → IsClosed labels next → (a : Answer) → IsClosed labels (on_done next a)
  closed_on_done next closed answer.Done = closed
  closed_on_done next closed a = closed_not_there a

  pub closed_unless : (r : Option Refusal) (next : Plan) → IsClosed labels next → IsClosed labels (unless r next)
  closed_unless None next closed = closed
  closed_unless (Some r) next closed = tt

  pub closed_change : (site : SiteId) (name : List ℕ) (sharing : Sharing) (refuses : HeaderView → Option Refusal) (act : ℕ → HeaderView → Plan)
      → ((image : ℕ) (h : HeaderView) → IsClosed labels (act image h)) → IsClosed labels (change_plan site name sharing refuses act)
  closed_change site name sharing refuses act acts =
      closed_on_id (joining site sharing refuses act) (λ image.
      closed_on_header (looked site refuses act image) (λ h.
      closed_unless (refuses h) (holding site refuses act image)
      (closed_on_header (owned refuses act image) (λ own. closed_unless (refuses own) (act image own) (acts image own)))))

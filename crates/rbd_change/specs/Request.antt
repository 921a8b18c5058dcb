-- Where a request stands that changes an image in one part, behind its event where it has one.
use Rattle.std.specs.Prelude.{◌≡◌, ℕ, true, Option, Some, None}
use Rattle.rbd_commands.specs.declared.refusal.Refusal.{Refusal}
use Rattle.rbd_kinds.specs.declared.answer.Answer.{Answer}
use Rattle.rbd_kinds.specs.declared.answer.Answer.TheVariants as answer
use Rattle.rbd_kinds.specs.declared.header.HeaderView.{HeaderView}
use Rattle.rbd_kinds.specs.declared.id.SiteId.{SiteId}
use Rattle.rbd_kinds.specs.declared.journal.JournalEvent.{JournalEvent}
use Rattle.rbd_machine.specs.Approach.{rest_of, under_lock_at}
use Rattle.rbd_machine.specs.Plan.{Plan, Note}
use Rattle.rbd_machine.specs.Steps.{applied}
use Rattle.rbd_change.specs.Event.{ending, event_or_any, noting}
use Rattle.rbd_change.specs.declared.request.ChangeRequest.{ChangeRequest}
use Rattle.rbd_change.specs.declared.request.Stage.{Stage}
use Rattle.rbd_change.specs.declared.request.Stage.TheVariants as stage

abbrev pub IsApproaching : {P : Type 0} → Stage P → Type 0
IsApproaching (stage.Approaching way) = Unit {0}
IsApproaching _ = ⊥

-- the image, where it approaches and is at its look under the lock
abbrev pub under_lock_in : {P : Type 0} → Stage P → Option ℕ
under_lock_in (stage.Approaching way) = under_lock_at way.stage
under_lock_in _ = None

-- what is left of a part, where there is one
abbrev pub rest_of_some : {P : Type 0} → (rest : P → (next : Plan) → Plan) → Option P → (next : Plan) → Plan
rest_of_some rest None next = next
rest_of_some rest (Some part) next = rest part next

-- By what a change refuses, its event, what it does behind its look under the lock, and what is left
-- of its part.
module _ {C P : Type 0} (refuses : C → HeaderView → Option Refusal) (noted : C → Option JournalEvent)
    (does : C → SiteId → (image : ℕ) → HeaderView → Plan) (rest : P → (next : Plan) → Plan) where
  -- what is left where its event is to be noted
  abbrev pub at_note : ChangeRequest C P → (image : ℕ) → Plan
  at_note r image = Note r.site image (event_or_any (noted r.change))
      (rest_of_some rest r.part (ending r.site image true))

  abbrev pub rest_at : Stage P → ChangeRequest C P → Plan
  rest_at (stage.Approaching way) r = rest_of way (refuses r.change) (does r.change r.site)
  rest_at (stage.Noting image) r = at_note r image
  rest_at (stage.Acting image part is_noted) r = rest part (ending r.site image is_noted)
  rest_at (stage.Applying image) r = applied r.site image

  -- what is left of one
  abbrev pub rest_of_change : ChangeRequest C P → Plan
  rest_of_change r = rest_at r.stage r

  -- ---- the memory that an answer needs: at the look under the lock, the part

  abbrev pub HasPart : ChangeRequest C P → HeaderView → Type 0
  HasPart r h = (image : ℕ)
      → under_lock_in r.stage ≡ Some image → refuses r.change h ≡ None
      → noting r.site image (noted r.change) (rest_of_some rest r.part) ≡ does r.change r.site image h

  abbrev pub IsReadyAt : (is_ready : P → Answer → Type 0) → Stage P → ChangeRequest C P → Answer → Type 0
  IsReadyAt is_ready (stage.Approaching way) r (answer.Header h) = HasPart r h
  IsReadyAt is_ready (stage.Acting image part is_noted) r a = is_ready part a
  IsReadyAt is_ready _ r a = Unit {0}

  abbrev pub IsReady : (is_ready : P → Answer → Type 0) → ChangeRequest C P → Answer → Type 0
  IsReady is_ready r a = IsReadyAt is_ready r.stage r a

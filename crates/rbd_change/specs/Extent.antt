-- Where a request stands that changes an image object by object beside others, and notes an event.
use Rattle.std.specs.Prelude.{◌≡◌, ℕ, true, false, List, [], ◌∷◌, Option, Some, None}
use Rattle.rbd_commands.specs.declared.refusal.Refusal.{Refusal}
use Rattle.rbd_kinds.specs.declared.answer.Answer.{Answer}
use Rattle.rbd_kinds.specs.declared.answer.Answer.TheVariants as answer
use Rattle.rbd_kinds.specs.declared.header.HeaderView.{HeaderView}
use Rattle.rbd_kinds.specs.declared.id.SiteId.{SiteId}
use Rattle.rbd_kinds.specs.declared.journal.JournalEvent.{JournalEvent}
use Rattle.rbd_machine.specs.Approach.{rest_of, under_lock_at}
use Rattle.rbd_machine.specs.Plan.{Plan, Await, Note}
use Rattle.rbd_machine.specs.Steps.{applied}
use Rattle.rbd_machine.specs.Wait as wait
use Rattle.rbd_change.specs.declared.extent_request.ExtentRequest.{ExtentRequest}
use Rattle.rbd_change.specs.declared.extent_request.Stage.{Stage}
use Rattle.rbd_change.specs.declared.extent_request.Stage.TheVariants as stage

abbrev pub IsApproaching : {P : Type 0} → Stage P → Type 0
IsApproaching (stage.Approaching way) = Unit {0}
IsApproaching _ = ⊥

-- the image, where it approaches and is at its look under the lock
abbrev pub under_lock_in : {P : Type 0} → Stage P → Option ℕ
under_lock_in (stage.Approaching way) = under_lock_at way.stage
under_lock_in _ = None

-- what is left of pieces, each at its turn
abbrev pub in_turn : {P : Type 0} → (rest : P → (next : Plan) → Plan) → (number : P → ℕ) → List P → (next : Plan) → Plan
in_turn rest number [] next = next
in_turn rest number (p ∷ pieces) next = Await (wait.Turn (number p)) (rest p (in_turn rest number pieces next))

-- By what a change refuses, its event, the plan from its event on, what is left of a piece, and the
-- number of its object.
module _ {C P : Type 0} (refuses : C → HeaderView → Option Refusal) (noted : C → JournalEvent)
    (does : C → SiteId → (image : ℕ) → HeaderView → Plan) (rest : P → (next : Plan) → Plan) (number : P → ℕ) where
  -- the pieces that are left, and then the event counts as applied
  abbrev pub left : ExtentRequest C P → (image : ℕ) → Plan
  left r image = in_turn rest number r.pieces.items (applied r.site image)

  abbrev pub noting : ExtentRequest C P → (image : ℕ) → Plan
  noting r image = Note r.site image (noted r.change) (left r image)

  abbrev pub rest_at : Stage P → ExtentRequest C P → Plan
  rest_at (stage.Approaching way) r = rest_of way (refuses r.change) (does r.change r.site)
  rest_at (stage.Noting image) r = noting r image
  rest_at (stage.Acting image piece false) r = Await (wait.Turn (number piece)) (rest piece (left r image))
  rest_at (stage.Acting image piece true) r = rest piece (left r image)
  rest_at (stage.Applying image) r = applied r.site image

  -- what is left of one
  abbrev pub rest_of_extent : ExtentRequest C P → Plan
  rest_of_extent r = rest_at r.stage r

  -- ---- the memory that an answer needs: at the look under the lock, the pieces

  abbrev pub HasPieces : ExtentRequest C P → HeaderView → Type 0
  HasPieces r h = (image : ℕ)
      → under_lock_in r.stage ≡ Some image → refuses r.change h ≡ None → noting r image ≡ does r.change r.site image h

  abbrev pub IsReadyAt : (is_ready : P → Answer → Type 0) → Stage P → ExtentRequest C P → Answer → Type 0
  IsReadyAt is_ready (stage.Approaching way) r (answer.Header h) = HasPieces r h
  IsReadyAt is_ready (stage.Acting image piece true) r a = is_ready piece a
  IsReadyAt is_ready _ r a = Unit {0}

  abbrev pub IsReady : (is_ready : P → Answer → Type 0) → ExtentRequest C P → Answer → Type 0
  IsReady is_ready r a = IsReadyAt is_ready r.stage r a

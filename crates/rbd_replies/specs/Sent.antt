-- What a slot of a stopped life had sent: it comes once, as it was sent.
use Rattle.std.specs.Prelude.{◌≡◌, ℕ, false, List, ◌∷◌, ◌++◌, Option, Some, None}
use Rattle.rbd_kinds.specs.declared.id.SiteId.{SiteId}
use Rattle.rbd_kinds.specs.declared.operation.Op.{Op}
use Rattle.rbd_kinds.specs.declared.reply.Reply.{Reply}
use Rattle.rbd_slots.specs.Session.{held_in}
use Rattle.rbd_world.specs.Late.{comes_among, is_stopped_among}
use Rattle.rbd_world.specs.Run.{Doer, AfterStop, Happening, Stopped, Operation}
use Rattle.rbd_world.specs.Sound.{IsStillSent, IsStop}

-- The last stop of the session stopped the operation's own instance, and just this operation is
-- what the slot wanted then: as the next one of a line that was lost by the stop, of that line's
-- way to the lock, or of the house. Nothing of the slot has come since, so it comes once. It ends
-- no line.
pub record WasSent (homes : ℕ → SiteId) (slot : ℕ) (o : Operation) (reply : Option Reply)
    (before : List Happening) : Type 0 where
  -- what the slots wanted, which lines were lost, what was until the stop, and what came since
  pub wanted : List (Option (SiteId × Op))
  pub lost : List ℕ
  pub until : List Happening
  pub since : List Happening
  pub are : before ≡ since ++ Stopped o.instance wanted lost ∷ until
  pub is : held_in slot wanted ≡ Some (o.site, o.op)
  pub stop : IsStop homes o.instance wanted lost until
  pub left : IsStillSent homes o.instance lost slot o.site o.op (stop.by slot) until
  pub last : is_stopped_among o.instance.session since ≡ false
  pub new : comes_among o.instance.session slot since ≡ false
  pub silent : reply ≡ None

-- so it is with whatever comes behind a stop
abbrev pub WasSentBy : (homes : ℕ → SiteId) → Doer → Operation → Option Reply → (before : List Happening) → Type 0
WasSentBy homes (AfterStop slot) o reply before = WasSent homes slot o reply before
WasSentBy homes by o reply before = Unit {0}

abbrev pub ComesOnce : (homes : ℕ → SiteId) → Operation → Option Reply → (before : List Happening) → Type 0
ComesOnce homes o reply before = WasSentBy homes o.by o reply before

-- Whether a request of a session may go on.
use Rattle.std.specs.Prelude.{◌≡◌, ℕ, ◌≤◌, false, Some}
use Rattle.rbd_slots.specs.declared.running.Occupant.{Occupant}
use Rattle.rbd_slots.specs.declared.running.Occupant.TheVariants as occupant
use Rattle.rbd_slots.specs.Advance.{track_of}
use Rattle.rbd_slots.specs.Session.{SessionView, held_in}
use Rattle.rbd_slots.specs.Waits.{waits}

module _ {R : Type 0} where
  -- What is in a slot goes on: it is refused before any operation, or runs and doesn't wait.
  abbrev pub GoesIn : (s : SessionView R) → (slot : ℕ) → Occupant R → Type 0
  GoesIn s slot (occupant.Refused line refusal) = Unit {0}
  GoesIn s slot (occupant.Running r) = waits slot (track_of r s.lines) ≡ false

  -- some slot holds a request that goes on
  pub record MayGo (s : SessionView R) : Type 0 where
    pub slot : ℕ
    pub occupant : Occupant R
    pub held : held_in slot s.slots ≡ Some occupant
    pub goes : GoesIn s slot occupant
    pub within : (1 ≤ slot) × (slot ≤ 64)

-- How a change of an extent goes through the line of its image, where it stands there.
use Rattle.std.specs.Prelude.{◌≡◌, ℕ, true, false, List, Some}
use Rattle.rbd_queue.specs.Line.{Member, member_of, holds_ticket, is_past}

-- the member in a slot, where there is one, is past its look under the lock and has no ticket for
-- the object
abbrev pub IsPastWithout : (slot object : ℕ) → List Member → Type 0
IsPastWithout slot number members = (m : Member) → member_of slot members ≡ Some m → (is_past m.stage ≡ true)
    × (holds_ticket number m ≡ false)

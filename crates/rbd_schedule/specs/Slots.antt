-- What the slots of a client tell.
use Rattle.std.specs.Prelude.{◌≡◌, ℕ, length, Some, None}
use Rattle.rbd_client.specs.Client.{ClientView, blank_slot, slot_state}
use Rattle.rbd_lock.specs.Locks.{AreImagesInOrder}
use Rattle.rbd_slots.specs.Session.{IsLowest, held_in}
use Rattle.rbd_world.specs.World.{WorldView, client_in}

-- A client has slots 0 to 64, and slot 0 holds nothing. What the slots hold tells which is the
-- lowest free one, and the client keeps nothing of a slot that is free. The images whose locks were
-- asked for stand in order.
pub record IsCounted {R : Type 0} (c : ClientView R) : Type 0 where
  pub slots : length c.session.slots ≡ 65
  pub zero : held_in 0 c.session.slots ≡ None
  pub lowest : IsLowest c.session.lowest c.session.slots
  pub states : length c.slots ≡ 65
  pub free : (slot : ℕ) → held_in slot c.session.slots ≡ None → slot_state slot c.slots ≡ blank_slot
  pub asked : AreImagesInOrder c.locks.asked

-- the client of each session that runs is counted
abbrev pub AreClientsCounted : {R : Type 0} → WorldView R → Type 0
AreClientsCounted {R} w = (session : ℕ) (c : ClientView R) → client_in session w.lives ≡ Some c → IsCounted c

-- Changes of a member after which those behind it may still pass.
use Rattle.std.specs.Prelude.{◌≡◌, IsTrue}
use Rattle.rbd_queue.specs.Line.{Member, is_past}

-- the member stays at its slot, goes beside the same others, and stays past its look under the lock
-- if it was past it
pub record IsSteady (f : Member → Member) : Type 0 where
  pub slot : (m : Member) → (f m).slot ≡ m.slot
  pub sharing : (m : Member) → (f m).sharing ≡ m.sharing
  pub past : (m : Member) → IsTrue (is_past m.stage) → IsTrue (is_past (f m).stage)

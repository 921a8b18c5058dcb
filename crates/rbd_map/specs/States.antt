-- The states of objects, and the bytes that they are kept and sent in.
use Rattle.std.specs.Prelude.{◌≡◌, ℕ, ◌+◌, ◌*◌, ◌/◌, Bool, not, ◌==◌, IsTrue, List, map, length, slice_index}
use Rattle.std.specs.List.{list_all, range_with_len}
use Rattle.rbd_kinds.specs.States.{is_state, state_at}

abbrev pub AreStates : List ℕ → Type 0
AreStates states = IsTrue (list_all is_state states)

-- whether an object is used: it isn't in state 0
abbrev pub is_used : ℕ → Bool
is_used s = not (s == 0)

-- The bytes of some states: four a byte, the first in the highest bits. Past the last state there
-- are zeros.
abbrev pub byte_of : (states : List ℕ) (k : ℕ) → ℕ
byte_of states k =
    64 * slice_index states (4 * k) + 16 * slice_index states (4 * k + 1)
    + 4 * slice_index states (4 * k + 2) + slice_index states (4 * k + 3)

abbrev pub bits_of : List ℕ → List ℕ
bits_of states = map (byte_of states) (range_with_len 0 ((length states + 3) / 4))

-- the states of the first `count` objects in some bytes
abbrev pub states_of : (bytes : List ℕ) (count : ℕ) → List ℕ
states_of bytes count = map (state_at bytes) (range_with_len 0 count)

-- the bytes are exactly those of `count` states
pub record IsPacked (bytes : List ℕ) (count : ℕ) : Type 0 where
  pub packed : bytes ≡ bits_of (states_of bytes count)
  pub states : AreStates (states_of bytes count)

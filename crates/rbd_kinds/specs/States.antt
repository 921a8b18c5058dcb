-- The states of an object map, in the bytes that it is kept and sent in: four a byte, the first in
-- the highest bits.
use Rattle.std.specs.Prelude.{ℕ, zero, suc, ◌/◌, ◌%◌, Bool, nat_lt, IsTrue, List, slice_index}

-- State 3 is never written.
abbrev pub is_state : ℕ → Bool
is_state s = nat_lt s 3

-- what a state counts for at its place in the byte
abbrev pub weight : (place : ℕ) → ℕ
weight zero = 64
weight (suc zero) = 16
weight (suc (suc zero)) = 4
weight (suc (suc (suc _))) = 1

-- the state of an object in some bytes, 0 past their end
abbrev pub state_at : (bytes : List ℕ) (object : ℕ) → ℕ
state_at bytes object = slice_index bytes (object / 4) / weight (object % 4) % 4

-- no object's state in the bytes is 3
abbrev pub HoldStates : (bytes : List ℕ) → Type 0
HoldStates bytes = (object : ℕ) → IsTrue (is_state (state_at bytes object))

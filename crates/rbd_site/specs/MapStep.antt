-- Operations on the object map of an image's head, or of a snapshot: the answer, and the map after
-- it. A map is the list of its objects' states.
use Rattle.std.specs.Prelude.{ℕ, ◌-◌, ◌*◌, ◌^◌, ◌<◌, ◌≤◌, List, [], ◌++◌, length, replicate, slice_set, Option, Some, None, is_some, option_map, unwrap_or}
use Rattle.rbd_kinds.specs.declared.answer.Answer.{Answer}
use Rattle.rbd_kinds.specs.declared.answer.Answer.TheVariants as answer
use Rattle.rbd_kinds.specs.declared.map_op.MapOp.{MapOp}
use Rattle.rbd_kinds.specs.declared.map_op.MapOp.TheVariants.{Resize, Get, Put, Set, Remove}
use Rattle.rbd_kinds.specs.States.{HoldStates}
use Rattle.rbd_map.specs.States.{bits_of, states_of}
use Rattle.rbd_site.specs.Found.{done_where}

-- The conditions: a map has at most 2^20 objects and no state 3, and a state is set of an object
-- that the map has.
pub record AreBits (bits : List ℕ) : Type 0 where
  pub states : HoldStates bits
  pub long : 4 * length bits ≤ 2 ^ 20

abbrev pub MaySetState : (map : Option (List ℕ)) → (object state : ℕ) → Type 0
MaySetState None object state = Unit {0}
MaySetState (Some states) object state = (object < length states) × (state < 3)

abbrev pub MayDoOnMap : (map : Option (List ℕ)) → MapOp → Type 0
MayDoOnMap map (Resize count) = count ≤ 2 ^ 20
MayDoOnMap map (Get snap) = Unit {0}
MayDoOnMap map (Put snap bits) = AreBits bits
MayDoOnMap map (Set snap object state) = MaySetState map object state
MayDoOnMap map (Remove snap) = Unit {0}

abbrev pub states_answer : (map : Option (List ℕ)) → Answer
states_answer None = answer.Absent
states_answer (Some states) = answer.Bits (bits_of states)

abbrev pub map_answer : (map : Option (List ℕ)) → MapOp → Answer
map_answer map (Resize count) = answer.Done
map_answer map (Get snap) = states_answer map
map_answer map (Put snap bits) = answer.Done
map_answer map (Set snap object state) = done_where (is_some map)
map_answer map (Remove snap) = done_where (is_some map)

-- with objects in state 0 behind it until there are so many: a map never becomes shorter
abbrev pub lengthened : (count : ℕ) → (states : List ℕ) → List ℕ
lengthened count states = states ++ replicate (count - length states) 0

-- `map-put` makes a map of four objects a byte, and `map-resize` one where there is none.
abbrev pub map_after : (map : Option (List ℕ)) → MapOp → Option (List ℕ)
map_after map (Resize count) = Some (lengthened count (unwrap_or map []))
map_after map (Get snap) = map
map_after map (Put snap bits) = Some (states_of bits (4 * length bits))
map_after map (Set snap object state) = option_map (λ states. slice_set states object state) map
map_after map (Remove snap) = None

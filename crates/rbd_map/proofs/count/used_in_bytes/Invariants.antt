use Rattle.std.proofs.Common.{◌≡◌, ◌*◌, count_by}
use Rattle.rbd_map.specs.States.{states_of, is_used}
use Rattle.rbd_map.proofs.count.used_in_bytes.Given as goal

abbrev pub invariant-loop-byte : goal.invariant-loop-byte
invariant-loop-byte l = l.used ≡ count_by is_used (states_of l.bytes (4 * l.byte-index))

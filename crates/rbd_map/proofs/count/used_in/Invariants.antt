use Rattle.std.proofs.Common.{◌≡◌, count_by}
use Rattle.rbd_map.specs.States.{states_of, is_used}
use Rattle.rbd_map.proofs.count.used_in.Given as goal

abbrev pub invariant-loop-object : goal.invariant-loop-object
invariant-loop-object l = l.used ≡ count_by is_used (states_of l.bytes l.object)

use Rattle.std.proofs.Common.{◌≡◌, map}
use Rattle.std.specs.List.{range_with_len}
use Rattle.rbd_client.specs.Actor.{op_wanted}
use Rattle.rbd_world.proofs.stop.wanted_by.Given as goal

abbrev pub invariant-loop-slot : goal.invariant-loop-slot
invariant-loop-slot g l = l.wanted.items ≡ map (λ slot. op_wanted g.R.Machine.stands slot l.fn.client) (range_with_len 0 l.slot)

use Rattle.std.proofs.Common.{◌≡◌, ◌-◌, ◌≤◌}
use Rattle.std.specs.List.{flat_map, range_with_len}
use Rattle.rbd_slots.specs.Session.{held_in, script_line}
use Rattle.rbd_world.specs.Step.{ascending, line_or_none}
use Rattle.rbd_world.proofs.stop.lost_by.Given as goal

-- those of the slots from this one on
abbrev pub invariant-loop-slot : goal.invariant-loop-slot
invariant-loop-slot g l = (l.slot ≤ 65) × (l.lost.items ≡ ascending (flat_map (λ slot. line_or_none (script_line (held_in slot l.fn.client.session.slots))) (range_with_len l.slot (65 - l.slot))))

abbrev pub decreases-loop-slot : goal.decreases-loop-slot
decreases-loop-slot g l = l.slot

use Rattle.std.proofs.Common.{◌≡◌, ◌++◌, map, take, drop}
use Rattle.rbd_queue.specs.Kept.{passed_at}
use Rattle.rbd_queue.proofs.standing.pass_each.Given as goal

-- those before are past, and the others are as they were
abbrev pub invariant-loop-standing : goal.invariant-loop-standing
invariant-loop-standing l = l.members ≡ map (passed_at l.slot) (take l.standing-index l.initial.members) ++ drop l.standing-index l.initial.members

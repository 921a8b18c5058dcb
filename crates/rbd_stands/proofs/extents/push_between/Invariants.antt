use Rattle.std.proofs.Common.{◌≡◌, ◌++◌, ◌-◌}
use Rattle.rbd_stands.specs.Kept.{extents_between}
use Rattle.rbd_stands.proofs.extents.push_between.Given as goal

-- what was added, and what is left to add
abbrev pub invariant-loop-offset : goal.invariant-loop-offset
invariant-loop-offset l = l.found ++ extents_between l.layout l.object l.offset l.end ≡ l.initial.found ++ extents_between l.layout l.object l.from l.end

abbrev pub decreases-loop-offset : goal.decreases-loop-offset
decreases-loop-offset l = l.end - l.offset

use Rattle.std.proofs.Common.{◌≡◌, ◌++◌, map, take, drop}
use Rattle.rbd_header.specs.Header.{status_marked}
use Rattle.rbd_header.proofs.snaps.mark_each.Given as goal

-- those before are marked, and the others are as they were
abbrev pub invariant-loop-found : goal.invariant-loop-found
invariant-loop-found l = l.snaps ≡ map (status_marked l.snap l.status) (take l.found-index l.initial.snaps) ++ drop l.found-index l.initial.snaps

use Rattle.std.proofs.Common.{◌≡◌, ◌++◌, map, take, drop}
use Rattle.rbd_flat.specs.Flat.{with_status}
use Rattle.rbd_flat.proofs.image.mark_snapshots.Given as goal

abbrev pub invariant-loop-snapshot : goal.invariant-loop-snapshot
invariant-loop-snapshot l = l.snaps ≡ map (with_status l.snap l.status) (take l.snapshot-index l.initial.snaps) ++ drop l.snapshot-index l.initial.snaps

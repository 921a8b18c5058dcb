use Rattle.std.proofs.Common.{◌≡◌, drop}
use Rattle.rbd_header.specs.Header.{snap_in}
use Rattle.rbd_header.proofs.lookup.first_with.Given as goal

-- what is left to look through has the answer
abbrev pub invariant-loop-found : goal.invariant-loop-found
invariant-loop-found l = snap_in (drop l.found-index l.snaps) l.snap ≡ snap_in l.snaps l.snap

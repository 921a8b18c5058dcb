use Rattle.std.proofs.Common.{◌≡◌, drop}
use Rattle.rbd_kinds.specs.Header.{snap_named}
use Rattle.rbd_kinds.proofs.header.first_named.Given as goal

-- what is left to look through has the answer
abbrev pub invariant-loop-found : goal.invariant-loop-found
invariant-loop-found l = snap_named (drop l.found-index l.snaps) l.name ≡ snap_named l.snaps l.name

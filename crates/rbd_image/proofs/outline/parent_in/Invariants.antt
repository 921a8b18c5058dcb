use Rattle.std.proofs.Common.{◌≡◌, drop}
use Rattle.rbd_meaning.specs.Removals.{parent_in}
use Rattle.rbd_image.proofs.outline.parent_in.Given as goal

-- what is left to look through has the answer
abbrev pub invariant-loop-snap : goal.invariant-loop-snap
invariant-loop-snap l = parent_in (drop l.snap-index l.snaps) ≡ parent_in l.snaps

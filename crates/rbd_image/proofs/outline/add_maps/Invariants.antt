use Rattle.std.proofs.Common.{◌≡◌, ◌++◌, map, take}
use Rattle.rbd_image.specs.Remnants.{map_remnant}
use Rattle.rbd_image.proofs.outline.add_maps.Given as goal

-- the maps of the snapshots before are added
abbrev pub invariant-loop-snap : goal.invariant-loop-snap
invariant-loop-snap l = l.made.items ≡ l.initial.made.items ++ map map_remnant (take l.snap-index l.snap-items)

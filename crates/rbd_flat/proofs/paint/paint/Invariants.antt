use Rattle.std.proofs.Common.{◌≡◌, drop}
use Rattle.std.specs.List.{flat_map}
use Rattle.rbd_flat.specs.Flat.{painted, places_of}
use Rattle.rbd_flat.specs.Series.{extents_in}
use Rattle.rbd_flat.proofs.paint.paint.Given as goal

-- what is left to paint is what there was
abbrev pub invariant-loop-series : goal.invariant-loop-series
invariant-loop-series l = painted (places_of (flat_map extents_in (drop l.series-index l.series-items))) l.rest l.bytes ≡ painted (places_of l.at) l.fn.new l.initial.bytes

use Rattle.std.proofs.Common.{◌≡◌, ◌*◌, drop}
use Rattle.rbd_flat.specs.Flat.{painted, places_of}
use Rattle.rbd_flat.specs.Series.{extents_from}
use Rattle.rbd_flat.proofs.paint.paint_series.Given as goal

-- the extents so far are painted, and their bytes taken
abbrev pub invariant-loop-k : goal.invariant-loop-k
invariant-loop-k l =
    (l.bytes ≡ painted (places_of (extents_from l.series.first l.series.step l.k)) l.new l.initial.bytes)
    × (l.rest ≡ drop (l.k * l.series.first.len) l.new)

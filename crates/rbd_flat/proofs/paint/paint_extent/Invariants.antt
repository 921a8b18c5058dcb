use Rattle.std.proofs.Common.{◌≡◌}
use Rattle.std.specs.List.{range_with_len}
use Rattle.rbd_flat.specs.Flat.{painted}
use Rattle.rbd_flat.proofs.paint.paint_extent.Given as goal

abbrev pub invariant-loop-k : goal.invariant-loop-k
invariant-loop-k l = l.bytes ≡ painted (range_with_len l.at l.k) l.new l.initial.bytes

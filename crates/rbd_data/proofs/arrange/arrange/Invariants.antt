use Rattle.std.proofs.Common.{◌≡◌, length, drop, replicate}
use Rattle.rbd_meaning.specs.Arrange.{arranged}
use Rattle.rbd_data.proofs.arrange.arrange.Given as goal

-- once the pieces that are left are put, all are
abbrev pub invariant-loop-piece : goal.invariant-loop-piece
invariant-loop-piece l = record {
  left : arranged l.extent.at (drop l.piece-index l.piece-items) l.rest l.into.items ≡ arranged l.extent.at l.piece-items l.read (replicate l.extent.len 0);
  long : length l.into.items ≡ l.extent.len;
}

use Rattle.std.proofs.Common.{◌≡◌, ◌*◌}
use Rattle.rbd_image.proofs.Counting.{used_before}
use Rattle.rbd_image.proofs.used.used_among.Given as goal

-- those of the bytes before
abbrev pub invariant-loop-index : goal.invariant-loop-index
invariant-loop-index l = l.used ≡ used_before l.count l.bits (4 * l.index)

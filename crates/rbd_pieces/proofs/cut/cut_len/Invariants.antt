use Rattle.std.proofs.Common.{◌≡◌, ◌≤◌, length, take}
use Rattle.rbd_pieces.specs.Full.{cut_bytes}
use Rattle.rbd_pieces.proofs.cut.cut_len.Given as goal

-- what is left is cut as all of it
abbrev pub invariant-loop-len : goal.invariant-loop-len
invariant-loop-len l = record {
  within : l.len ≤ length l.bytes;
  cut : cut_bytes (take l.len l.bytes) ≡ cut_bytes l.bytes;
}

abbrev pub decreases-loop-len : goal.decreases-loop-len
decreases-loop-len l = l.len

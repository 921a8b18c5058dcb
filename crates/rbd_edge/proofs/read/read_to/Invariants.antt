use Rattle.std.proofs.Common.{◌≡◌, ◌-◌, ◌≤◌, IfSome, take, vec_len}
use Rattle.rbd_edge.specs.Source.{left_after}
use Rattle.rbd_edge.proofs.read.read_to.Given as goal

-- what was taken so far stands in the vector, and the source has not failed
abbrev pub invariant-loop-bytes : goal.invariant-loop-bytes
invariant-loop-bytes g l = record {
  few : vec_len l.bytes ≤ l.limit;
  room : vec_len l.buffer ≡ l.block;
  told : IfSome (g.S.Source.left l.fn.source) (λ left. l.bytes.items ≡ take (vec_len l.bytes) left);
  rest : g.S.Source.left l.source ≡ left_after (vec_len l.bytes) (g.S.Source.left l.fn.source);
  quiet : g.S.Source.faults l.source ≡ g.S.Source.faults l.fn.source;
}

abbrev pub decreases-loop-bytes : goal.decreases-loop-bytes
decreases-loop-bytes g l = l.limit - vec_len l.bytes

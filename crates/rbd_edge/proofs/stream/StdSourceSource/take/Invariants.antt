use Rattle.std.proofs.Common.{◌≡◌}
use Rattle.std.specs.Io.KnownBytes.{Keeps}
use Rattle.rbd_edge.proofs.stream.StdSourceSource.take.Given as goal

-- no call so far has moved a byte or was counted
abbrev pub invariant-loop : goal.invariant-loop
invariant-loop g l = record {
  quiet : l.self.faults ≡ l.fn.self.faults;
  kept : Keeps (g.I.Read.remaining l.fn.self.reader) (g.I.Read.remaining l.self.reader);
}

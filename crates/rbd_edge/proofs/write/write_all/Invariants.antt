use Rattle.std.proofs.Common.{◌≡◌, ◌-◌, ◌≤◌, length, take}
use Rattle.rbd_edge.specs.Sink.{held_with}
use Rattle.rbd_edge.proofs.write.write_all.Given as goal

-- what was given so far is held, and the sink has not failed
abbrev pub invariant-loop-given : goal.invariant-loop-given
invariant-loop-given g l = record {
  within : l.given ≤ length l.text;
  gained : g.K.Sink.held l.sink ≡ held_with (take l.given l.text) (g.K.Sink.held l.fn.sink);
  quiet : g.K.Sink.faults l.sink ≡ g.K.Sink.faults l.fn.sink;
}

abbrev pub decreases-loop-given : goal.decreases-loop-given
decreases-loop-given g l = length l.text - l.given

use Rattle.std.proofs.Common.{◌≡◌, ◌≤◌, take}
use Rattle.rbd_generate.specs.Summary.{command_count}
use Rattle.rbd_generate.proofs.tally.commands_in.Given as goal

abbrev pub invariant-loop-line : goal.invariant-loop-line
invariant-loop-line l = record {
  counted : l.count ≡ command_count (take l.line-index l.fn.lines);
  few : l.count ≤ l.line-index;
}

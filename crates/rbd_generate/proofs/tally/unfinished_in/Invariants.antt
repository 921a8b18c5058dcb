use Rattle.std.proofs.Common.{◌≡◌, ◌≤◌, take}
use Rattle.std.specs.Prelude.{count_by}
use Rattle.rbd_generate.specs.Summary.{is_open}
use Rattle.rbd_generate.proofs.tally.unfinished_in.Given as goal

abbrev pub invariant-loop-line : goal.invariant-loop-line
invariant-loop-line l = record {
  counted : l.count ≡ count_by (is_open l.fn.answered) (take l.line-index l.fn.lines);
  few : l.count ≤ l.line-index;
}

use Rattle.std.proofs.Common.{◌≡◌, ◌≤◌, ◌*◌, take}
use Rattle.std.specs.Prelude.{sum_by}
use Rattle.rbd_generate.specs.Summary.{bytes_shown_by}
use Rattle.rbd_generate.proofs.tally.shown_in.Given as goal

abbrev pub invariant-loop-entry : goal.invariant-loop-entry
invariant-loop-entry l = record {
  counted : l.bytes ≡ sum_by bytes_shown_by (take l.entry-index l.fn.history);
  few : l.bytes ≤ 18446744073709551615 * l.entry-index;
}

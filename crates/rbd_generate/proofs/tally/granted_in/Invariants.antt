use Rattle.std.proofs.Common.{◌≡◌, ◌≤◌, take}
use Rattle.std.specs.Prelude.{count_by}
use Rattle.rbd_generate.specs.Summary.{is_granted}
use Rattle.rbd_generate.proofs.tally.granted_in.Given as goal

abbrev pub invariant-loop-entry : goal.invariant-loop-entry
invariant-loop-entry l = record {
  counted : l.count ≡ count_by is_granted (take l.entry-index l.fn.history);
  few : l.count ≤ l.entry-index;
}
